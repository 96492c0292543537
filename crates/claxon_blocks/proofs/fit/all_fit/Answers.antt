use Rattle.std.proofs.Common.{ℤ, List, get_or, pos, refl, sym, subst, arith, rules, w32}
use Rattle.std.specs.Prelude.{All, IsTrue, ◌↔◌}
use Rattle.std.proofs.lemmas.Int.{to_z-of_z}
use Rattle.std.proofs.lemmas.List.{take_all}
use Rattle.std.proofs.lemmas.List.Elements.{All-nil}
use mir.Val.{SFits}
use Rattle.claxon.specs.Bits.{FitsIn}
use Rattle.claxon_blocks.proofs.SamplesFit.{all_more, decided}
use Rattle.claxon_blocks.proofs.fit.all_fit.Goals as goal

pub loop-i-init : goal.loop-i-init
loop-i-init c = (λ e. All-nil (FitsIn c.args.bit_depth), λ h. refl)

pub loop-i-preserved : goal.loop-i-preserved
loop-i-preserved c =
    let xs = c.args.samples.now in
    let i = c.loop-i.i in
    let x = get_or xs i (pos 0) in
    let f : SFits w32 x = search rules in
    let P : ℤ → Type 0 = FitsIn c.args.bit_depth in
    let same = to_z-of_z w32 x f in
    all_more P xs i (pos 0) c.loop-i-test.true c.loop-i.fit c.fits-fit.result c.loop-i.invariant
    (decided (P x) c.fits-fit.result (λ e. subst P same (c.fits-fit.ensures.yes e)) (λ e p. c.fits-fit.ensures.no e (subst P (sym same) p)))

pub returns : goal.returns
returns c = subst (λ (z : List ℤ). IsTrue c.loop-i.fit ↔ All (FitsIn c.args.bit_depth) z) (take_all c.loop-i.i c.args.samples.now (omega arith)) c.loop-i.invariant
