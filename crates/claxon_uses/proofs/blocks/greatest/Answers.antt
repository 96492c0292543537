use Rattle.std.proofs.Common.{◌≡◌, ◌∙◌, ap, get_or, max, pos, rules, sym, take, unsigned_abs, w32, ℕ}
use mir.Val.{SFits}
use Rattle.std.proofs.lemmas.Int.{to_z-of_z}
use Rattle.claxon_uses.specs.Peak.{greatest}
use Rattle.claxon_uses.proofs.Peaks.{greatest_more, greatest_none, max_is}
use Rattle.claxon_uses.proofs.blocks.greatest.Goals as goal

pub loop-i-init : goal.loop-i-init
loop-i-init c = sym greatest_none

pub loop-i-preserved : goal.loop-i-preserved
loop-i-preserved c =
    let samples = c.args.samples.now in
    let i = c.loop-i.i in
    let x = get_or samples i (pos 0) in
    let f : SFits w32 x = search rules in
    let size : c.unsigned_abs.result ≡ unsigned_abs x = c.unsigned_abs.ensures.value ∙ ap unsigned_abs (to_z-of_z w32 x f) in
    c.max-greatest.ensures ∙ max_is c.loop-i.greatest c.unsigned_abs.result ∙ ap (λ (k : ℕ). max k c.unsigned_abs.result) c.loop-i.invariant
    ∙ ap (λ (k : ℕ). max (greatest (take i samples)) k) size ∙ sym (greatest_more samples i c.loop-i-test.true)
