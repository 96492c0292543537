use Rattle.std.proofs.Common.{arith, ◌∙◌, ◌-◌, sym, refl, List, ℕ, length, length-drop, length-take, subst, drop}
use Rattle.std.proofs.lemmas.Result.{err_from_is_err_and}
use Rattle.std.specs.Io.KnownBytes.{Appends}
use Rattle.std.proofs.lemmas.Grind.{common_steps}
use Rattle.claxon_write.specs.CountingWriter.{inner_contents}
use Rattle.claxon_write.proofs.Appended.{appends_more, take_piece}
use Rattle.claxon_write.proofs.Counts.{none_failed, none_failed_both, write_failed_after}
use Rattle.claxon_write.proofs.Puts.{appends_nothing, prefix_kept}
use Rattle.claxon_write.proofs.counting_writer.CountingWriter.write_whole.Goals as goal

pub loop-at-init : goal.loop-at-init
loop-at-init g c = record {
  inside = omega arith;
  written = appends_nothing (inner_contents g.W.Write.contents c.args.self.now);
  reference = refl;
  none_failed = none_failed c.args.self.now;
  unflushed = refl;
}

pub loop-at-preserved : goal.loop-at-preserved
loop-at-preserved g c =
    let inv = c.loop-at.invariant in
    let w = c.in_ok-at.ensures.writes_some in
    let n = c.in_ok-at.field-0 in
    let at = c.loop-at.at in
    let l = c.args.bytes.now in
    let P : List ℕ → Type 0 = λ s. Appends (inner_contents g.W.Write.contents c.args.self.now) (inner_contents g.W.Write.contents c.write_some.new.self) s in record {
      inside = omega (arith, w.1, length-take (length l - at) (drop at l), length-drop at l);
      written = subst P (sym (take_piece at n l inv.inside)) (appends_more _ _ _ _ _ inv.written w.2);
      reference = c.in_ok-at.ensures.same_inner ∙ inv.reference;
      none_failed = none_failed_both inv.none_failed c.in_ok-at.ensures.succeeded;
      unflushed = c.in_ok-at.ensures.counts_other_call.none ∙ inv.unflushed;
    }

pub returns-in_err-at-clause-writes_prefix : goal.returns-in_err-at-clause-writes_prefix
returns-in_err-at-clause-writes_prefix g c =
    let p = err_from_is_err_and c.from_residual.result c.from_residual.ensures.1 in
    rw p.1 (prefix_kept _ _ _ c.loop-at.at _ c.loop-at.invariant.written c.in_err-at.ensures.kept)

pub returns-in_err-at-clause-failed : goal.returns-in_err-at-clause-failed
returns-in_err-at-clause-failed g c =
    let p = err_from_is_err_and c.from_residual.result c.from_residual.ensures.1 in
    rw p.1 (write_failed_after c.loop-at.invariant.none_failed c.in_err-at.ensures.failed)

pub returns-clause-writes_all : goal.returns-clause-writes_all
returns-clause-writes_all g c = grind (arith, common_steps)

pub write_some-requires : goal.write_some-requires
write_some-requires g c = grind (arith, common_steps)
