use Rattle.std.proofs.Common.{arith}
use Rattle.claxon_input.proofs.Sources.{failure_or_eof_after, skips_both, on_err}
use Rattle.claxon_input.proofs.running.RunningReaderReadBytes.skip.Goals as goal

pub returns-in_err-left-clause-failure_or_eof : goal.returns-in_err-left-clause-failure_or_eof
returns-in_err-left-clause-failure_or_eof g c =
    on_err c.from_residual.result (failure_or_eof_after _ c.loop-left.left c.loop-left.invariant.taken.2 (omega (arith, c.loop-left.invariant.taken.1)) c.in_err-left.ensures.failure_or_eof)

pub loop-left-preserved : goal.loop-left-preserved
loop-left-preserved g c = record {
  within = omega arith;
  taken = skips_both _ c.in_ok-left.field-0 _ c.loop-left.invariant.taken c.in_ok-left.ensures.are_skipped (omega (arith, c.in_ok-left.ensures.bound));
}
