use Rattle.std.proofs.Common.{◌-◌, ◌≤◌}
use Rattle.claxon_input.specs.Source.{Skips}
use Rattle.claxon_input.specs.RunningReader.{running_source}
use Rattle.claxon_input.proofs.running.RunningReaderReadBytes.skip.Given as goal

abbrev pub invariant-loop-left : goal.invariant-loop-left
invariant-loop-left g l = record {
  within : l.left ≤ l.amount;
  taken : Skips (running_source g.R.ReadBytes.source g.S.Running.update l.fn.self) (running_source g.R.ReadBytes.source g.S.Running.update l.self) (l.amount - l.left);
}

abbrev pub decreases-loop-left : goal.decreases-loop-left
decreases-loop-left g l = l.left
