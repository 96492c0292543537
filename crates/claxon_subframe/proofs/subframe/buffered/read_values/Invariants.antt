use Rattle.std.proofs.Common.{length, ◌-◌, ◌≤◌}
use Rattle.claxon_input.specs.State.{bits_in}
use Rattle.claxon_input.proofs.FieldLoops.{TimesSoFar}
use Rattle.claxon_subframe.proofs.subframe.buffered.read_values.Given as goal

abbrev pub invariant-loop-start : goal.invariant-loop-start
invariant-loop-start g l = (l.start ≤ length l.buffer) × TimesSoFar (g.C.GroupCode.value_at l.code) (length l.fn.buffer) l.buffer l.start (bits_in g.R.ReadBytes.source l.fn.input) (bits_in g.R.ReadBytes.source l.input)

abbrev pub decreases-loop-start : goal.decreases-loop-start
decreases-loop-start g l = length l.initial.buffer - l.start
