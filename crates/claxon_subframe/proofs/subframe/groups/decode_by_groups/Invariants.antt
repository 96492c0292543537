use Rattle.std.proofs.Common.{length, ◌-◌, ◌≤◌}
use Rattle.claxon_subframe.proofs.BufferedFields.{FieldsSoFar}
use Rattle.claxon_subframe.proofs.subframe.groups.decode_by_groups.Given as goal

abbrev pub invariant-loop-values : goal.invariant-loop-values
invariant-loop-values g l = (l.values ≤ length l.buffer) × FieldsSoFar (g.C.GroupCode.value_at l.code) l.buffer l.values l.fn.buffered l.buffered

abbrev pub decreases-loop-values : goal.decreases-loop-values
decreases-loop-values g l = length l.initial.buffer - l.values
