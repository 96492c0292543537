use Rattle.claxon_subframe.proofs.ValueGroups.{GroupSoFar}
use Rattle.claxon_subframe.proofs.subframe.groups.decode_group.Given as goal

abbrev pub invariant-loop-place : goal.invariant-loop-place
invariant-loop-place g l = GroupSoFar (g.C.GroupCode.value_at l.code) l.first l.group l.place-index l.used l.peeked
