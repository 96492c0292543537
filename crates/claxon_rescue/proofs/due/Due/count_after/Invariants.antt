use Rattle.std.proofs.Common.{◌≡◌, ◌≤◌, take}
use Rattle.std.specs.List.{count_by}
use Rattle.claxon_rescue.specs.Times.{begins_after}
use Rattle.claxon_rescue.proofs.due.Due.count_after.Given as goal

abbrev pub invariant-loop-i : goal.invariant-loop-i
invariant-loop-i l = record {
  so_far : l.count ≡ count_by (begins_after l.rules l.self l.sample) (take l.i l.ahead);
  few : l.count ≤ l.i;
}
