use Rattle.std.proofs.Common.{◌≡◌}
use Rattle.claxon_recovery.specs.Budget.{CountsUnsearched}
use Rattle.claxon_recovery.specs.Search.{NoneBefore}
use Rattle.claxon_recovery.proofs.search.next_frame.Given as goal

abbrev pub invariant-loop-position : goal.invariant-loop-position
invariant-loop-position l = record {
  none : NoneBefore l.known l.bytes l.position;
  memory : l.memory ≡ l.fn.memory;
  counted : CountsUnsearched 0 l.fn.budget l.budget;
}
