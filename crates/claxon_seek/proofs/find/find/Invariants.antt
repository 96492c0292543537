use Rattle.std.proofs.Common.{◌≡◌}
use Rattle.claxon_seek.proofs.Searches.{Searched}
use Rattle.claxon_seek.proofs.find.find.Given as goal

abbrev pub invariant-loop-position : goal.invariant-loop-position
invariant-loop-position l = record {
  searched : Searched l.known l.sample l.bytes l.from l.fn.budget l.budget l.undecided l.position;
  memory : l.memory ≡ l.fn.memory;
}
