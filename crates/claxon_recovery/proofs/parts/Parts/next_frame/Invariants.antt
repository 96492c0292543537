use Rattle.std.proofs.Common.{◌≡◌}
use Rattle.claxon_recovery.specs.Parts.{parts_memory}
use Rattle.claxon_recovery.proofs.NextFrames.{DamageSoFar}
use Rattle.claxon_recovery.proofs.parts.Parts.next_frame.Given as goal

abbrev pub invariant-loop : goal.invariant-loop
invariant-loop g l = record {
  so_far : DamageSoFar g.R.ReadBytes.source l.fn.self l.self l.counter;
  memory : parts_memory l.self ≡ parts_memory l.fn.self;
}
