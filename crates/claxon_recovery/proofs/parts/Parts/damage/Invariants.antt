use Rattle.std.proofs.Common.{◌≡◌, ◌+◌, ◌%◌, ◌^◌}
use Rattle.claxon_recovery.specs.Budget.{unsearched_positions}
use Rattle.claxon_recovery.specs.Parts.{parts_budget, parts_memory}
use Rattle.claxon_recovery.specs.Steps.{first_step, step_unsearched}
use Rattle.claxon_recovery.proofs.Damages.{Passes}
use Rattle.claxon_recovery.proofs.parts.Parts.damage.Given as goal

abbrev pub invariant-loop : goal.invariant-loop
invariant-loop g l = record {
  passes : Passes g.R.ReadBytes.source l.fn.cause l.fn.self l.self l.passed l.counter;
  memory : parts_memory l.self ≡ parts_memory l.fn.self;
  counted : (unsearched_positions (parts_budget l.self) + step_unsearched (first_step l.fn.cause) 0) % 2 ^ 64 ≡ (unsearched_positions (parts_budget l.fn.self) + l.passed.unsearched) % 2 ^ 64;
}
