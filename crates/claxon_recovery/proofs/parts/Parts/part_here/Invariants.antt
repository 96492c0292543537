use Rattle.std.proofs.Common.{◌≡◌, ◌-◌, ◌≤◌}
use Rattle.claxon_recovery.specs.Budget.{CountsUnsearched}
use Rattle.claxon_recovery.specs.Kept.{most_kept}
use Rattle.claxon_recovery.specs.Parts.{Stays, parts_budget, parts_known, parts_memory}
use Rattle.claxon_recovery.proofs.parts.Parts.part_here.Given as goal

abbrev pub invariant-loop-is_full : goal.invariant-loop-is_full
invariant-loop-is_full g l = record {
  stays : Stays g.R.ReadBytes.source l.fn.self l.self;
  memory : parts_memory l.self ≡ parts_memory l.fn.self;
  same : parts_known l.self ≡ parts_known l.fn.self;
  least : 65536 ≤ l.wanted;
  most : l.wanted ≤ most_kept (parts_known l.fn.self);
  counted : CountsUnsearched 0 (parts_budget l.fn.self) (parts_budget l.self);
}

abbrev pub decreases-loop-is_full : goal.decreases-loop-is_full
decreases-loop-is_full g l = most_kept (parts_known l.fn.self) - l.wanted
