use Rattle.std.proofs.Common.{◌≡◌, ◌-◌, length}
use Rattle.claxon_recovery.specs.Window.{ReadsOn, most_pending, pending}
use Rattle.claxon_recovery.proofs.window.Window.fill.Given as goal

abbrev pub invariant-loop-self : goal.invariant-loop-self
invariant-loop-self g l = record {
  reads : ReadsOn g.R.ReadBytes.source l.initial.self l.self;
  most : most_pending l.self ≡ most_pending l.initial.self;
}

abbrev pub decreases-loop-self : goal.decreases-loop-self
decreases-loop-self g l = l.wanted - length (pending l.self)
