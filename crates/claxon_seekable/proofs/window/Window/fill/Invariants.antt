use Rattle.std.proofs.Common.{◌≡◌}
use Rattle.claxon_seekable.specs.Window.{KeepsCounts, KeepsEndTold, ReadsInTurn, ReadsOn, held, place}
use Rattle.claxon_seekable.proofs.Windows.{left_to_fill}
use Rattle.claxon_seekable.proofs.window.Window.fill.Given as goal

abbrev pub invariant-loop-self : goal.invariant-loop-self
invariant-loop-self g l =
    ReadsOn (held l.initial.self) (held l.self) × (place l.self ≡ place l.initial.self) × KeepsCounts l.initial.self l.self
    × KeepsEndTold g.R.Read.remaining l.initial.self l.self × ReadsInTurn l.initial.self l.self

abbrev pub decreases-loop-self : goal.decreases-loop-self
decreases-loop-self g l = left_to_fill l.wanted l.self
