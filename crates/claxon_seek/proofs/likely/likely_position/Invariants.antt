use Rattle.std.proofs.Common.{◌≤◌, length}
use Rattle.claxon_seek.proofs.likely.likely_position.Given as goal

abbrev pub invariant-loop-step : goal.invariant-loop-step
invariant-loop-step l = (l.span.start ≤ l.span.end) × (l.first_frame ≤ l.span.start) × (l.span.end ≤ length l.bytes)
