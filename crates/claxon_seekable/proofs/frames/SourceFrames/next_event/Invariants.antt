use Rattle.std.proofs.Common.{◌≡◌}
use Rattle.claxon_seekable.specs.SourceFrames.{frames_position}
use Rattle.claxon_seekable.proofs.Tries.{IsTrying, left_to_try}
use Rattle.claxon_seekable.proofs.frames.SourceFrames.next_event.Given as goal

abbrev pub invariant-loop-event : goal.invariant-loop-event
invariant-loop-event g l =
    IsTrying l.known g.R.Read.remaining l.fn.self.window (frames_position l.fn.self) l.self.window l.self.decoder
    × (l.self.searches ≡ l.fn.self.searches)

abbrev pub decreases-loop-event : goal.decreases-loop-event
decreases-loop-event g l = left_to_try l.self.window
