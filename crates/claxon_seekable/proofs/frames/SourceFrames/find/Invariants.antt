use Rattle.std.proofs.Common.{◌≡◌}
use Rattle.claxon_stream_seek.specs.Seeker.{SeekIsPlaced, sought_by}
use Rattle.claxon_seekable.specs.Searches.{KeepsSearches, calls_left}
use Rattle.claxon_seekable.specs.Window.{KeepsCounts}
use Rattle.claxon_seekable.proofs.frames.SourceFrames.find.Given as goal

abbrev pub invariant-loop-answer : goal.invariant-loop-answer
invariant-loop-answer g l =
    (l.self.decoder ≡ l.fn.self.decoder) × KeepsCounts l.fn.self.window l.self.window × KeepsSearches l.fn.self.searches l.self.searches
    × (sought_by l.seeker ≡ sought_by l.fn.seeker) × SeekIsPlaced l.seeker

abbrev pub decreases-loop-answer : goal.decreases-loop-answer
decreases-loop-answer g l = calls_left l.self.searches
