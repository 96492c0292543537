use Rattle.claxon_stream.proofs.Searching.{Searching}
use Rattle.claxon_stream.proofs.finder.FrameFinder.find_next.Given as goal

abbrev pub invariant-loop-position : goal.invariant-loop-position
invariant-loop-position l = Searching l.known l.at l.bytes l.is_end l.fn.self l.self l.position
