use Rattle.std.proofs.Common.{◌-◌}
use Rattle.claxon_stream_seek.proofs.Searched.{IsSearched}
use Rattle.claxon_stream_seek.proofs.search.ByteSearch.search.Given as goal

abbrev pub invariant-loop-self : goal.invariant-loop-self
invariant-loop-self l = IsSearched l.at l.bytes l.is_end l.known l.fn.self l.self l.from l.end

abbrev pub decreases-loop-self : goal.decreases-loop-self
decreases-loop-self l = l.end - l.self.position
