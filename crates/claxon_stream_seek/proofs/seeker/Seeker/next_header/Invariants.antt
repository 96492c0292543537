use Rattle.std.proofs.Common.{◌≡◌, ◌-◌}
use Rattle.claxon_stream_seek.proofs.seeker.Seeker.next_header.Given as goal

abbrev pub invariant-loop-next : goal.invariant-loop-next
invariant-loop-next l = l.self ≡ l.fn.self

abbrev pub decreases-loop-next : goal.decreases-loop-next
decreases-loop-next l = l.end - l.next
