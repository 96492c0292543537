use Rattle.std.proofs.Common.{◌≡◌}
use Rattle.claxon_stream_seek.proofs.seeker.Seeker.go_by_headers.Given as goal

abbrev pub invariant-loop : goal.invariant-loop
invariant-loop l = l.self.search ≡ l.fn.self.search
