use Rattle.claxon_input.specs.State.{bytes_in}
use Rattle.claxon_frame.proofs.ContinuationBytes.{ContinuationSoFar}
use Rattle.claxon_frame.proofs.frame.header.read_continuation_bytes.Given as goal

abbrev pub invariant-loop : goal.invariant-loop
invariant-loop g l = ContinuationSoFar l.count l.fn.number l.counter l.number (bytes_in g.R.ReadBytes.source l.fn.input) (bytes_in g.R.ReadBytes.source l.input)
