use Rattle.claxon_format.proofs.Streams.{one_stream as law}
use Rattle.claxon_format.proofs.one_stream.Goals as goal

pub returns : goal.returns
returns c = record { one_stream = law }
