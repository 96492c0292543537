use Rattle.claxon_format.proofs.Streaminfos.{Reads-streaminfo as law}
use Rattle.claxon_format.proofs.streaminfo_reads.Goals as goal

pub returns : goal.returns
returns c = record { streaminfo_reads = law }
