use Rattle.claxon_format.proofs.RiceCodes.{Reads-rice_code as law}
use Rattle.claxon_format.proofs.rice_code_reads.Goals as goal

pub returns : goal.returns
returns c = record { rice_code_reads = law }
