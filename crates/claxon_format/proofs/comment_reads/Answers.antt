use Rattle.claxon_format.proofs.Comments.{Reads-comment as law}
use Rattle.claxon_format.proofs.comment_reads.Goals as goal

pub returns : goal.returns
returns c = record { comment_reads = law }
