use Rattle.claxon_format.proofs.Residuals.{Reads-residual as law}
use Rattle.claxon_format.proofs.residual_reads.Goals as goal

pub returns : goal.returns
returns c = record { residual_reads = law }
