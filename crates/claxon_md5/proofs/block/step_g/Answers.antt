use Rattle.std.proofs.Common.{arith}
use Rattle.claxon_md5.specs.Md5.{step}
use Rattle.claxon_md5.proofs.Steps.{g_added}
use Rattle.claxon_md5.proofs.block.step_g.Goals as goal

pub returns : goal.returns
unfolding step
returns c = grind (arith, g_added)
