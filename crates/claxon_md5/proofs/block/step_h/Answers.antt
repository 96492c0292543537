use Rattle.std.proofs.Common.{arith}
use Rattle.std.proofs.lemmas.Grind.{common_steps}
use Rattle.claxon_md5.specs.Md5.{step}
use Rattle.claxon_md5.proofs.block.step_h.Goals as goal

pub returns : goal.returns
unfolding step
returns c = grind (arith, common_steps)
