use Rattle.std.proofs.Common.{arith}
use Rattle.std.proofs.lemmas.Grind.{common_steps}
use Rattle.claxon_wav.proofs.header.default_channel_mask.Goals as goal

pub returns-in-7 : goal.returns-in-7
returns-in-7 c = grind (arith, common_steps)
