use Rattle.std.proofs.Common.{arith}
use Rattle.std.proofs.lemmas.Grind.{common_steps}
use Rattle.claxon_verdict.proofs.text.wide_text.Goals as goal

pub returns-in-Streaminfo : goal.returns-in-Streaminfo
returns-in-Streaminfo c = grind (arith, common_steps)
