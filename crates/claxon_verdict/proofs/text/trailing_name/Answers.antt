use Rattle.std.proofs.Common.{arith}
use Rattle.std.proofs.lemmas.Grind.{common_steps}
use Rattle.claxon_verdict.proofs.text.trailing_name.Goals as goal

pub returns-in-Zeros : goal.returns-in-Zeros
returns-in-Zeros c = grind (arith, common_steps)
