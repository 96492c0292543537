use Rattle.std.proofs.Common.{arith}
use Rattle.std.proofs.lemmas.Grind.{common_steps}
use Rattle.claxon_verdict.proofs.verdict.Outcome.status.Goals as goal

pub returns-in-NotSupported : goal.returns-in-NotSupported
returns-in-NotSupported c = grind (arith, common_steps)
