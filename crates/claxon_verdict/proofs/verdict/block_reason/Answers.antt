use Rattle.std.proofs.Common.{arith}
use Rattle.std.proofs.lemmas.Grind.{common_steps}
use Rattle.claxon_verdict.proofs.verdict.block_reason.Goals as goal

pub returns-in-BytesLeft : goal.returns-in-BytesLeft
returns-in-BytesLeft c = grind (arith, common_steps)
