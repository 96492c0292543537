use Rattle.std.proofs.Common.{arith}
use Rattle.std.proofs.lemmas.Grind.{common_steps}
use Rattle.claxon_wav.proofs.plan.announced_size.Goals as goal

pub returns-in-Some-data_size-clause-is_announced : goal.returns-in-Some-data_size-clause-is_announced
returns-in-Some-data_size-clause-is_announced c = grind (arith, common_steps)
