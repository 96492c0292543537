use Rattle.std.proofs.Common.{arith}
use Rattle.std.proofs.lemmas.Grind.{common_steps}
use Rattle.claxon_c.proofs.seek.give.Goals as goal

pub returns-then-has_larger : goal.returns-then-has_larger
returns-then-has_larger c = grind (arith, common_steps)

pub returns : goal.returns
returns c = grind (arith, common_steps)
