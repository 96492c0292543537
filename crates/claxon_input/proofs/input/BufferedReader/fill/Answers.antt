use Rattle.std.proofs.Common.{arith}
use Rattle.std.proofs.lemmas.Grind.{common_steps}
use Rattle.claxon_input.proofs.input.BufferedReader.fill.Goals as goal

pub returns-clause-failure : goal.returns-clause-failure
returns-clause-failure g c = grind (arith, common_steps)

pub returns-clause-is_empty_after_err : goal.returns-clause-is_empty_after_err
returns-clause-is_empty_after_err g c = grind (arith, common_steps)

pub returns-clause-none : goal.returns-clause-none
returns-clause-none g c = grind (arith, common_steps)

pub returns-clause-some : goal.returns-clause-some
returns-clause-some g c = grind (arith, common_steps)

pub returns-in_err-count-clause-failure : goal.returns-in_err-count-clause-failure
returns-in_err-count-clause-failure g c = grind (arith, common_steps)

pub returns-in_err-count-clause-none : goal.returns-in_err-count-clause-none
returns-in_err-count-clause-none g c = grind (arith, common_steps)

pub returns-in_err-count-clause-some : goal.returns-in_err-count-clause-some
returns-in_err-count-clause-some g c = grind (arith, common_steps)
