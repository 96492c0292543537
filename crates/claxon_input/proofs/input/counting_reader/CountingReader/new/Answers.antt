use Rattle.std.proofs.Common.{arith}
use Rattle.std.proofs.lemmas.Grind.{common_steps}
use Rattle.claxon_input.proofs.input.counting_reader.CountingReader.new.Goals as goal

pub returns-clause-nothing_is_counted : goal.returns-clause-nothing_is_counted
returns-clause-nothing_is_counted g c = grind (arith, common_steps)
