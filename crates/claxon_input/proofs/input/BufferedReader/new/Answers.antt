use Rattle.std.proofs.Common.{rules}
use Rattle.claxon_input.proofs.input.BufferedReader.new.Goals as goal

pub returns-clause-nothing_was_read : goal.returns-clause-nothing_was_read
returns-clause-nothing_was_read g c = search rules
