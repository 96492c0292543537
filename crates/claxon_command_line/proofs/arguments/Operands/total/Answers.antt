use Rattle.std.proofs.Common.{rules}
use Rattle.claxon_command_line.proofs.arguments.Operands.total.Goals as goal

pub returns : goal.returns
returns c = search rules
