use Rattle.std.proofs.Common.{rules}
use Rattle.claxon_command_line.proofs.messages.shown_name.Goals as goal

pub returns-in-Output : goal.returns-in-Output
returns-in-Output c = search rules
