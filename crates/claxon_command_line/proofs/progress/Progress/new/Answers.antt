use Rattle.std.proofs.Common.{rules}
use Rattle.claxon_command_line.proofs.progress.Progress.new.Goals as goal

pub returns : goal.returns
returns g c = search rules
