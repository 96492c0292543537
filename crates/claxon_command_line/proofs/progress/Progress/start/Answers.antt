use Rattle.std.proofs.Common.{rules}
use Rattle.claxon_command_line.proofs.progress.Progress.start.Goals as goal

pub returns : goal.returns
returns g c = record { same_errors = search rules; total_is_set = search rules }
