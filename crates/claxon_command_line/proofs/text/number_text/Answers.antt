use Rattle.std.proofs.Common.{rules}
use Rattle.claxon_command_line.specs.Text.{number_text}
use Rattle.claxon_command_line.proofs.text.number_text.Goals as goal

pub returns-in-None : goal.returns-in-None
unfolding number_text
returns-in-None g c = record { is_text = search rules }
