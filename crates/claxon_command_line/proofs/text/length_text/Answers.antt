use Rattle.std.proofs.Common.{rules}
use Rattle.claxon_command_line.specs.Text.{length_text}
use Rattle.claxon_command_line.proofs.text.length_text.Goals as goal

pub returns-in-Some : goal.returns-in-Some
unfolding length_text
returns-in-Some g c = record { is_text = search rules }
