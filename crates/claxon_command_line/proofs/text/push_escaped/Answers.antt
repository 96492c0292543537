use Rattle.std.proofs.Common.{rules}
use Rattle.claxon_command_line.specs.Text.{escaped_char}
use Rattle.claxon_command_line.proofs.text.push_escaped.Goals as goal

pub returns-in-10 : goal.returns-in-10
unfolding escaped_char
returns-in-10 g c = record { adds = search rules }
