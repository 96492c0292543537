use Rattle.std.proofs.Common.{append_assoc, arith}
use Rattle.claxon_program.proofs.program.Program.help_text.Goals as goal

pub returns : goal.returns
returns c = record { is_text = grind (arith, append_assoc) }
