use Rattle.claxon_program.proofs.Printing.{prints}
use Rattle.claxon_program.proofs.program.Program.print.Goals as goal

pub returns-in-Help : goal.returns-in-Help
returns-in-Help g c = record { is_sound = rw c.in-Help.is (prints g.W.Write.contents _ _ _ _ _ c.help_text.ensures.is_text c.print_text.ensures.prints_text) }

pub returns-in-Version : goal.returns-in-Version
returns-in-Version g c = record { is_sound = rw c.in-Version.is (prints g.W.Write.contents _ _ _ _ _ c.version_text.ensures.is_text c.print_text-in-Version.ensures.prints_text) }
