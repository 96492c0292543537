use Rattle.std.proofs.Common.{arith, rules}
use Rattle.std.proofs.lemmas.Grind.{common_steps}
use Rattle.claxon_input.proofs.input.IoCursorReadBytes.read_into.Goals as goal

pub returns-then-buffer-remaining-clause-failure_or_eof : goal.returns-then-buffer-remaining-clause-failure_or_eof
returns-then-buffer-remaining-clause-failure_or_eof g c = grind (arith, common_steps)

pub returns-then-buffer-remaining-clause-kept : goal.returns-then-buffer-remaining-clause-kept
returns-then-buffer-remaining-clause-kept g c = search rules
