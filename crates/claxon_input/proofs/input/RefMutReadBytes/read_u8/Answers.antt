use Rattle.std.proofs.Common.{rules}
use Rattle.claxon_input.proofs.input.RefMutReadBytes.read_u8.Goals as goal

pub returns-clause-is_sound : goal.returns-clause-is_sound
returns-clause-is_sound g c = search rules

pub returns-clause-failure_or_eof : goal.returns-clause-failure_or_eof
returns-clause-failure_or_eof g c = search rules
