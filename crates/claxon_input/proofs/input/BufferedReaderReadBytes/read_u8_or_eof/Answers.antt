use Rattle.std.proofs.Common.{rules}
use Rattle.claxon_input.proofs.input.BufferedReaderReadBytes.read_u8_or_eof.Goals as goal

pub returns-clause-eof_is_sound : goal.returns-clause-eof_is_sound
returns-clause-eof_is_sound g c = search rules
