use Rattle.std.proofs.Common.{rules}
use Rattle.claxon_input.proofs.input.BufferedReaderReadBytes.next_buffered.Goals as goal

pub returns : goal.returns
returns g c = record { is_sound = search rules }
