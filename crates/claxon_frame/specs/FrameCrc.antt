-- What remains of the reader that computes the CRC of a frame (RFC 9639, section 9.3).
use Rattle.std.specs.Prelude.{ℕ}
use Rattle.claxon_input.specs.RunningReader.{running_source}
use Rattle.claxon_input.specs.CrcUpdate.{update_crc16}
use Rattle.claxon_input.specs.Source.{Source}
use Rattle.claxon_input.specs.State.{State, bytes_in}
use Rattle.claxon_input.specs.declared.running.RunningReader.{RunningReader}

-- what remains of a CRC-16 reader, over a reader with this source
abbrev pub crc16_bytes : {R : Type 0} → (R → Source ℕ) → RunningReader R ℕ → State ℕ
crc16_bytes source reader = bytes_in (running_source source update_crc16) reader
