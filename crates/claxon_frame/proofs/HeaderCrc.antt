-- The CRC-8 after the fields of a frame header.
use Rattle.std.proofs.Common.{◌≡◌, ℕ, ◌<◌, Some, ap, ◌∙◌}
use Rattle.claxon_format.specs.Bits.{bits_of}
use Rattle.claxon_format.specs.Fault.{HeaderCrc}
use Rattle.claxon_format.specs.read.Bytes.{crc_at, big_at}
use Rattle.claxon_format.specs.Crc.{crc8}
use Rattle.claxon_format.specs.Header.{Fields}
use Rattle.claxon_format.specs.read.Reading.{Done, and_then, done, taken}
use Rattle.claxon_format.proofs.CrcBytes.{with_crc_after}
use Rattle.claxon_input.specs.CrcUpdate.{update_crc8}
use Rattle.claxon_input.specs.Source.{Source, with_value}
use Rattle.claxon_input.specs.State.{State}
use Rattle.claxon_input.specs.Gives.{Consumes, or_eof}
use Rattle.claxon_input.proofs.RunningReaders.{source_crc_of_taken}
use Rattle.claxon_input.proofs.CrcUpdate.{determines_crc8}
use Rattle.claxon_input.proofs.States.{bytes_of_source}
use Rattle.claxon_format.specs.read.Header.{fields_at, fields_with_crc_at}
use Rattle.claxon_input.proofs.FieldOrEof.{enough, found, some_read}

-- the bytes of a source with this CRC-8
abbrev pub bytes_with_crc8 : Source ℕ → ℕ → State ℕ
bytes_with_crc8 source c = bytes_of_source (with_value (update_crc8 c) source)

-- it is compared with the CRC of the fields
pub header_crc_next : (u v : Source ℕ) (c d n : ℕ) (f : Fields) → c ≡ 0 → n ≡ d → n < 256 → Consumes (bytes_with_crc8 u c) (bytes_with_crc8 v d) (λ s m. or_eof 2 (fields_at big_at) s ≡ Done (Some f) m)
    → Consumes (bytes_with_crc8 u c) (bytes_with_crc8 v d) (λ s m. or_eof 2 fields_with_crc_at s ≡ found (and_then (crc_at 1 n HeaderCrc) (λ u. done f) m))
unfolding fields_with_crc_at
header_crc_next u v c d n f zero same small h = record {
  errors = h.errors;
  empty_reads = h.empty_reads;
  loans = h.loans;
  known = λ t.
      let k = h.known t in
      let r = some_read 2 (fields_at big_at) (bytes_with_crc8 u c).remaining f (bytes_with_crc8 v d).remaining k.is in
      let low : d < 256 = rw (← same) small in
      let crc : n ≡ crc8 (bits_of (taken (bytes_with_crc8 u c).remaining (bytes_with_crc8 v d).remaining)) = same ∙ source_crc_of_taken determines_crc8 u v d low (rw zero at h) t in
      record {
        known = k.known;
        is = enough 2 fields_with_crc_at (bytes_with_crc8 u c).remaining r.0 ∙ ap found (with_crc_after 1 n crc8 HeaderCrc (fields_at big_at) f (bytes_with_crc8 u c).remaining (bytes_with_crc8 v d).remaining r.1 crc);
        rest = k.rest;
        values = k.values;
      };
}
