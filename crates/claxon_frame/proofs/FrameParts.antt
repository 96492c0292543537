-- A frame by its parts.
use Rattle.std.proofs.Common.{◌≡◌, ℕ, List, refl, ℤ}
use Rattle.std.specs.Prelude.{Option}
use Rattle.claxon_format.specs.Bits.{bits_of}
use Rattle.claxon_format.specs.Fault.{FrameCrc}
use Rattle.claxon_format.specs.Frame.{StreamFormat}
use Rattle.claxon_format.specs.read.Bytes.{crc_at}
use Rattle.claxon_format.specs.read.Frame.{frame_bytes_at, subframes_at, block_from, frame_without_crc_at, Start, start_at}
use Rattle.claxon_format.specs.Crc.{crc16}
use Rattle.claxon_format.specs.read.Reading.{Done, bind, done, taken}
use Rattle.claxon_format.specs.Stereo.{bit_depths}
use Rattle.claxon_format.proofs.CrcBytes.{with_crc_after}
use Rattle.claxon_input.proofs.ConsecutiveCalls.{StopsWith, StopsAs}

-- if a part is invalid or incomplete, so is the frame
pub start_stops : (stream : Option StreamFormat) → StopsWith (start_at stream) (frame_bytes_at stream)
unfolding frame_without_crc_at
start_stops stream = record {
  fault = λ s f rest e. rw e refl;
  incomplete = λ s e. rw e refl;
}

pub channels_stop : (stream : Option StreamFormat) → (start : Start) (s m : List ℕ) → start_at stream s ≡ Done start m → StopsAs (subframes_at start.size (bit_depths start.channel_code start.bit_depth) m) (frame_bytes_at stream s)
unfolding frame_without_crc_at
channels_stop stream start s m h = record {
  fault = λ f rest e. rw (h, e) refl;
  incomplete = λ e. rw (h, e) refl;
}

-- after the subframes comes the CRC of the bytes before it
pub footer_is : (stream : Option StreamFormat) → (start : Start) (channels : List (List ℤ)) (crc : ℕ) (s m rest : List ℕ) → start_at stream s ≡ Done start m → subframes_at start.size (bit_depths start.channel_code start.bit_depth) m ≡ Done channels rest
    → crc ≡ crc16 (bits_of (taken s rest)) → frame_bytes_at stream s ≡ bind (crc_at 2 crc FrameCrc rest) (λ u. done (block_from start channels))
unfolding frame_without_crc_at
footer_is stream start channels crc s m rest h e same =
    with_crc_after 2 crc crc16 FrameCrc (frame_without_crc_at stream) (block_from start channels) s rest (rw (h, e) refl) same
