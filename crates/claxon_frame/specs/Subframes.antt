-- The clauses of the calls that read the subframes of a frame into a buffer, one channel after
-- another (RFC 9639, section 9.2).
use Rattle.std.specs.Prelude.{ℕ, ◌*◌, List, ℤ, Result}
use Rattle.claxon_format.specs.read.Reading.{Reading}
use Rattle.claxon_format.specs.read.Frame.{subframes_at}
use Rattle.claxon_input.specs.Gives.{Gives}
use Rattle.claxon_input.specs.Source.{Source}
use Rattle.claxon_input.specs.State.{bytes_in}
use Rattle.claxon_input.specs.declared.error.Error.{Error}
use Rattle.claxon_frame.specs.Block.{chunks}
use Rattle.claxon_frame.specs.FrameHeader.{channels_of, subframe_bit_depths}
use Rattle.claxon_frame.specs.declared.frame.header.parts.FrameHeader.{FrameHeader}

-- the number of samples of all channels
abbrev pub sample_count : FrameHeader → ℕ
sample_count header = channels_of header.channel_assignment * header.block_size

-- the channels that a buffer holds, one after another
abbrev pub channels_in : FrameHeader → List ℤ → List (List ℤ)
channels_in header buffer = chunks (channels_of header.channel_assignment) header.block_size buffer

-- the reader of the subframes after this header: the coded channels, and the padding to the next
-- byte
abbrev pub subframes_after : FrameHeader → List ℕ → Reading ℕ (List (List ℤ))
subframes_after header =
    subframes_at header.block_size
    (subframe_bit_depths header.channel_assignment header.bit_depth)

-- After an Ok the buffer holds the coded channels after this header, and just the subframes and the
-- padding were consumed. An Err is the fault of the bytes that were consumed, or an `IoError` where
-- the source failed or the input ended.
abbrev pub SubframesAreRead : {R A : Type 0} → (R → Source ℕ) → FrameHeader → R → Result A Error
    → R → List ℤ → Type 0
SubframesAreRead source header old result new buffer =
    Gives (λ x. channels_in header buffer) result (subframes_after header)
    (bytes_in source old) (bytes_in source new)
