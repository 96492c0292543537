-- Memory that blocks use again, one after another.
use Rattle.std.proofs.Common.{◌≡◌, ◌⊎◌, inl, inr, ℕ, ◌*◌, ◌<◌, ◌≤◌, List, [], ◌∷◌, ◌++◌, length, Option, Some, arith, sym, ◌∙◌}
use Rattle.std.specs.Prelude.{All, Result, Ok, Err}
use Rattle.std.proofs.Math.Nat.{lt_of_not-le, mul-le-mul_right}
use Rattle.std.proofs.lemmas.List.Elements.{All-nil, All-push, All-weaker}
use Rattle.claxon.specs.Block.{BlockValue}
use Rattle.claxon.specs.Errors.{Error as Cause}
use Rattle.claxon.specs.Errors.TheVariants.{OutOfMemory}
use Rattle.claxon.specs.Frame.{Block, StreamFormat}
use Rattle.claxon.specs.FrameReader.{OutOfMemoryBeyondCapacity, ReadsFrame, block_view}
use Rattle.claxon.specs.SampleRuns.{ConsumesFrames}
use Rattle.claxon.specs.State.{State}
use Rattle.claxon.specs.Streams.{duration_of, interleave}
use Rattle.claxon.proofs.SampleRuns.{takes_more, takes_none}
use Rattle.claxon.proofs.Streams.{length-interleave}
use Rattle.claxon_write.specs.Decoded.{HasAtMost, StopsAtLargerBlock}
use Rattle.claxon_blocks.specs.declared.frames.FrameError.{FrameError}
use Rattle.claxon_wav.specs.Convert.{HasFewerThan, StopsAfterLargerBlock}
use Rattle.claxon_wav.specs.WavError.{IsFrameError, IsMemory}
use Rattle.claxon_wav.specs.WaveFile.{sample_size}
use Rattle.claxon_wav.specs.Writer.{HasRoomFor, KeepsRoom}
use Rattle.claxon_wav.specs.declared.error.Error.{Error}
use Rattle.claxon_wav.specs.declared.error.Error.TheVariants.{Claxon, Exists, OtherChannels, Output, SameFile, TooLong, Unsupported32Bit, WideSample}
use Rattle.claxon_wav.specs.declared.writer.WavWriter.{WavWriter}

-- So far exactly the frames of these blocks were consumed. A buffer of this capacity holds the samples of each, and the writer
-- has room for it.
pub record RoomSoFar {W : Type 0} (stream : Option StreamFormat) (capacity : ℕ) (a b : State ℕ) (file : WavWriter W) : Type 0 where
  pub blocks : List Block
  pub frames : ConsumesFrames stream blocks a b
  pub at_most : All (HasAtMost capacity) blocks
  pub room : All (λ k. HasRoomFor (length (interleave k.channels)) file) blocks

-- what a frame's error says of memory
pub memory_of : (cause : FrameError) (e : Error) → IsFrameError cause e → IsMemory e → cause.error ≡ OutOfMemory
memory_of cause (Claxon error) is m = sym is.0 ∙ m
memory_of cause Unsupported32Bit is m = absurd m
memory_of cause (Output error) is m = absurd m
memory_of cause TooLong is m = absurd m
memory_of cause OtherChannels is m = absurd m
memory_of cause WideSample is m = absurd m
memory_of cause SameFile is m = absurd m
memory_of cause Exists is m = absurd m

-- the number of samples of a block in a buffer of this capacity
fits_at_most : (block : BlockValue) (capacity : ℕ) → length block.channels * duration_of block.channels ≤ capacity → HasAtMost capacity (block_view block)
fits_at_most block capacity fits =
    let l = length-interleave block.channels in
    let k : length (interleave block.channels) ≡ length block.channels * duration_of block.channels = l ∙ omega arith in
    omega (arith, k, fits)

module _ {W : Type 0} {stream : Option StreamFormat} where
  pub room_none : (capacity : ℕ) (a : State ℕ) (file : WavWriter W) → RoomSoFar stream capacity a a file
  room_none capacity a file = record { blocks = []; frames = takes_none stream a; at_most = All-nil (HasAtMost capacity); room = All-nil (λ (k : Block). HasRoomFor (length (interleave k.channels)) file) }

  -- one block more, which was written
  pub room_more : {small capacity : ℕ} (block : BlockValue) {a b c : State ℕ} {y z : WavWriter W} → RoomSoFar stream small a b y → ReadsFrame stream (Ok (Some block)) b c → (length block.channels * duration_of block.channels ≤ capacity) × (small ≤ capacity) → KeepsRoom y z
      → HasRoomFor (length (interleave block.channels)) z → RoomSoFar stream capacity a c z
  room_more {small = small} {capacity = capacity} block {y = y} {z = z} h reads fits keeps takes = record {
    blocks = h.blocks ++ block_view block ∷ [];
    frames = takes_more block h.frames reads;
    at_most = All-push (HasAtMost capacity) h.blocks (block_view block) (All-weaker (HasAtMost small) (HasAtMost capacity) (λ k few. larger (length (interleave k.channels)) few) h.blocks h.at_most) (fits_at_most block capacity fits.0);
    room = All-push (λ (k : Block). HasRoomFor (length (interleave k.channels)) z) h.blocks (block_view block)
        (All-weaker (λ (k : Block). HasRoomFor (length (interleave k.channels)) y) (λ (k : Block). HasRoomFor (length (interleave k.channels)) z) (λ k room. keeps (length (interleave k.channels)) room) h.blocks h.room) takes;
  }
    where
      larger : (n : ℕ) → n ≤ small → n ≤ capacity
      larger n few = omega (arith, few, fits.1)

  -- memory was refused at a block that the buffer has no capacity for
  pub stops_at_header : {capacity : ℕ} {r : Result (Option BlockValue) Cause} {a b c : State ℕ} {file : WavWriter W} → RoomSoFar stream capacity a b file → OutOfMemoryBeyondCapacity stream capacity r b c → r ≡ Err OutOfMemory → StopsAtLargerBlock stream a c ⊎ StopsAfterLargerBlock stream a c
  stops_at_header {capacity = capacity} {b = b} h header refused = inl (record { blocks = h.blocks; size = capacity; between = b; frames = h.frames; at_most = h.at_most; header = header refused })

  -- memory was refused for a block that the writer has no room for
  pub stops_at_room : {capacity : ℕ} (block : BlockValue) {a b c : State ℕ} {file : WavWriter W} → RoomSoFar stream capacity a b file → ReadsFrame stream (Ok (Some block)) b c → (HasRoomFor (length (interleave block.channels)) file → ⊥) → StopsAtLargerBlock stream a c ⊎ StopsAfterLargerBlock stream a c
  stops_at_room block {file = file} h reads full = inr (record {
    blocks = h.blocks;
    last = block_view block;
    frames = takes_more block h.frames reads;
    fewer = All-weaker (λ (k : Block). HasRoomFor (length (interleave k.channels)) file) (HasFewerThan n) (λ k room. fewer (length (interleave k.channels)) room) h.blocks h.room;
  })
    where
      n : ℕ
      n = length (interleave block.channels)

      fewer : (m : ℕ) → HasRoomFor m file → m < n
      fewer m room = lt_of_not-le (λ le. full (let bytes = mul-le-mul_right (sample_size file.layout.valid_bits) le in (omega (arith, le, room.0), omega (arith, bytes, room.1))))
