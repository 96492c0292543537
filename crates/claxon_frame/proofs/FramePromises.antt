-- The clauses of a call that reads the next frame, if there is one.
use Rattle.std.proofs.Common.{◌≡◌, ◌⊎◌, inl, inr, ℕ, ◌*◌, ◌<◌, true, ltb, List, [], length, Option, None, refl, sym, subst, ◌∙◌}
use Rattle.std.specs.Prelude.{Result, Ok}
use Rattle.std.proofs.lemmas.Bool.{lt-ltb}
use Rattle.claxon_format.specs.Frame.{Block, Frame, FrameBytesFault, IsBitDepth, StreamFormat, known_bit_depth}
use Rattle.claxon_format.specs.read.Frame.{frame_bytes_at, Start, start_at}
use Rattle.claxon_format.specs.FrameWriter.{channel_count}
use Rattle.claxon_format.specs.read.Header.{sync_at, fields_at, fields_with_crc_at}
use Rattle.claxon_format.specs.read.Bytes.{bytes_at, big_at}
use Rattle.claxon_format.specs.read.Reading.{Done, Incomplete}
use Rattle.claxon_format.proofs.FrameBytes.{Reads-frame_bytes, Reads-start}
use Rattle.claxon_input.specs.declared.error.Error.{Error}
use Rattle.claxon_input.specs.State.{State, RemainingIsKnown}
use Rattle.claxon_input.specs.Promises.{Remains, EofPromises, ReadFailed, IfOutOfMemory, IsOutOfMemory, Consumed}
use Rattle.claxon_input.specs.Gives.{GivesOrEofOrOutOfMemory}
use Rattle.claxon_frame.specs.FrameReader.{BufferTooSmall, HeaderOfLargerBlock, OutOfMemoryBeyondCapacity}
use Rattle.claxon_frame.proofs.FrameParts.{start_stops}
use Rattle.claxon_input.proofs.FieldOrEofPromises.{eof_promises}

-- fewer than two bytes are an incomplete header
pub incomplete_start : (stream : Option StreamFormat) (s : List ℕ) → length s < 2 → start_at stream s ≡ Incomplete
unfolding start_at fields_with_crc_at fields_at sync_at big_at bytes_at
incomplete_start stream s h =
    let b : ltb (length s) 2 ≡ true = lt-ltb _ _ h in rw b refl

-- and an incomplete frame
pub incomplete_frame : (stream : Option StreamFormat) (s : List ℕ) → length s < 2 → frame_bytes_at stream s ≡ Incomplete
incomplete_frame stream s h = (start_stops stream).incomplete s (incomplete_start stream s h)

only_header : (stream : Option StreamFormat) (capacity : ℕ) (a b : State ℕ) → BufferTooSmall stream capacity a b → Consumed a b (HeaderOfLargerBlock stream capacity)
only_header stream capacity a b h known =
    let t = (Reads-start stream).takes a.remaining h.start b.remaining (h.header.known known).is in
    ((h.header.known known).known, (t.0, (t.1.0, t.1.1, subst (λ (start : Start). capacity < channel_count start.channel_code * start.size) t.1.2 h.small), t.2))

no_header : (stream : Option StreamFormat) (capacity : ℕ) (a b : State ℕ) → BufferTooSmall stream capacity a b → RemainingIsKnown a → length a.remaining < 2 → ⊥
no_header stream capacity a b h known small = let e : Incomplete ≡ Done h.start b.remaining = sym (incomplete_start stream a.remaining small) ∙ (h.header.known known).is in cc

-- ---- out of memory

-- what holds if memory was refused
pub when_out_of_memory : {A P : Type 0} (r : Result A Error) → IfOutOfMemory r P → IsOutOfMemory r → P
when_out_of_memory {P = P} r h e = let k : true ≡ true → P = rw e at h in k refl

pub memory_is : {A : Type 0} (stream : Option StreamFormat) (capacity : ℕ) (r : Result A Error) (a b : State ℕ) → IfOutOfMemory r (BufferTooSmall stream capacity a b) → OutOfMemoryBeyondCapacity stream capacity r a b
memory_is stream capacity r a b h e = only_header stream capacity a b (when_out_of_memory r h e)

-- ---- all clauses

module _ {A : Type 0} (view : A → Block) (stream : Option StreamFormat) (bit_depth : IsBitDepth (known_bit_depth stream)) (r : Result (Option A) Error) (a b : State ℕ) (g : GivesOrEofOrOutOfMemory 2 view r (frame_bytes_at stream) a b) where
  pub frame_promises : EofPromises 2 view r (Frame stream) (FrameBytesFault stream) a b
  frame_promises = eof_promises (Reads-frame_bytes stream bit_depth) 2 (incomplete_frame stream) view r a b g

  -- nothing is allocated at the end of the input
  pub frame_eof_is_none : (capacity : ℕ) → IfOutOfMemory r (BufferTooSmall stream capacity a b) → (xs : List ℕ) → Remains a xs → length xs < 2 → ((r ≡ Ok None) × Remains b []) ⊎ ReadFailed r a b
  frame_eof_is_none capacity h xs o small = elim (frame_promises.eof_is_none xs o small) [
    | inl p ↦ inl p
    | inr (inl e) ↦ absurd (no_header stream capacity a b (when_out_of_memory r h e) o.known (rw o.are small))
    | inr (inr f) ↦ inr f
  ]
