-- The clauses of the calls that read a header, and the rest of its frame.
use Rattle.std.proofs.Common.{◌≡◌, ◌⊎◌, inl, inr, ℕ, ◌<◌, ◌*◌, true, false, List, [], length, Option, refl}
use Rattle.std.specs.Prelude.{IfOk, None, Ok, Err}
use Rattle.claxon_format.specs.Frame.{IsBitDepth, StreamFormat, known_bit_depth}
use Rattle.claxon_format.specs.FrameWriter.{channel_count}
use Rattle.claxon_format.specs.read.Reading.{Incomplete}
use Rattle.claxon_format.proofs.Laws.{unambiguous}
use Rattle.claxon_input.specs.declared.error.Error.TheVariants.{OutOfMemory}
use Rattle.claxon_input.specs.Gives.{GivesOrEof, GivesOrOutOfMemory}
use Rattle.claxon_input.specs.Promises.{Consumed, EofPromises, IsOutOfMemory, Promises, ReadFailed, Remains}
use Rattle.claxon_input.specs.State.{State}
use Rattle.claxon_input.proofs.FieldOrEof.{never_out_of_memory_or_eof}
use Rattle.claxon_input.proofs.FieldOrEofPromises.{eof_promises}
use Rattle.claxon_input.proofs.Memory.{stops_not_out_of_memory}
use Rattle.claxon_input.proofs.Promises.{promises}
use Rattle.claxon_frame.specs.BlockInfo.{HeaderBytesFault}
use Rattle.claxon_frame.specs.FrameReader.{block_view}
use Rattle.claxon_frame.specs.StartedFrame.{RestAnswer, RestFault, RestOf, RestTooSmall, Started, StartedAnswer, StartedCode, StartIsUnambiguous, rest_at, started_at, started_view}
use Rattle.claxon_frame.proofs.FramePromises.{incomplete_start}
use Rattle.claxon_frame.proofs.StartedFrames.{Reads-rest, Reads-started, start_stops_started}

-- ---- the header

pub starts_unambiguous : (stream : Option StreamFormat) → StartIsUnambiguous stream
starts_unambiguous stream = unambiguous Started (started_at stream) (StartedCode stream) (HeaderBytesFault stream) (Reads-started stream)

incomplete_started : (stream : Option StreamFormat) (s : List ℕ) → length s < 2 → started_at stream s ≡ Incomplete
incomplete_started stream s small = (start_stops_started stream).incomplete s (incomplete_start stream s small)

-- no memory is requested
pub start_never_out_of_memory : (stream : Option StreamFormat) (r : StartedAnswer) (a b : State ℕ) → GivesOrEof 2 started_view r (started_at stream) a b → IsOutOfMemory r → ⊥
start_never_out_of_memory stream (Ok found) a b g e = absurd cc
start_never_out_of_memory stream (Err e) a b g k =
    let n = stops_not_out_of_memory e _ a b g in
    let m : e ≡ OutOfMemory = cc in
    let p : true ≡ false = rw m at n in
    absurd cc

module _ (stream : Option StreamFormat) (r : StartedAnswer) (a b : State ℕ) (g : GivesOrEof 2 started_view r (started_at stream) a b) where
  pub start_promises : EofPromises 2 started_view r (StartedCode stream) (HeaderBytesFault stream) a b
  start_promises =
      eof_promises (Reads-started stream) 2 (incomplete_started stream) started_view r a b (never_out_of_memory_or_eof 2 started_view r (started_at stream) a b g)

  pub start_eof_is_none : (xs : List ℕ) → Remains a xs → length xs < 2 → ((r ≡ Ok None) × Remains b []) ⊎ ReadFailed r a b
  start_eof_is_none xs o small = elim (start_promises.eof_is_none xs o small) [
    | inl p ↦ inl p
    | inr (inl e) ↦ absurd (start_never_out_of_memory stream r a b g e)
    | inr (inr f) ↦ inr f
  ]

-- ---- the rest

module _ (stream : Option StreamFormat) (depth : IsBitDepth (known_bit_depth stream)) (started : Started) (r : RestAnswer) (a b : State ℕ) (g : GivesOrOutOfMemory block_view r (rest_at started) a b) where
  pub rest_promises : (header : List ℕ) → StartedCode stream started header → Promises block_view r (RestOf stream header) (RestFault stream header) a b
  rest_promises header c = promises (Reads-rest stream depth started header c) block_view r a b g

-- a block comes without a failed read
pub rest_failure_is_err : (started : Started) (r : RestAnswer) (a b : State ℕ) → GivesOrOutOfMemory block_view r (rest_at started) a b → IfOk r (λ block. b.source.errors ≡ a.source.errors)
rest_failure_is_err started (Ok block) a b g = g.errors
rest_failure_is_err started (Err e) a b g = tt

pub nothing_consumed : (started : Started) (capacity : ℕ) (a b : State ℕ) → RestTooSmall started capacity a b → (capacity < channel_count started.start.channel_code * started.start.size) × Consumed a b (λ t. t ≡ [])
nothing_consumed started capacity a b h = (h.small, λ known. let k = h.nothing.known known in (k.known, ([], refl, k.is)))
