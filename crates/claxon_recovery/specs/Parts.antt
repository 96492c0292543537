-- The parts of a stream: its frames, and the damage between them.
use Rattle.std.specs.Prelude.{
  ◌≡◌,
  ◌⊎◌,
  ◌↔◌,
  ◌+◌,
  ◌%◌,
  ◌^◌,
  ◌<◌,
  ◌≤◌,
  ℕ,
  zero,
  suc,
  false,
  IfErr,
  IfOk,
  IsTrue,
  List,
  [],
  ◌++◌,
  drop,
  length,
  Option,
  None,
  Some,
  Result,
  Ok,
  Err,
}
use Rattle.claxon.specs.DecodedFrame.{FrameValue, decoded_view}
use Rattle.claxon.specs.Error.{IsIo}
use Rattle.claxon.specs.Errors.{Error}
use Rattle.claxon.specs.Errors.TheVariants.{OutOfMemory}
use Rattle.claxon.specs.Source.{IsKnown, Source}
use Rattle.claxon.specs.StreamInfos.{StreamInfo}
use Rattle.claxon_blocks.specs.FirstBytes.{AreZeros}
use Rattle.claxon_seek.specs.AtStart.{BeginsWithLength}
use Rattle.claxon_seek.specs.declared.memory.BlockMemory.{BlockMemory}
use Rattle.claxon_recovery.specs.AtStart.{
  BeginsWithStreamFrame,
  EndsEarly,
  HasFaultOf,
  HasOtherHeader,
  StreamFrame,
  StreamFrameCode,
}
use Rattle.claxon_recovery.specs.Budget.{CountsUnsearched, unsearched_positions}
use Rattle.claxon_recovery.specs.Kept.{most_kept}
use Rattle.claxon_recovery.specs.Passed.{AreFirstOf, IsOfBytes}
use Rattle.claxon_recovery.specs.Search.{BeginsWithStreamHeader}
use Rattle.claxon_recovery.specs.Steps.{first_step, step_count, step_unsearched}
use Rattle.claxon_recovery.specs.Stream.{stream_known}
use Rattle.claxon_recovery.specs.Window.{
  Fails,
  NothingIsLeft,
  Reads,
  bytes_left,
  pending,
  window_source,
}
use Rattle.claxon_recovery.specs.declared.budget.Budget.{Budget}
use Rattle.claxon_recovery.specs.declared.part.Cause.{Cause}
use Rattle.claxon_recovery.specs.declared.part.Cause.TheVariants.{
  Cut,
  Fault,
  OtherFormat,
  TooLong,
}
use Rattle.claxon_recovery.specs.declared.part.Damage.{Damage}
use Rattle.claxon_recovery.specs.declared.part.FrameThere.{FrameThere}
use Rattle.claxon_recovery.specs.declared.part.Part.{Part}
use Rattle.claxon_recovery.specs.declared.part.Part.TheVariants.{
  Frame as FramePart,
  Damage as DamagePart,
}
use Rattle.claxon_recovery.specs.declared.parts.Here.{Here}
use Rattle.claxon_recovery.specs.declared.parts.Here.TheVariants.{End, Frame, NoFrame}
use Rattle.claxon_recovery.specs.declared.parts.Parts.{Parts}
use Rattle.claxon_recovery.specs.declared.parts.Step.{Step}
use Rattle.claxon_recovery.specs.declared.passed.Passed.{Passed}

-- ---- what is seen of the reader

-- its source, of which it has read some bytes ahead
abbrev pub parts_source : {R : Type 0} → Parts R → R
parts_source p = window_source p.window

-- these bytes
abbrev pub parts_pending : {R : Type 0} → Parts R → List ℕ
parts_pending p = pending p.window

-- the streaminfo, if that is known
abbrev pub parts_known : {R : Type 0} → Parts R → Option StreamInfo
parts_known p = stream_known p.stream

-- the position of the next byte
abbrev pub parts_position : {R : Type 0} → Parts R → ℕ
parts_position p = p.position

-- the memory for blocks, which counts refused requests
abbrev pub parts_memory : {R : Type 0} → Parts R → BlockMemory
parts_memory p = p.memory

-- what tries in vain cost, and how many positions weren't searched
abbrev pub parts_budget : {R : Type 0} → Parts R → Budget
parts_budget p = p.budget

-- what remains of the stream: what was read ahead, and then what the source has
abbrev pub unread : {R : Type 0} → (R → Source ℕ) → Parts R → List ℕ
unread source p = parts_pending p ++ bytes_left (source (parts_source p))

-- The bytes of the source are known.
abbrev pub SourceIsKnown : {R : Type 0} → (R → Source ℕ) → Parts R → Type 0
SourceIsKnown source p = IsKnown (source (parts_source p)).remaining

-- Nothing was read so far.
pub record BeginsParts {R : Type 0} (source : R) (known : Option StreamInfo) (position : ℕ)
    (p : Parts R) : Type 0 where
  pub source_is : parts_source p ≡ source
  pub none_pending : parts_pending p ≡ []
  pub known_is : parts_known p ≡ known
  pub position_is : parts_position p ≡ position

-- ---- where frames begin

module _ (known : Option StreamInfo) where
  -- The first bytes, as many as are kept, end within what may be a frame of the stream.
  pub record IsTooLong (s : List ℕ) : Type 0 where
    pub front : List ℕ
    pub rest : List ℕ
    pub joined : s ≡ front ++ rest
    pub long : most_kept known ≤ length front
    pub ends : EndsEarly known front

  -- It may be passed unsearched: a frame header stands there, or the frame would be too long.
  abbrev pub MayBePassed : List ℕ → Type 0
  MayBePassed s = BeginsWithStreamHeader known s ⊎ IsTooLong s

  -- At the first n positions no frame of the stream begins; but so many of them weren't searched.
  abbrev pub NoFrames : List ℕ → ℕ → ℕ → Type 0
  NoFrames s zero unsearched = unsearched ≡ 0
  NoFrames s (suc n) unsearched =
      ((BeginsWithStreamFrame known (drop n s) → ⊥) × NoFrames s n unsearched)
      ⊎ ((fewer : ℕ) × (unsearched ≡ fewer + 1) × MayBePassed (drop n s) × NoFrames s n fewer)

  -- No frame of the stream begins s, for this cause.
  abbrev pub IsCause : Cause → List ℕ → Type 0
  IsCause (Fault e) s = HasFaultOf known e s
  IsCause (OtherFormat block) s = HasOtherHeader known block s
  IsCause Cut s = EndsEarly known s
  IsCause TooLong s = IsTooLong s

  -- ---- the parts of s, of which m is left. `start` is its position.

  -- a frame of the stream
  pub record IsFramePart (start : ℕ) (s m : List ℕ) (there : FrameThere) : Type 0 where
    pub bytes : List ℕ
    pub joined : s ≡ bytes ++ m
    pub frame : StreamFrame known there.frame bytes
    pub start_is : there.start ≡ start
    pub end_is : there.end ≡ (start + length bytes) % 2 ^ 64

  -- no frame, up to the next one or to the end
  pub record IsDamage (start : ℕ) (s m : List ℕ) (damage : Damage) : Type 0 where
    pub bytes : List ℕ
    pub joined : s ≡ bytes ++ m
    pub some : 1 ≤ length bytes
    pub cause : IsCause damage.cause s
    pub unsearched : ℕ
    pub none : NoFrames s (length bytes) unsearched
    pub next : (m ≡ []) ⊎ BeginsWithStreamFrame known m
    pub start_is : damage.start ≡ start
    pub end_is : damage.end ≡ (start + length bytes) % 2 ^ 64
    pub unsearched_is : damage.unsearched ≡ unsearched % 2 ^ 64
    pub first : AreFirstOf damage.first bytes
    pub zeros : IsTrue damage.are_zeros ↔ AreZeros bytes

  abbrev pub IsPart : ℕ → List ℕ → List ℕ → Option Part → Type 0
  IsPart start s m None = (s ≡ []) × (m ≡ [])
  IsPart start s m (Some (FramePart there)) = IsFramePart start s m there
  IsPart start s m (Some (DamagePart damage)) = IsDamage start s m damage

-- the position after a part
abbrev pub after_part : ℕ → Option Part → ℕ
after_part start None = start
after_part start (Some (FramePart there)) = there.end
after_part start (Some (DamagePart damage)) = damage.end

-- ---- positions at which no frame begins

-- The first positions of s.
pub record IsStep (known : Option StreamInfo) (s : List ℕ) (step : Step) : Type 0 where
  pub none : (at : ℕ) → at < step.searched → BeginsWithStreamFrame known (drop at s) → ⊥
  pub passed : IsTrue step.passes_next → MayBePassed known (drop step.searched s)
  pub last : IsTrue step.is_last
      → (drop (step_count step) s ≡ []) ⊎ BeginsWithStreamFrame known (drop (step_count step) s)

-- The part is a frame with this value.
abbrev pub IsFrameOf : FrameValue → Option Part → Type 0
IsFrameOf value (Some (FramePart there)) = decoded_view there.frame ≡ value
IsFrameOf value _ = ⊥

-- ---- what calls answer

module _ {R : Type 0} (source : R → Source ℕ) (old new : Parts R) where
  -- More bytes were read ahead, and none was passed.
  pub record Stays : Type 0 where
    pub more : List ℕ
    pub held : parts_pending new ≡ parts_pending old ++ more
    pub reads : Reads (source (parts_source old)) (source (parts_source new)) more
    pub position_is : parts_position new ≡ parts_position old

  -- No read of the source failed, and P holds of what remained and remains, where it is known.
  pub record Goes (P : List ℕ → List ℕ → Type 0) : Type 0 where
    pub more : List ℕ
    pub reads : Reads (source (parts_source old)) (source (parts_source new)) more
    pub is : SourceIsKnown source old → P (unread source old) (unread source new)

  -- A read of the source failed, and the error says so.
  pub record PartFails (e : Error) : Type 0 where
    pub is_io : IsIo e
    pub fails : Fails (source (parts_source old)) (source (parts_source new))

  -- Memory was refused, a read failed, or the bytes that are no frame are too many to be counted.
  abbrev pub PartStops : Error → Type 0
  PartStops e =
      (e ≡ OutOfMemory)
      ⊎ (PartFails e ⊎ (SourceIsKnown source old → 2 ^ 64 ≤ length (unread source old)))

  -- both of it
  abbrev pub PartGives : Result (Option Part) Error → Type 0
  PartGives (Ok found) =
      Goes (λ s m. IsPart (parts_known old) (parts_position old) s m found)
      × (parts_position new ≡ after_part (parts_position old) found)
  PartGives (Err e) = PartStops e

  -- A part that is answered stands there, and is passed, where the bytes are known; no read of the
  -- source failed.
  abbrev pub PartIsThere : Result (Option Part) Error → Type 0
  PartIsThere result = IfOk result (λ found.
      Goes (λ s m. IsPart (parts_known old) (parts_position old) s m found)
      × (parts_position new ≡ after_part (parts_position old) found))

  -- If a frame of the stream comes next, of no more bytes than are kept, that is answered, and it
  -- alone is passed, or there is an Err.
  abbrev pub FrameIsFound : Result (Option Part) Error → Type 0
  FrameIsFound result = IfOk result (λ found.
      SourceIsKnown source old → (value : FrameValue) (t rest : List ℕ)
      → StreamFrameCode (parts_known old) value t → unread source old ≡ t ++ rest
      → length t ≤ most_kept (parts_known old) → IsFrameOf value found × (unread source new ≡ rest))

  -- An Err says that memory was refused, that a read failed, or that too many bytes are no frame.
  abbrev pub PartErrIsExcused : Result (Option Part) Error → Type 0
  PartErrIsExcused result = IfErr result PartStops

  -- What is answered stands there, and nothing is passed.
  abbrev pub HereGives : Result Here Error → Type 0
  HereGives (Ok (Frame len frame)) =
      Stays × BeginsWithLength (StreamFrame (parts_known old) frame) (parts_pending new) len
  HereGives (Ok (NoFrame cause)) =
      Stays × (1 ≤ length (parts_pending new))
      × (SourceIsKnown source old → IsCause (parts_known old) cause (unread source new))
  HereGives (Ok End) =
      Stays × (parts_pending new ≡ [])
      × NothingIsLeft (source (parts_source old)) (source (parts_source new))
  HereGives (Err e) = (e ≡ OutOfMemory) ⊎ PartFails e

  -- The first positions are those of the step, and nothing is passed.
  abbrev pub StepGives : Result Step Error → Type 0
  StepGives (Ok step) =
      Stays × (step_count step ≤ length (parts_pending new))
      × (step.is_last ≡ false → 1 ≤ step_count step)
      × (SourceIsKnown source old → IsStep (parts_known old) (unread source new) step)
  StepGives (Err e) = (e ≡ OutOfMemory) ⊎ PartFails e

  -- Where no frame begins for this cause, the damage that is answered stands there, and is passed.
  abbrev pub DamageGives : Cause → Result Damage Error → Type 0
  DamageGives cause (Ok damage) =
      Goes (λ s m.
      IsCause (parts_known old) cause s
      → IsDamage (parts_known old) (parts_position old) s m damage)
      × (parts_position new ≡ damage.end)
  DamageGives cause (Err e) = PartStops e

-- ---- positions that aren't searched

module _ {R : Type 0} (old new : Parts R) where
  -- So many more positions are counted that weren't searched.
  abbrev pub Unsearched : ℕ → Type 0
  Unsearched n = CountsUnsearched n (parts_budget old) (parts_budget new)

  -- Each position of damage that isn't searched is counted by the budget: it had no more for the
  -- header there, or no more bytes are kept.
  abbrev pub PartIsCounted : Option Part → Type 0
  PartIsCounted (Some (DamagePart damage)) = Unsearched damage.unsearched
  PartIsCounted (Some (FramePart there)) = Unsearched 0
  PartIsCounted None = Unsearched 0

  abbrev pub UnsearchedIsCounted : Result (Option Part) Error → Type 0
  UnsearchedIsCounted result = IfOk result PartIsCounted

  abbrev pub HereIsCounted : Here → Type 0
  HereIsCounted (NoFrame cause) = Unsearched (step_unsearched (first_step cause) 0)
  HereIsCounted (Frame len frame) = Unsearched 0
  HereIsCounted End = Unsearched 0

  abbrev pub StepIsCounted : Step → Type 0
  StepIsCounted step = Unsearched (step_unsearched step 0)

  -- The first one was counted before, if it wasn't searched.
  abbrev pub DamageIsCounted : Cause → Damage → Type 0
  DamageIsCounted cause damage =
      (unsearched_positions (parts_budget new) + step_unsearched (first_step cause) 0) % 2 ^ 64
      ≡ (unsearched_positions (parts_budget old) + damage.unsearched) % 2 ^ 64

-- The stream is the same.
abbrev pub KeepsStream : {R : Type 0} → Parts R → Parts R → Type 0
KeepsStream old new = parts_known new ≡ parts_known old

-- Just so many pending bytes were passed.
pub record PassesBytes {R : Type 0} (count : ℕ) (old new : Parts R) : Type 0 where
  pub pending_is : parts_pending new ≡ drop count (parts_pending old)
  pub source_is : parts_source new ≡ parts_source old
  pub memory_is : parts_memory new ≡ parts_memory old
  pub searched : unsearched_positions (parts_budget new) ≡ unsearched_positions (parts_budget old)
  pub position_is : parts_position new ≡ (parts_position old + count) % 2 ^ 64

-- These bytes of the step were passed.
abbrev pub TakesStep : List ℕ → Step → Passed → Passed → Type 0
TakesStep more step old new =
    (t : List ℕ) (unsearched : ℕ) → IsOfBytes t unsearched old
    → IsOfBytes (t ++ more) (step_unsearched step unsearched) new
