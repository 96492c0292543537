-- What a clock knows of a stream.
use Rattle.std.specs.Prelude.{
  ◌≡◌,
  ◌≢◌,
  ◌⊎◌,
  ℕ,
  ◌+◌,
  ◌-◌,
  ◌*◌,
  ◌^◌,
  ◌<◌,
  Bool,
  true,
  false,
  if◌then◌else◌,
  ◌&&◌,
  ◌||◌,
  ◌==◌,
  is_some,
  nat_lt,
  unwrap_or,
  List,
  Option,
  None,
  Some,
  IfSome,
}
use Rattle.claxon.specs.BlockInfos.{BlockInfo}
use Rattle.claxon.specs.StreamInfos.{StreamInfo}
use Rattle.claxon_stream_seek.specs.Timeline.{
  AreTogether,
  IsFixed,
  IsFrame,
  IsSteady,
  IsTimeline,
  IsVariable,
  Placed,
  begins_at,
}
use Rattle.claxon_stream_seek.specs.declared.clock.Clock.{Clock}
use Rattle.claxon_stream_seek.specs.declared.clock.Counted.{Counted}
use Rattle.claxon_stream_seek.specs.declared.clock.Counted.TheVariants.{
  Blocks,
  NotKnown,
  Samples,
  VariableBlocks,
  VaryingBlocks,
}

-- ---- what is known of a stream

-- What the clock takes numbers to count is what they count in the stream, and blocks have this
-- size.
abbrev pub CountsRight : (known : Option StreamInfo) (frames : List Placed)
    → IsSteady frames known → Counted → ℕ → Type 0
CountsRight known frames steady NotKnown size = Unit {0}
CountsRight known frames steady Samples size =
    (i : ℕ) (x : Placed) → IsFrame frames i x → x.info.number ≡ begins_at frames i
CountsRight known frames steady Blocks size =
    IsVariable frames
    ⊎ (IsFixed frames × ((i : ℕ) (x : Placed) → IsFrame frames i x → 0 < i → size ≡ steady.size))
CountsRight known frames steady VaryingBlocks size = ⊥
CountsRight known frames steady VariableBlocks size = IsVariable frames

-- Frame i of these was noted last.
pub record IsLast (frames : List Placed) (i : ℕ) (x : Placed) (s : Clock) : Type 0 where
  pub is : IsFrame frames i x
  pub end : s.end ≡ x.end
  pub number : s.number ≡ x.info.number
  pub duration : s.duration ≡ x.info.duration

-- What the clock knows is so of the stream of these frames, whose blocks have one size.
pub record IsRightOf (known : Option StreamInfo) (frames : List Placed)
    (steady : IsSteady frames known) (s : Clock) : Type 0 where
  pub last : s.has_frame ≡ true → (i : ℕ) × (x : Placed) × IsLast frames i x s
      × (s.has_time ≡ true → s.time ≡ begins_at frames (i + 1))
  pub counts : CountsRight known frames steady s.counted s.block_size

-- The clock knows what numbers count.
abbrev pub KnowsUnit : Clock → Type 0
KnowsUnit s = (s.counted ≡ Samples) ⊎ ((s.counted ≡ Blocks) ⊎ (s.counted ≡ VariableBlocks))

-- It doesn't know it, and no frame has shown that the block size changes.
abbrev pub NeedsFrames : Clock → Type 0
NeedsFrames s = s.counted ≡ NotKnown

-- The first n frames of these, and no others, were noted one after another.
abbrev pub HasSeen : List Placed → ℕ → Clock → Type 0
HasSeen frames n s =
    (0 < n) → (i : ℕ) × (x : Placed) × (n ≡ i + 1) × IsLast frames i x s
    × (s.has_frame ≡ true) × (s.has_time ≡ true) × (s.time ≡ begins_at frames n)

-- ---- the clauses

-- Nothing was noted, and what the streaminfo says is right of steady streams.
abbrev pub StartsRightOf : Option StreamInfo → Clock → Type 0
StartsRightOf known s = (frames : List Placed) (steady : IsSteady frames known)
    → IsRightOf known frames steady s

-- the sample that is told is the one at which a frame of the stream begins
module _ (s : Clock) (at : ℕ) (info : BlockInfo) (result : Option ℕ) where
  -- Of each steady stream of which the clock is right.
  abbrev pub TimeIsExact : Type 0
  TimeIsExact = (known : Option StreamInfo) (frames : List Placed)
      (steady : IsSteady frames known) → IsTimeline frames → IsRightOf known frames steady s
      → (i : ℕ) (x : Placed) → IsFrame frames i x → at ≡ x.at → info ≡ x.info
      → IfSome result (λ time. time ≡ begins_at frames i)

  -- It is told of each frame of it once the clock knows what numbers count.
  abbrev pub TimeIsKnown : Type 0
  TimeIsKnown = (known : Option StreamInfo) (frames : List Placed)
      (steady : IsSteady frames known) → IsTimeline frames → IsRightOf known frames steady s
      → (i : ℕ) (x : Placed) → IsFrame frames i x → at ≡ x.at → info ≡ x.info
      → KnowsUnit s → result ≡ Some (begins_at frames i)

  -- Of each stream, whatever sizes its blocks have, it is told of the frame after those that were
  -- noted, one after another from the first.
  abbrev pub TimeIsInOrder : Type 0
  TimeIsInOrder = (frames : List Placed) → IsTimeline frames → AreTogether frames
      → (i : ℕ) (x : Placed)
      → HasSeen frames i s → IsFrame frames i x → at ≡ x.at → info ≡ x.info
      → result ≡ Some (begins_at frames i)

module _ (at end : ℕ) (info : BlockInfo) (old new : Clock) where
  -- What the clock knows stays right of each steady stream that has the frame.
  abbrev pub NoteKeepsRight : Type 0
  NoteKeepsRight = (known : Option StreamInfo) (frames : List Placed)
      (steady : IsSteady frames known) → IsTimeline frames → IsRightOf known frames steady old
      → (i : ℕ) → IsFrame frames i (record { at = at; end = end; info = info })
      → IsRightOf known frames steady new

  -- Of each stream one frame more was noted in order.
  abbrev pub NoteKeepsOrder : Type 0
  NoteKeepsOrder = (frames : List Placed) → IsTimeline frames → AreTogether frames
      → (i : ℕ) → HasSeen frames i old
      → IsFrame frames i (record { at = at; end = end; info = info }) → HasSeen frames (i + 1) new

  -- What numbers count is known after two frames of a steady stream that follow one another, if the
  -- first has more than one sample, and stays known.
  abbrev pub NoteKnowsUnit : Type 0
  NoteKnowsUnit = (known : Option StreamInfo) (frames : List Placed)
      (steady : IsSteady frames known) → IsTimeline frames → IsRightOf known frames steady old
      → (i : ℕ) → IsFrame frames (i + 1) (record { at = at; end = end; info = info })
      → KnowsUnit old ⊎ ((info.is_variable ≡ false) × (old.has_frame ≡ true)
      × (old.duration ≢ 1) × ((x : Placed) × IsLast frames i x old × (x.end ≡ at)))
      → KnowsUnit new

-- What numbers count is known after a frame whose block size is variable.
abbrev pub NoteKnowsVariable : BlockInfo → Clock → Type 0
NoteKnowsVariable info new = info.is_variable ≡ true → KnowsUnit new

-- ---- parts of the code

-- whether a frame at this position is the next one after the last
abbrev pub follows : Clock → ℕ → BlockInfo → Bool
follows s at info =
    s.has_frame && (at == s.end)
    && ((info.number - s.number == 1) || (info.number - s.number == s.duration))

-- the sample at which a frame begins, by its number
abbrev pub time_by_number : Counted → ℕ → ℕ → Option ℕ
time_by_number NotKnown number size = None
time_by_number Samples number size = Some number
time_by_number Blocks number size =
    if nat_lt (number * size) (2 ^ 64) then Some (number * size) else None
time_by_number VaryingBlocks number size = None
time_by_number VariableBlocks number size = None

-- `clock.time(at, &info)`
abbrev pub clock_time : Clock → ℕ → BlockInfo → Option ℕ
clock_time s at info =
    if info.is_variable then Some info.number
    else (if info.number == 0 then Some 0
    else (if s.has_time && follows s at info then Some s.time
    else time_by_number s.counted info.number s.block_size))

-- what numbers count, where they count frames and the last block has this size
abbrev pub counted_after : Counted → ℕ → ℕ → Counted
counted_after NotKnown size duration = Blocks
counted_after Samples size duration = Blocks
counted_after Blocks size duration = if size == duration then Blocks else VaryingBlocks
counted_after VaryingBlocks size duration = VaryingBlocks
counted_after VariableBlocks size duration = Blocks

-- what is learnt by the number of the frame that follows the last one
pub record IsLearnt (number : ℕ) (old new : Clock) : Type 0 where
  pub one : old.duration ≡ 1 → new ≡ old
  pub samples : old.duration ≢ 1 → number - old.number ≢ 1 → new ≡ record old { counted = Samples }
  pub blocks : old.duration ≢ 1 → number - old.number ≡ 1
      → new ≡ record old {
        counted = counted_after old.counted old.block_size old.duration;
        block_size = old.duration;
      }

-- the sample after a block of so many
abbrev pub time_after : Option ℕ → ℕ → Option ℕ
time_after None duration = None
time_after (Some time) duration =
    if nat_lt (time + duration) (2 ^ 64) then Some (time + duration) else None

-- what is learnt of a frame at this position
abbrev pub IsLearntBy : ℕ → BlockInfo → Clock → Clock → Type 0
IsLearntBy at info old new =
    ((info.is_variable ≡ true) × (new ≡ record old { counted = VariableBlocks }))
    ⊎ ((info.is_variable ≡ false) × (((follows old at info ≡ false) × (new ≡ old))
    ⊎ ((follows old at info ≡ true) × IsLearnt info.number old new)))

-- the frame that was noted last, and the sample after it
pub record HasLast (end : ℕ) (info : BlockInfo) (after : Option ℕ) (old new : Clock) : Type 0 where
  pub has : new.has_frame ≡ true
  pub ends : new.end ≡ end
  pub numbered : new.number ≡ info.number
  pub lasts : new.duration ≡ info.duration
  pub has_after : new.has_time ≡ is_some after
  pub after_is : new.time ≡ unwrap_or after 0
  pub counts : new.counted ≡ old.counted
  pub sized : new.block_size ≡ old.block_size

-- the streaminfo's block size, if it has just one; else 0
abbrev pub one_block_size : Option StreamInfo → ℕ
one_block_size None = 0
one_block_size (Some info) =
    if info.min_block_size == info.max_block_size then info.min_block_size else 0

-- the sample that is shown as the first of a block: as its header says, where the streaminfo has one
-- block size; else as the clock tells it, if it knows
abbrev pub shown_time : Clock → Option StreamInfo → ℕ → BlockInfo → ℕ → ℕ
shown_time s known at info said =
    if one_block_size known == 0 then unwrap_or (clock_time s at info) said else said
