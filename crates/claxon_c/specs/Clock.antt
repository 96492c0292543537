-- What the calls tell of where blocks begin in time: the clauses of `Clock`.
use Rattle.std.specs.Prelude.{◌≡◌, ◌⊎◌, ◌↔◌, ℕ, if◌then◌else◌, Option, None, Some}
use Rattle.claxon_stream_seek.specs.Clock.{
  NeedsFrames,
  NoteKeepsOrder,
  NoteKeepsRight,
  NoteKnowsUnit,
  NoteKnowsVariable,
  TimeIsExact,
  TimeIsInOrder,
  TimeIsKnown,
  shown_time,
}
use Rattle.claxon_stream_seek.specs.declared.clock.Clock.{Clock}
use Rattle.claxon_c.specs.ShownFrame.{said_of}
use Rattle.claxon_c.specs.declared.frame.ClaxonFrame.{ClaxonFrame}
use Rattle.claxon_c.specs.declared.heads.ClaxonInfo.{ClaxonInfo}
use Rattle.claxon_c.specs.HeldBytes.{says_yes}
use Rattle.claxon_c.specs.Info.{known_info}

-- the time that is told, if one is
abbrev pub told : ℕ → ℕ → Option ℕ
told says time = if says_yes says then Some time else None

module _ (clock : Clock) (frame : ClaxonFrame) (says time : ℕ) where
  -- It is the sample at which the block begins.
  abbrev pub CTimeIsExact : Type 0
  CTimeIsExact = TimeIsExact clock frame.position (said_of frame) (told says time)

  -- It is told of each frame once the clock knows what numbers count.
  abbrev pub CTimeIsKnown : Type 0
  CTimeIsKnown = TimeIsKnown clock frame.position (said_of frame) (told says time)

  -- It is told of the frame after those that were noted, one after another from the first.
  abbrev pub CTimeIsInOrder : Type 0
  CTimeIsInOrder = TimeIsInOrder clock frame.position (said_of frame) (told says time)

-- 1 or 0 is returned, and with 0 nothing is changed.
abbrev pub CTimeIsKept : ℕ → ℕ → ℕ → Type 0
CTimeIsKept says old new = (says ≡ 1) ⊎ ((says ≡ 0) × (new ≡ old))

module _ (frame : ClaxonFrame) (old new : Clock) where
  -- What the clock knows stays right of each steady stream that has the frame.
  abbrev pub CNoteKeepsRight : Type 0
  CNoteKeepsRight = NoteKeepsRight frame.position frame.end (said_of frame) old new

  -- Of each stream one frame more was noted in order.
  abbrev pub CNoteKeepsOrder : Type 0
  CNoteKeepsOrder = NoteKeepsOrder frame.position frame.end (said_of frame) old new

  -- What numbers count is known after two frames that follow one another, and stays known.
  abbrev pub CNoteKnowsUnit : Type 0
  CNoteKnowsUnit = NoteKnowsUnit frame.position frame.end (said_of frame) old new

-- What numbers count is known after a frame whose block size is variable.
abbrev pub CNoteKnowsVariable : ClaxonFrame → Clock → Type 0
CNoteKnowsVariable frame new = NoteKnowsVariable (said_of frame) new

-- The time of the header is kept, or that of the clock is told.
abbrev pub CTimeIsShown : ClaxonInfo → Clock → ClaxonFrame → ℕ → ℕ → Type 0
CTimeIsShown info clock frame old new =
    new ≡ shown_time clock (known_info info) frame.position (said_of frame) old

-- 1 exactly where the clock doesn't know what numbers count, else 0
pub record CNeedsFrames (clock : Clock) (result : ℕ) : Type 0 where
  pub test : (result ≡ 1) ↔ NeedsFrames clock
  pub is_test : (result ≡ 0) ⊎ (result ≡ 1)
