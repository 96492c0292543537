-- What a search for a frame passes, byte by byte, and what it costs.
use Rattle.std.specs.Prelude.{
  ◌≡◌,
  ◌⊎◌,
  ℕ,
  zero,
  suc,
  ◌+◌,
  ◌*◌,
  ◌≤◌,
  Bool,
  true,
  List,
  drop,
  length,
  Option,
  None,
  Result,
  Ok,
  Err,
}
use Rattle.claxon.specs.BlockInfos.{BlockInfo}
use Rattle.claxon.specs.DecodedFrame.{FrameWithHeader, decoded_view}
use Rattle.claxon.specs.Errors.{Error}
use Rattle.claxon.specs.Fault.{Fault}
use Rattle.claxon.specs.Frame.{FrameBytesFault}
use Rattle.claxon.specs.Promises.{IsOutOfMemory}
use Rattle.claxon.specs.StreamInfos.{StreamInfo}
use Rattle.claxon_seek.specs.Find.{EndsInFrame, WantedFrame, WantedHeader, known_format}
use Rattle.claxon_stream.specs.Budget.{charged, made_good, work_left}
use Rattle.claxon_stream.specs.DecodedAtStart.{BeginsWithLength}
use Rattle.claxon_stream.specs.declared.event.FindEvent.{FindEvent}
use Rattle.claxon_stream.specs.declared.event.FindEvent.TheVariants.{Found, NotFound, ReadOn}

-- ---- the cost

-- What a search has cost: how much work, in samples and bytes, led to no frame and wasn't made
-- good; and whether a header was passed over untried, as that was more than is allowed.
pub record Cost : Type 0 where
  pub wasted : ℕ
  pub passes_over : Bool

-- after so many bytes, which make work good
abbrev pub after_bytes : ℕ → Cost → Cost
after_bytes count e = record { wasted = made_good e.wasted count; passes_over = e.passes_over }

-- after so much work that led to no frame
abbrev pub after_work : ℕ → Cost → Cost
after_work work e = record { wasted = charged e.wasted work; passes_over = e.passes_over }

-- after a header that was passed over untried
abbrev pub after_passing_over : Cost → Cost
after_passing_over e = record { wasted = e.wasted; passes_over = true }

-- the number of samples of a block, of all channels
abbrev pub samples_of : BlockInfo → ℕ
samples_of info = info.channels * info.duration

-- The frame of a header is tried: its block has no more samples than are left of the budget.
abbrev pub FitsBudget : Cost → BlockInfo → Type 0
FitsBudget e info = samples_of info ≤ work_left e.wasted

-- ---- what is passed

-- Frames with the number of channels and the bit depth of the streaminfo, if that is known.
module _ (known : Option StreamInfo) where
  -- The bytes begin with a fault of n bytes; or they end within what may be a frame, and are n.
  abbrev pub IsReadInVain : List ℕ → ℕ → Type 0
  IsReadInVain bytes n =
      ((f : Fault) × BeginsWithLength (FrameBytesFault (known_format known) f) bytes n)
      ⊎ (EndsInFrame known bytes × (n ≡ length bytes))

  -- The first of the bytes is passed. No header begins with it. Or the frame of a header is passed
  -- over, as its block has more samples than are left of the budget; or tried in vain, and these
  -- samples are charged, and the bytes that are read.
  abbrev pub PassesByte : List ℕ → Cost → Cost → Type 0
  PassesByte bytes old new =
      (((info : BlockInfo) → WantedHeader known None bytes info → ⊥) × (new ≡ after_bytes 1 old))
      ⊎ ((info : BlockInfo) × WantedHeader known None bytes info
      × (((FitsBudget old info → ⊥) × (new ≡ after_bytes 1 (after_passing_over old)))
      ⊎ (FitsBudget old info
      × ((n : ℕ) × IsReadInVain bytes n
      × (new ≡ after_bytes 1 (after_work (n + samples_of info) old))))))

  -- So many bytes are passed, one after another.
  abbrev pub Passes : List ℕ → ℕ → Cost → Cost → Type 0
  Passes bytes zero old new = new ≡ old
  Passes bytes (suc count) old new =
      (between : Cost) × Passes bytes count old between
      × PassesByte (drop count bytes) between new

  -- ---- what is answered

  -- of all bytes of a stream from a position on
  module _ (bytes : List ℕ) (position : ℕ) (old : Cost) where
    -- What is answered, and the position and the cost after it: the first frame that isn't passed,
    -- whose header says what is returned; all bytes are passed; or some are passed, and what begins
    -- after them isn't known yet. `OutOfMemory` is returned only where a header begins there.
    abbrev pub FindEventIs : Result FindEvent Error → ℕ → Cost → Type 0
    FindEventIs (Ok (Found at frame)) next new =
        (count : ℕ) × (before : Cost) × (taken : ℕ) × (at ≡ position + count)
        × Passes bytes count old before
        × WantedFrame known None (drop count bytes) frame.info × FitsBudget before frame.info
        × BeginsWithLength (FrameWithHeader (known_format known) (decoded_view frame))
        (drop count bytes) taken
        × (next ≡ at + taken) × (new ≡ after_bytes taken before)
    FindEventIs (Ok NotFound) next new =
        Passes bytes (length bytes) old new × (next ≡ position + length bytes)
    FindEventIs (Ok (ReadOn needed)) next new =
        (count : ℕ) × (next ≡ position + count) × (count ≤ length bytes)
        × Passes bytes count old new
    FindEventIs (Err e) next new =
        IsOutOfMemory {A = FindEvent} (Err e)
        × ((count : ℕ) × (next ≡ position + count) × Passes bytes count old new
        × ((info : BlockInfo) × WantedHeader known None (drop count bytes) info
        × FitsBudget new info))
