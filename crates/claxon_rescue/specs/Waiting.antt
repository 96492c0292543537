-- Frames that wait until those after them are known.
use Rattle.std.specs.Prelude.{◌≡◌, List, [], ◌∷◌, Option, None, Some}
use Rattle.claxon_recovery.specs.declared.part.FrameThere.{FrameThere}
use Rattle.claxon_rescue.specs.declared.waiting.Waiting.{Waiting}

-- the frames that wait
abbrev pub waiting_frames : Waiting → List FrameThere
waiting_frames waiting = waiting.frames.items

-- The first frame was taken, or there was none.
abbrev pub TakesFirst : Waiting → Waiting → Option FrameThere → Type 0
TakesFirst old new None = (waiting_frames old ≡ []) × (waiting_frames new ≡ [])
TakesFirst old new (Some there) = waiting_frames old ≡ there ∷ waiting_frames new
