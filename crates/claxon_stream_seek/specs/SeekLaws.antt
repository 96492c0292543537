-- The laws of what a seek answers, one statement each.
use Rattle.std.specs.Prelude.{ℕ, List, Option, Result, Ok}
use Rattle.claxon.specs.Errors.{Error}
use Rattle.claxon.specs.StreamInfos.{StreamInfo}
use Rattle.claxon_stream.specs.FindLaws.{IsKnown}
use Rattle.claxon_stream_seek.specs.Sought.{NoneIsThere, SeekEventIs}
use Rattle.claxon_stream_seek.specs.declared.event.SeekEvent.{SeekEvent}
use Rattle.claxon_stream_seek.specs.declared.event.SeekEvent.TheVariants.{
  Found,
  NotFound,
  OverBudget,
}
use Rattle.claxon_stream_seek.specs.declared.sought.Sought.{Sought}

-- `NotFound` says that no frame from the first one on has the sample.
abbrev pub NotFoundIsNone : Type 0
NotFoundIsNone = (known : Option StreamInfo) → IsKnown known → (s : Sought) (stream : List ℕ)
    → SeekEventIs known s stream (Ok NotFound) → NoneIsThere known s stream

-- They say the same: that there is a frame with the sample, or none, or that the budget is spent.
abbrev pub SameSeek : Result SeekEvent Error → Result SeekEvent Error → Type 0
SameSeek (Ok (Found a)) (Ok NotFound) = ⊥
SameSeek (Ok NotFound) (Ok (Found b)) = ⊥
SameSeek (Ok NotFound) (Ok OverBudget) = ⊥
SameSeek (Ok OverBudget) (Ok NotFound) = ⊥
SameSeek _ _ = Unit {0}

-- Two answers of one stream do, however it was cut into what was handed in, and whatever length of
-- it was told: none is found where one is not.
abbrev pub SeeksAgree : Type 0
SeeksAgree = (known : Option StreamInfo) → IsKnown known → (s : Sought) (stream : List ℕ)
    (x y : Result SeekEvent Error) → SeekEventIs known s stream x → SeekEventIs known s stream y
    → SameSeek x y
