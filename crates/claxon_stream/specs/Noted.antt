-- What is noted of an answer.
use Rattle.std.specs.Prelude.{◌≡◌, ℕ, Bool, true, false, List, length, Option, Result, Ok, Err}
use Rattle.claxon.specs.Errors.{Error}
use Rattle.claxon.specs.Frame.{StreamFormat}
use Rattle.claxon_stream.specs.Budget.{charged, cost_of_try}
use Rattle.claxon_stream.specs.DecodedAtStart.{SamplesAreSaid}
use Rattle.claxon_stream.specs.FrameEnd.{EndIsNoted, StartKnows}
use Rattle.claxon_stream.specs.declared.ending.FrameEnd.{FrameEnd}
use Rattle.claxon_stream.specs.declared.event.Event.{Event}
use Rattle.claxon_stream.specs.declared.event.Event.TheVariants.{Cut, Decoded, End, Faulty, ReadOn}

-- After `ReadOn` it is noted that the bytes were tried in vain. After another answer nothing is
-- known of the next frame.
abbrev pub EndIsAfter : Result Event Error → FrameEnd → List ℕ → FrameEnd → Type 0
EndIsAfter (Ok (ReadOn needed)) old rest new = EndIsNoted rest old new
EndIsAfter (Ok (Decoded frame)) old rest new = StartKnows new
EndIsAfter (Ok (Faulty fault)) old rest new = StartKnows new
EndIsAfter (Ok End) old rest new = StartKnows new
EndIsAfter (Ok (Cut at)) old rest new = StartKnows new
EndIsAfter (Err e) old rest new = new ≡ old

-- The work of `ReadOn` where the bytes weren't due to be tried; else none.
abbrev pub IsWorkOf : Result Event Error → Bool → List ℕ → ℕ → Type 0
IsWorkOf (Ok (ReadOn needed)) false rest work = work ≡ cost_of_try (length rest)
IsWorkOf (Ok (ReadOn needed)) true rest work = work ≡ 0
IsWorkOf (Ok (Decoded frame)) is_due rest work = work ≡ 0
IsWorkOf (Ok (Faulty fault)) is_due rest work = work ≡ 0
IsWorkOf (Ok End) is_due rest work = work ≡ 0
IsWorkOf (Ok (Cut at)) is_due rest work = work ≡ 0
IsWorkOf (Err e) is_due rest work = work ≡ 0

-- The work of a fault or of a cut frame: the bytes that are passed, and the samples that its header
-- says; as far as 64 bits say it. Else none.
abbrev pub IsWorkOfFault : Option StreamFormat → List ℕ → Result Event Error → ℕ → ℕ → Type 0
IsWorkOfFault stream rest (Ok (Faulty fault)) moved work =
    (samples : ℕ) × SamplesAreSaid stream rest samples × (work ≡ charged moved samples)
IsWorkOfFault stream rest (Ok (Cut at)) moved work =
    (samples : ℕ) × SamplesAreSaid stream rest samples × (work ≡ charged moved samples)
IsWorkOfFault stream rest (Ok (Decoded frame)) moved work = work ≡ 0
IsWorkOfFault stream rest (Ok End) moved work = work ≡ 0
IsWorkOfFault stream rest (Ok (ReadOn needed)) moved work = work ≡ 0
IsWorkOfFault stream rest (Err e) moved work = work ≡ 0
