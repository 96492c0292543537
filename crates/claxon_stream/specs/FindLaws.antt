-- The laws of what a search for a frame answers, one statement each.
use Rattle.std.specs.Prelude.{
  ◌≡◌,
  ℕ,
  ◌+◌,
  ◌-◌,
  ◌≤◌,
  false,
  List,
  [],
  ◌∷◌,
  drop,
  length,
  Option,
  None,
  IfSome,
  Result,
  Ok,
  Err,
}
use Rattle.claxon.specs.DecodedFrame.{decoded_view}
use Rattle.claxon.specs.Errors.{Error}
use Rattle.claxon.specs.ShownHead.{HasBitDepth}
use Rattle.claxon.specs.StreamInfos.{StreamInfo}
use Rattle.claxon_seek.specs.Find.{
  BudgetIsSpent,
  FoundIsFirst,
  IfFound,
  IfNotFound,
  NoFrameBetween,
  NoFrameFrom,
  NotFoundIsNone,
}
use Rattle.claxon_seek.specs.declared.search.Search.{Search}
use Rattle.claxon_stream.specs.Budget.{work_left}
use Rattle.claxon_stream.specs.Search.{Cost, FindEventIs}
use Rattle.claxon_stream.specs.declared.event.FindEvent.{FindEvent}
use Rattle.claxon_stream.specs.declared.event.FindEvent.TheVariants.{Found, NotFound, ReadOn}

-- It is `Found` or `NotFound`.
abbrev pub IsFindAnswer : Result FindEvent Error → Type 0
IsFindAnswer (Ok (Found at frame)) = Unit {0}
IsFindAnswer (Ok NotFound) = Unit {0}
IsFindAnswer (Ok (ReadOn needed)) = ⊥
IsFindAnswer (Err e) = ⊥

-- They say the same.
abbrev pub SameFind : Result FindEvent Error → Result FindEvent Error → Type 0
SameFind (Ok (Found a x)) (Ok (Found b y)) = (a ≡ b) × (decoded_view x ≡ decoded_view y)
SameFind (Ok NotFound) (Ok NotFound) = Unit {0}
SameFind _ _ = ⊥

-- what a search knows of the stream: nothing, or a bit depth of 1 to 32 bits
abbrev pub IsKnown : Option StreamInfo → Type 0
IsKnown known = IfSome known (λ info. HasBitDepth info)

-- From a position of a stream on, with all its bytes from there, and after the same cost, there is
-- one answer, and one position and one cost after it.
abbrev pub OneFind : Type 0
OneFind =
    (known : Option StreamInfo) → IsKnown known
    → (bytes : List ℕ) (position : ℕ) (cost : Cost) (x y : Result FindEvent Error)
    (new other : ℕ) (after later : Cost) → IsFindAnswer x → IsFindAnswer y
    → FindEventIs known bytes position cost x new after
    → FindEventIs known bytes position cost y other later
    → SameFind x y × (new ≡ other) × (after ≡ later)

-- These are what calls return, one after another, of a stream with all these bytes: the first one
-- from the position `at` on, each other one from the position after the one before.
abbrev pub AreFinds : Option StreamInfo → List ℕ → ℕ → Cost → List (Result FindEvent Error)
    → Type 0
AreFinds known bytes at cost [] = Unit {0}
AreFinds known bytes at cost (x ∷ others) =
    (next : ℕ) × (after : Cost) × FindEventIs known (drop at bytes) at cost x next after
    × AreFinds known bytes next after others

-- those of them that are answers
abbrev pub find_answers : List (Result FindEvent Error) → List (Result FindEvent Error)
find_answers [] = []
find_answers (Ok (Found at frame) ∷ others) = Ok (Found at frame) ∷ find_answers others
find_answers (Ok NotFound ∷ others) = Ok NotFound ∷ find_answers others
find_answers (Ok (ReadOn needed) ∷ others) = find_answers others
find_answers (Err e ∷ others) = find_answers others

-- They say the same, one by one.
abbrev pub SameFinds : List (Result FindEvent Error) → List (Result FindEvent Error) → Type 0
SameFinds [] [] = Unit {0}
SameFinds (x ∷ xs) (y ∷ ys) = SameFind x y × SameFinds xs ys
SameFinds _ _ = ⊥

-- What calls return from a position on, with as many answers, says the same, answer by answer: so
-- it doesn't matter how the stream is cut into what is handed in for them, nor where memory is
-- refused.
abbrev pub FindCutsDontMatter : Type 0
FindCutsDontMatter =
    (known : Option StreamInfo) → IsKnown known
    → (bytes : List ℕ) (at : ℕ) (cost : Cost) (xs ys : List (Result FindEvent Error))
    → length (find_answers xs) ≡ length (find_answers ys)
    → AreFinds known bytes at cost xs → AreFinds known bytes at cost ys
    → SameFinds (find_answers xs) (find_answers ys)

-- No frame begins before the one that is found, or none begins.
abbrev pub IsFirst : Option StreamInfo → List ℕ → ℕ → Result FindEvent Error → Type 0
IsFirst known bytes position (Ok (Found at frame)) =
    NoFrameBetween known None bytes 0 (at - position)
IsFirst known bytes position (Ok NotFound) = NoFrameFrom known None bytes 0
IsFirst known bytes position (Ok (ReadOn needed)) = Unit {0}
IsFirst known bytes position (Err e) = Unit {0}

-- So it is where no header was passed over.
abbrev pub FindIsFirst : Type 0
FindIsFirst =
    (known : Option StreamInfo) → IsKnown known
    → (bytes : List ℕ) (position : ℕ) (cost : Cost) (x : Result FindEvent Error)
    (new : ℕ) (after : Cost) → FindEventIs known bytes position cost x new after
    → after.passes_over ≡ false → IsFirst known bytes position x

-- an answer of `find_frame` from the start of these bytes on
pub record IsFindOf (known : Option StreamInfo) (bytes : List ℕ) (budget : ℕ)
    (r : Result Search Error) (left : ℕ) : Type 0 where
  pub first : FoundIsFirst known bytes 0 budget r left
  pub none : NotFoundIsNone known bytes 0 budget r left
  pub spent : BudgetIsSpent known bytes 0 budget r left

-- It is what `find_frame` returns, if that finds a frame or none.
abbrev pub IsFindFrames : ℕ → Result FindEvent Error → Result Search Error → Type 0
IsFindFrames position (Ok (Found at frame)) r =
    IfFound r (λ found. (at ≡ position + found.position) × (frame.info ≡ found.block))
    × IfNotFound r (λ undecided. ⊥)
IsFindFrames position (Ok NotFound) r = IfFound r (λ found. ⊥)
IsFindFrames position (Ok (ReadOn needed)) r = ⊥
IsFindFrames position (Err e) r = ⊥

-- An answer is that of `find_frame` over all bytes of the stream from the position on, with no
-- larger a budget than is left.
abbrev pub FindsAreFindFrames : Type 0
FindsAreFindFrames =
    (known : Option StreamInfo) → IsKnown known
    → (bytes : List ℕ) (position budget : ℕ) (cost : Cost) (x : Result FindEvent Error)
    (new : ℕ) (after : Cost) (r : Result Search Error) (left : ℕ)
    → IsFindAnswer x → FindEventIs known bytes position cost x new after
    → budget ≤ work_left cost.wasted → IsFindOf known bytes budget r left
    → IsFindFrames position x r
