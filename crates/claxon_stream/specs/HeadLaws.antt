-- The laws of what is answered in a head, one statement each.
use Rattle.std.specs.Prelude.{
  ◌≡◌,
  ◌⊎◌,
  ℕ,
  ◌≤◌,
  Bool,
  true,
  false,
  if◌then◌else◌,
  List,
  [],
  ◌∷◌,
  drop,
  length,
  Option,
  None,
  Some,
  Result,
  Ok,
  IsErrAnd,
  IsOkAnd,
}
use Rattle.std.specs.Global.{Global}
use Rattle.claxon.specs.Comments.{Comment}
use Rattle.claxon.specs.Error.{IsFault, IsIo}
use Rattle.claxon.specs.Errors.{Error}
use Rattle.claxon.specs.Fault.{Fault}
use Rattle.claxon.specs.Gives.{GivesOrOutOfMemory, ReadFailedIn}
use Rattle.claxon.specs.Heads.{Head, Options, found_with}
use Rattle.claxon.specs.MetadataBlock.{content_view}
use Rattle.claxon.specs.MetadataBlocks.{Content, Info}
use Rattle.claxon.specs.Promises.{IsOutOfMemory, Remains}
use Rattle.claxon.specs.read.Heads.{head_at}
use Rattle.claxon.specs.read.Reading.{Reading, Done, Faulty, Incomplete}
use Rattle.claxon.specs.ReadHead.{HeadAnswer, head_view, options_view}
use Rattle.claxon.specs.State.{State}
use Rattle.claxon.specs.Streaminfo.{Streaminfo}
use Rattle.claxon.specs.declared.head.FlacReaderOptions.{FlacReaderOptions}
use Rattle.claxon_stream.specs.HeadDecoder.{HeadEventIs, IsHeadAnswer, next_part, shown_header}
use Rattle.claxon_stream.specs.HeadPart.{HeadPart, MarkerPart, HeaderPart, BlockPart, EndPart}
use Rattle.claxon_stream.specs.HeadState.{head_position, needs, new_head}
use Rattle.claxon_stream.specs.declared.head.HeadDecoder.{HeadDecoder}
use Rattle.claxon_stream.specs.declared.head.event.HeadEvent.{HeadEvent}
use Rattle.claxon_stream.specs.declared.head.event.HeadEvent.TheVariants.{
  Block,
  Cut,
  Faulty as FaultyHead,
  Header,
  Marker,
  ReadOn,
  Whole,
}

-- what a call answers
abbrev pub HeadResult : Type 0
HeadResult = Result (HeadEvent Global) Error

-- Two answers say the same.
abbrev pub SameHeadEvent : HeadResult → HeadResult → Type 0
SameHeadEvent (Ok Marker) (Ok Marker) = Unit {0}
SameHeadEvent (Ok (Header a)) (Ok (Header b)) =
    (a.position ≡ b.position) × (shown_header a ≡ shown_header b)
SameHeadEvent (Ok (Block a)) (Ok (Block b)) = content_view a ≡ content_view b
SameHeadEvent (Ok (Whole a)) (Ok (Whole b)) = a ≡ b
SameHeadEvent (Ok (FaultyHead a)) (Ok (FaultyHead b)) =
    (a.position ≡ b.position) × ((f : Fault) × IsFault f a.error × IsFault f b.error)
SameHeadEvent (Ok (Cut a)) (Ok (Cut b)) = a ≡ b
SameHeadEvent _ _ = ⊥

-- At a decoder's position of a stream, with all its bytes from there on, there is one answer, and
-- one state of the decoder after it.
abbrev pub OneHeadAnswer : Type 0
OneHeadAnswer =
    (s : HeadDecoder) (bytes : List ℕ) (x y : HeadResult) (new other : HeadDecoder)
    → IsHeadAnswer x → IsHeadAnswer y
    → HeadEventIs s bytes true x new → HeadEventIs s bytes true y other
    → SameHeadEvent x y × (new ≡ other)

-- These are answers of a stream with all these bytes, one after another, of a decoder that is s
-- before the first and `end` after the last.
abbrev pub AreHeadAnswers : List ℕ → HeadDecoder → List HeadResult → HeadDecoder → Type 0
AreHeadAnswers stream s [] end = s ≡ end
AreHeadAnswers stream s (x ∷ others) end =
    (next : HeadDecoder) × IsHeadAnswer x
    × HeadEventIs s (drop (head_position s) stream) true x next
    × AreHeadAnswers stream next others end

-- They say the same, one by one.
abbrev pub SameHeadEvents : List HeadResult → List HeadResult → Type 0
SameHeadEvents [] [] = Unit {0}
SameHeadEvents (x ∷ xs) (y ∷ ys) = SameHeadEvent x y × SameHeadEvents xs ys
SameHeadEvents _ _ = ⊥

-- As many answers of a decoder say the same, one by one, and leave it in the same state: so it
-- doesn't matter how the stream was cut into what was handed in for them.
abbrev pub HeadCutsDontMatter : Type 0
HeadCutsDontMatter =
    (stream : List ℕ) (s end other : HeadDecoder) (xs ys : List HeadResult) → length xs ≡ length ys
    → AreHeadAnswers stream s xs end → AreHeadAnswers stream s ys other
    → SameHeadEvents xs ys × (end ≡ other)

-- ---- what is answered, by what the bytes begin with

-- It is the answer for this part.
abbrev pub IsAnswerFor : HeadPart → HeadResult → Type 0
IsAnswerFor MarkerPart r = r ≡ Ok Marker
IsAnswerFor (HeaderPart h) (Ok (Header shown)) = shown_header shown ≡ h
IsAnswerFor (BlockPart c) (Ok (Block block)) = content_view block ≡ c
IsAnswerFor EndPart (Ok (Whole at)) = Unit {0}
IsAnswerFor _ _ = ⊥

abbrev pub IsFaultyHeadAnd : HeadResult → (Error → Type 0) → Type 0
IsFaultyHeadAnd (Ok (FaultyHead fault)) P = P fault.error
IsFaultyHeadAnd _ P = ⊥

abbrev pub IsCutHead : HeadResult → Type 0
IsCutHead (Ok (Cut at)) = Unit {0}
IsCutHead _ = ⊥

abbrev pub IsReadOnHead : HeadResult → Type 0
IsReadOnHead (Ok (ReadOn needed)) = Unit {0}
IsReadOnHead _ = ⊥

-- of what is answered, where these bytes are held
pub record HeadAnswersAreComplete : Type 0 where
  -- A part that stands in the bytes is answered, or memory was refused.
  pub part : (s new : HeadDecoder) (bytes rest : List ℕ) (ends : Bool) (r : HeadResult)
      (x : HeadPart)
      → HeadEventIs s bytes ends r new → next_part s bytes ends ≡ Done x rest
      → IsAnswerFor x r ⊎ IsOutOfMemory r
  -- A fault is, where the needed bytes are held or the stream ends, or memory was refused.
  pub fault : (s new : HeadDecoder) (bytes rest : List ℕ) (ends : Bool) (r : HeadResult) (f : Fault)
      → HeadEventIs s bytes ends r new → next_part s bytes ends ≡ Faulty f rest
      → (needs s ≤ length bytes) ⊎ (ends ≡ true)
      → IsFaultyHeadAnd r (IsFault f) ⊎ IsOutOfMemory r
  -- Where the bytes are too few, that is answered, or memory was refused.
  pub cut : (s new : HeadDecoder) (bytes : List ℕ) (r : HeadResult)
      → HeadEventIs s bytes true r new → next_part s bytes true ≡ Incomplete
      → IsCutHead r ⊎ IsOutOfMemory r
  pub read_on : (s new : HeadDecoder) (bytes : List ℕ) (r : HeadResult)
      → HeadEventIs s bytes false r new → next_part s bytes false ≡ Incomplete
      → IsReadOnHead r ⊎ IsOutOfMemory r

-- ---- all answers, and `read_head`

-- the streaminfo so far, and the comments
abbrev pub info_with : Option Streaminfo → Content → Option Streaminfo
info_with info (Info i) = Some i
info_with info _ = info

-- what is kept of these answers
abbrev pub kept_info : Option Streaminfo → List HeadResult → Option Streaminfo
kept_info info [] = info
kept_info info (Ok (Block block) ∷ others) = kept_info (info_with info (content_view block)) others
kept_info info (x ∷ others) = kept_info info others

abbrev pub kept_comment : Option Comment → List HeadResult → Option Comment
kept_comment found [] = found
kept_comment found (Ok (Block block) ∷ others) =
    kept_comment (found_with found (content_view block)) others
kept_comment found (x ∷ others) = kept_comment found others

-- It is the head of what is kept: the streaminfo, and the comments where they are wanted.
pub record IsKeptHead (o : Options) (xs : List HeadResult) (head : Head) : Type 0 where
  pub info : kept_info None xs ≡ Some head.info
  pub comment : head.comment ≡ (if o.wants_comment then kept_comment None xs else None)

-- The last answer, after these, says what reading the head gives: the head that was kept, which
-- ends at the position of `Whole`; a fault; or the bytes end within it.
abbrev pub SaysWhatIsRead : Options → List ℕ → List HeadResult → HeadResult → Reading ℕ Head
    → Type 0
SaysWhatIsRead o stream xs (Ok (Whole at)) read =
    (head : Head) × IsKeptHead o xs head × (read ≡ Done head (drop at stream))
SaysWhatIsRead o stream xs (Ok (FaultyHead fault)) read =
    (f : Fault) × (rest : List ℕ) × IsFault f fault.error × (read ≡ Faulty f rest)
SaysWhatIsRead o stream xs (Ok (Cut at)) read = read ≡ Incomplete
SaysWhatIsRead o stream xs _ read = Unit {0}

-- The answers of a new decoder, one after another, say what reading gives of all bytes from its
-- position on.
abbrev pub HeadAnswersAreReading : Type 0
HeadAnswersAreReading =
    (o : FlacReaderOptions) (stream : List ℕ) (at : ℕ) (xs : List HeadResult) (x : HeadResult)
    (s new : HeadDecoder)
    → AreHeadAnswers stream (new_head at o) xs s → IsHeadAnswer x
    → HeadEventIs s (drop (head_position s) stream) true x new
    → SaysWhatIsRead (options_view o) stream xs x (head_at (options_view o) (drop at stream))

-- The last answer, after these, says what `read_head` returned.
abbrev pub SaysWhatIsReturned : Options → List HeadResult → HeadResult → HeadAnswer Global → Type 0
SaysWhatIsReturned o xs (Ok (Whole at)) r = IsOkAnd r (λ shown. IsKeptHead o xs (head_view shown))
SaysWhatIsReturned o xs (Ok (FaultyHead fault)) r =
    (f : Fault) × IsFault f fault.error × IsErrAnd r (IsFault f)
SaysWhatIsReturned o xs (Ok (Cut at)) r = IsErrAnd r IsIo
SaysWhatIsReturned o xs _ r = Unit {0}

-- They say what `read_head` returns, over all bytes from the position on, if it is granted memory
-- and no read fails. (`old` and `new` are the reader before and after it.)
abbrev pub HeadAnswersAreReadHeads : Type 0
HeadAnswersAreReadHeads =
    (o : FlacReaderOptions) (stream : List ℕ) (at : ℕ) (xs : List HeadResult) (x : HeadResult)
    (s end : HeadDecoder) (r : HeadAnswer Global) (old new : State ℕ)
    → AreHeadAnswers stream (new_head at o) xs s → IsHeadAnswer x
    → HeadEventIs s (drop (head_position s) stream) true x end
    → Remains old (drop at stream) → (ReadFailedIn old new → ⊥)
    → GivesOrOutOfMemory head_view r (head_at (options_view o)) old new
    → SaysWhatIsReturned (options_view o) xs x r ⊎ IsOutOfMemory r
