-- Tags as text.
use Rattle.std.specs.Prelude.{
  ◌≡◌,
  ◌⊎◌,
  ℕ,
  true,
  List,
  ◌∷◌,
  ◌++◌,
  Option,
  String,
  Vec,
  map,
  string_bytes,
  IfOk,
  IsOkAnd,
  IsErrAnd,
  Result,
}
use Rattle.claxon.specs.Error.{IsFault}
use Rattle.claxon.specs.Errors.{Error}
use Rattle.claxon.specs.Fault.{Fault}
use Rattle.claxon.specs.FlacReader.{flac_head}
use Rattle.claxon.specs.Heads.{Head, HeadCode, HeadFault, Options}
use Rattle.claxon.specs.Opening.{IfKnown, IsMemoryOrIoError}
use Rattle.claxon.specs.declared.reader.FlacReader.{FlacReader}
use Rattle.claxon.specs.OtherErrors.{IfOtherErr}
use Rattle.claxon.specs.Prefix.{BeginsWith}
use Rattle.claxon.specs.ShownHead.{comment_tags}

-- NAME=value; 0x3d is `=`
abbrev pub tag_line : List ℕ × List ℕ → List ℕ
tag_line tag = tag.0 ++ 0x3d ∷ tag.1

-- These are the tags of the head, in order.
abbrev pub AreTagsOf : {A : Type 0} → Head → Vec (String A) A → Type 0
AreTagsOf head lines =
    map (λ line. string_bytes line) lines.items ≡ map tag_line (comment_tags head.comment)

-- These are the tags that the reader shows, in order.
abbrev pub AreTags : {R A : Type 0} → FlacReader R A → Vec (String A) A → Type 0
AreTags flac lines = AreTagsOf (flac_head flac) lines

-- the head and its comments are read, and nothing after them
abbrev pub metadata_alone : Options
metadata_alone = record { metadata_only = true; wants_comment = true }

module _ {R A : Type 0} (remaining : R → Option (List ℕ)) (reader : R)
    (result : Result (Vec (String A) A) Error) where
  -- What is returned are the tags of a head that the bytes begin with.
  abbrev pub TagLinesAreSound : Type 0
  TagLinesAreSound =
      IfOk result (λ lines. IfKnown remaining reader (λ s.
      (h : Head) × BeginsWith (HeadCode metadata_alone h) s × AreTagsOf h lines))

  -- The tags of a head that they begin with are returned, or the answer is `OutOfMemory` or an
  -- `IoError`.
  abbrev pub TagLinesAreComplete : Type 0
  TagLinesAreComplete =
      (h : Head) → IfKnown remaining reader (λ s. BeginsWith (HeadCode metadata_alone h) s
      → IsOkAnd result (AreTagsOf h) ⊎ IsMemoryOrIoError result)

  -- An Err is `OutOfMemory`, an `IoError`, or the name of a fault of a head that they begin with.
  abbrev pub TagFaultIsSound : Type 0
  TagFaultIsSound =
      IfOtherErr result (λ e. IfKnown remaining reader (λ s.
      (f : Fault) × IsFault f e × BeginsWith (HeadFault metadata_alone f) s))

  -- A fault of a head that they begin with is named, or the answer is `OutOfMemory` or an
  -- `IoError`.
  abbrev pub TagFaultIsComplete : Type 0
  TagFaultIsComplete =
      (f : Fault) → IfKnown remaining reader (λ s. BeginsWith (HeadFault metadata_alone f) s
      → IsErrAnd result (IsFault f) ⊎ IsMemoryOrIoError result)
