-- Why a stream isn't verified by its parts.
use Rattle.std.specs.Prelude.{◌≡◌, ◌⊎◌, ℕ, ◌+◌, ◌%◌, ◌^◌, ◌≤◌, IfErr, List, [], ◌∷◌, ◌++◌, length, Some, Result}
use Rattle.std.specs.List.{sum_by}
use Rattle.claxon.specs.Error.{IsFault, IsIo}
use Rattle.claxon.specs.Errors.{Error}
use Rattle.claxon.specs.Errors.TheVariants.{OutOfMemory}
use Rattle.claxon.specs.Fault.{Fault}
use Rattle.claxon.specs.Gives.{ReadFailedIn}
use Rattle.claxon.specs.MetadataBlock.{info_view}
use Rattle.claxon.specs.Prefix.{BeginsWith}
use Rattle.claxon.specs.Promises.{HasNeither}
use Rattle.claxon.specs.Source.{Source}
use Rattle.claxon.specs.State.{State, RemainingIsKnown}
use Rattle.claxon.specs.StreamInfos.{StreamInfo}
use Rattle.claxon_recovery.specs.Parts.{
  IsPart,
  PartStops,
  SourceIsKnown,
  after_part,
  parts_position,
  unread,
}
use Rattle.claxon_recovery.specs.Runs.{FindsFrame}
use Rattle.claxon_recovery.specs.declared.part.Part.{Part}
use Rattle.claxon_recovery.specs.declared.part.Part.TheVariants.{
  Frame as IsFrame,
  Damage as IsDamage,
}
use Rattle.claxon_recovery.specs.declared.parts.Parts.{Parts}
use Rattle.claxon_verify.specs.RightStream.{frame_duration}
use Rattle.claxon_heads.specs.StreamHead.{
  FoundHead,
  FoundHeadCode,
  FoundHeadFault,
  HeadNeedsMemory,
}
use Rattle.claxon_verify.specs.VerifiedParts.{part_frames}
use Rattle.claxon_verify.specs.Verify.{IsTooMany}
use Rattle.claxon_verify.specs.Walk.{ExceedsCount}
use Rattle.claxon_report.specs.declared.report.Report.{Report}
use Rattle.claxon_verify.specs.declared.walk.Walk.{Walk}

-- ---- parts that a stream begins with

-- s begins with these parts, as calls answer them; m is left after them, at the position `at`.
abbrev pub AnsweredUpTo : StreamInfo → ℕ → List ℕ → List Part → ℕ → List ℕ → Type 0
AnsweredUpTo info start s [] at m = (s ≡ m) × (start ≡ at)
AnsweredUpTo info start s (part ∷ parts) at m =
    (n : List ℕ) × IsPart (Some info) start s n (Some part) × FindsFrame (Some info) s n part
    × AnsweredUpTo info (after_part start (Some part)) n parts at m

-- They are too many to be counted: their frames have 2^64 samples, or there are 2^64 - 1 of them.
abbrev pub AreTooManyParts : List Part → Type 0
AreTooManyParts parts =
    (2 ^ 64 ≤ sum_by frame_duration (part_frames parts)) ⊎ (2 ^ 64 ≤ length parts + 1)

-- s, of which the first byte is at the position `start`, begins with parts that are too many.
pub record BeginsWithTooMany (info : StreamInfo) (start : ℕ) (s : List ℕ) : Type 0 where
  pub parts : List Part
  pub at : ℕ
  pub left : List ℕ
  pub are : AnsweredUpTo info start s parts at left
  pub many : AreTooManyParts parts

-- s is a head, and then too many parts.
pub record HasTooManyParts (s : List ℕ) : Type 0 where
  pub head : FoundHead
  pub front : List ℕ
  pub bytes : List ℕ
  pub code : FoundHeadCode head front
  pub joined : s ≡ front ++ bytes
  pub shown : StreamInfo
  pub shown_is : info_view shown ≡ head.info
  pub start : ℕ
  pub start_is : start ≡ length front % 2 ^ 64
  pub begins : BeginsWithTooMany shown start bytes

-- ---- the contract of the call

-- s begins with a head.
abbrev pub BeginsWithHead : List ℕ → Type 0
BeginsWithHead s = (head : FoundHead) × BeginsWith (FoundHeadCode head) s

-- An error is `OutOfMemory`, after the header of a metadata block or after a head; an `IoError`,
-- where s begins with neither a head nor a fault of one, or the source failed; it says that there
-- are more parts or samples than can be counted, or names a fault of a head, and so it is; or there
-- are 2^64 bytes or more.
abbrev pub StopsParts : Type 0 → List ℕ → Error → Type 0
StopsParts failed s e =
    ((e ≡ OutOfMemory) × (HeadNeedsMemory s ⊎ BeginsWithHead s))
    ⊎ ((IsIo e × (HasNeither FoundHeadCode FoundHeadFault s ⊎ failed))
    ⊎ ((IsTooMany e × HasTooManyParts s)
    ⊎ (((f : Fault) × IsFault f e × BeginsWith (FoundHeadFault f) s) ⊎ (2 ^ 64 ≤ length s))))

-- An Err says why.
abbrev pub PartsFaultIsSound : {A : Type 0} → State ℕ → Result (Report A) Error → State ℕ → Type 0
PartsFaultIsSound old result new =
    IfErr result (λ e.
    RemainingIsKnown old → StopsParts (ReadFailedIn old new) old.remaining e)

-- It says why. Where the source failed, it is reached as before.
abbrev pub CountedFaultIsSound : {A : Type 0} → State ℕ → Result (Report A) Error → State ℕ
    → Type 0
CountedFaultIsSound old result new =
    IfErr result (λ e.
    RemainingIsKnown old
    → StopsParts ((new.source.loans ≡ old.source.loans) × ReadFailedIn old new) old.remaining e)

-- ---- the walk

-- The error says that with this part there are more frames or samples than can be counted, and so
-- it is.
abbrev pub ExceedsPart : {A : Type 0} → Part → Walk A → Error → Type 0
ExceedsPart (IsFrame there) walk e = ExceedsCount there.frame walk e
ExceedsPart (IsDamage damage) walk e = ⊥

-- A part couldn't be read, or the error says that they are too many, and so it is.
abbrev pub StopsWalk : {R : Type 0} → (R → Source ℕ) → StreamInfo → Parts R → Parts R → Error
    → Type 0
StopsWalk source info old new e =
    PartStops source old new e
    ⊎ (IsTooMany e
    × (SourceIsKnown source old → BeginsWithTooMany info (parts_position old) (unread source old)))
