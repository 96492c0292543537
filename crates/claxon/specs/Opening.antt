-- What opening a stream does to the reader that is passed in, which is kept, or dropped after an
-- Err.
use Rattle.std.specs.Prelude.{
  ◌≡◌,
  ℕ,
  Bool,
  false,
  ◌⊎◌,
  List,
  [],
  ◌++◌,
  Option,
  None,
  IfOk,
  IsOkAnd,
  IsErrAnd,
  Result,
}
use Rattle.std.specs.declared.fs.File.{File}
use Rattle.claxon_format.specs.Fault.{Fault}
use Rattle.claxon_input.specs.declared.error.Error.{Error}
use Rattle.claxon_input.specs.State.{State, state_of, RemainingIsKnown}
use Rattle.claxon_input.specs.Error.{IsFault, IsIo}
use Rattle.claxon_input.specs.Promises.{Remains, HasNeither, IsOutOfMemory, Consumed}
use Rattle.claxon_format.specs.Heads.{Head, Options, HeadCode, HeadFault}
use Rattle.claxon.specs.ReadHead.{buffered_bytes}
use Rattle.claxon.specs.OtherErrors.{IfOtherErr}
use Rattle.claxon_frame.specs.Prefix.{BeginsWith}
use Rattle.claxon.specs.FlacReader.{flac_head, flac_input, flac_metadata_only}
use Rattle.claxon.specs.declared.reader.FlacReader.{FlacReader}

-- the bytes of a reader of which nothing was read
abbrev pub unread : Option (List ℕ) → State ℕ
unread known =
    state_of (λ all. all)
    (record { remaining = known; errors = 0; empty_reads = 0; loans = []; values = λ _. [] })

-- P of the remaining bytes of the reader, where they are known
abbrev pub IfKnown : {R : Type 0} → (R → Option (List ℕ)) → R → (List ℕ → Type 0) → Type 0
IfKnown remaining reader P =
    RemainingIsKnown (unread (remaining reader)) → P (unread (remaining reader)).remaining

-- the bytes after those that were consumed
abbrev pub flac_bytes : {R A : Type 0} → (R → Option (List ℕ)) → FlacReader R A → State ℕ
flac_bytes remaining flac = buffered_bytes remaining (flac_input flac)

-- ---- contracts of the calls that open a stream

-- what they return
abbrev pub OpenAnswer : Type 0 → Type 0 → Type 0
OpenAnswer R A = Result (FlacReader R A) Error

-- The reader has this `metadata_only`.
abbrev pub ShowsMetadataOnly : {R A : Type 0} → Bool → OpenAnswer R A → Type 0
ShowsMetadataOnly metadata_only result =
    IfOk result (λ flac. flac_metadata_only flac ≡ metadata_only)

-- Comments are shown only where `read_vorbis_comment` is true.
abbrev pub ShowsCommentIfRead : {R A : Type 0} → Bool → OpenAnswer R A → Type 0
ShowsCommentIfRead read result =
    IfOk result (λ flac. read ≡ false → (flac_head flac).comment ≡ None)

-- An Err is `OutOfMemory`, an `IoError`, or names a fault with its text.
abbrev pub ErrNamesFault : {X : Type 0} → Result X Error → Type 0
ErrNamesFault result = IfOtherErr result (λ error. (f : Fault) × IsFault f error)

-- the bytes of a `File` aren't known
abbrev pub file_remaining : File → Option (List ℕ)
file_remaining file = None

-- Where a reader is returned no read failed.
abbrev pub NoReadFailed : {R A : Type 0} → (R → Option (List ℕ)) → OpenAnswer R A → Type 0
NoReadFailed remaining result =
    IfOk result (λ flac. ((flac_bytes remaining flac).source.errors ≡ 0)
    × ((flac_bytes remaining flac).source.empty_reads ≡ 0))

-- The answer is `OutOfMemory` or an `IoError`. The reader was dropped, so its counts of failed
-- reads are gone.
abbrev pub IsMemoryOrIoError : {X : Type 0} → Result X Error → Type 0
IsMemoryOrIoError result = IsOutOfMemory result ⊎ IsErrAnd result IsIo

-- `reader` is the one that was passed in.
module _ {R A : Type 0} (remaining : R → Option (List ℕ)) (o : Options) (reader : R)
    (result : OpenAnswer R A) where
  -- The head that is shown is one under these options, and its bytes alone were consumed.
  abbrev pub OpenIsSound : Type 0
  OpenIsSound =
      IfOk result (λ flac.
      Consumed (unread (remaining reader)) (flac_bytes remaining flac)
      (HeadCode o (flac_head flac)))

  -- Where the bytes begin with a head, whatever follows, it is shown and alone consumed, or
  -- there is one of these errors.
  abbrev pub OpenIsComplete : Type 0
  OpenIsComplete =
      (h : Head) (t rest : List ℕ) → HeadCode o h t
      → Remains (unread (remaining reader)) (t ++ rest)
      → IsOkAnd result (λ flac. (flac_head flac ≡ h) × Remains (flac_bytes remaining flac) rest)
      ⊎ IsMemoryOrIoError result

  -- An Err is `OutOfMemory`, an `IoError`, or the name of a fault that the bytes begin with.
  abbrev pub OpenFaultIsSound : Type 0
  OpenFaultIsSound =
      IfOtherErr result (λ error. IfKnown remaining reader (λ s.
      (f : Fault) × IsFault f error × BeginsWith (HeadFault o f) s))

  -- Where the bytes begin with a fault it is named, or there is one of these errors.
  abbrev pub OpenFaultIsComplete : Type 0
  OpenFaultIsComplete =
      (f : Fault) (t rest : List ℕ) → HeadFault o f t
      → Remains (unread (remaining reader)) (t ++ rest)
      → IsErrAnd result (IsFault f) ⊎ IsMemoryOrIoError result

  -- Where they begin with neither there is one of these errors.
  abbrev pub OpenElseIoError : Type 0
  OpenElseIoError =
      IfKnown remaining reader (λ s.
      HasNeither (HeadCode o) (HeadFault o) s → IsMemoryOrIoError result)
