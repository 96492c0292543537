-- Frames that are verified alone, as those of a stream whose head can't be read.
use Rattle.std.specs.Prelude.{◌≡◌, ◌⊎◌, ◌↔◌, ◌^◌, ◌≤◌, ℕ, false, IfErr, IfOk, List, length, None, Result}
use Rattle.claxon.specs.Error.{IsIo}
use Rattle.claxon.specs.Errors.{Error}
use Rattle.claxon.specs.Errors.TheVariants.{OutOfMemory}
use Rattle.claxon.specs.Gives.{ReadFailedIn}
use Rattle.claxon.specs.MetadataBlock.{info_view}
use Rattle.claxon.specs.State.{State, RemainingIsKnown}
use Rattle.claxon.specs.StreamInfos.{StreamInfo}
use Rattle.claxon_blocks.specs.declared.md5_verdict.Md5Verdict.TheVariants.{NotComputed}
use Rattle.claxon_recovery.specs.Runs.{AreSearched}
use Rattle.claxon_verify.specs.PartFaults.{BeginsWithTooMany}
use Rattle.claxon_verify.specs.Trailing.{AreBytes, TrailingIs, scan_of}
use Rattle.claxon_verify.specs.VerifiedParts.{NotesOfParts, PartsCounted}
use Rattle.claxon_verify.specs.Verify.{IsTooMany, ReportValue, report_view}
use Rattle.claxon_report.specs.declared.report.Notes.{Notes}
use Rattle.claxon_report.specs.declared.report.Report.{Report}

-- the streaminfo of frames whose number isn't known
abbrev pub without_samples : StreamInfo → StreamInfo
without_samples info = record info { samples = None }

-- s is parts of a stream with this streaminfo, from the first byte up to the end, and the report
-- and its notes are about them. No MD5 sum is computed, and the stream isn't right.
pub record IsOfFrames (info : StreamInfo) (s : List ℕ) (report : ReportValue) (notes : Notes)
    : Type 0 where
  pub info_is : report.info ≡ info_view info
  pub unsupported : report.unsupported ≡ None
  pub counted : PartsCounted info 0 s report.counts
  pub md5_is : report.md5 ≡ NotComputed
  pub sum_is : report.sum ≡ None
  pub wrong : report.is_right ≡ false
  pub searched : (notes.has_unsearched ≡ false) ↔ AreSearched counted.parts
  pub noted : NotesOfParts (info_view info) counted.parts counted.found notes

-- The report is about the remaining bytes.
abbrev pub FramesReportIsSound : {A : Type 0} → StreamInfo → State ℕ → Result (Report A) Error
    → Type 0
FramesReportIsSound info old result =
    IfOk result (λ report.
    RemainingIsKnown old
    → IsOfFrames (without_samples info) old.remaining (report_view report) report.found.notes)

-- What is said of bytes after the last frame is so, by the parts of which the report is.
abbrev pub FramesTrailingIsTold : {A : Type 0} → StreamInfo → State ℕ → Result (Report A) Error
    → Type 0
FramesTrailingIsTold info old result =
    IfOk result (λ report.
    RemainingIsKnown old → AreBytes old.remaining
    → (is : IsOfFrames (without_samples info) old.remaining (report_view report)
    report.found.notes)
    × TrailingIs ⊥ None (scan_of (info_view (without_samples info)) is.counted.found) 0
    old.remaining is.counted.end report.trailing)

-- Why frames aren't all found: the error is `OutOfMemory`, or an `IoError`, and the source failed;
-- it says that there are more parts or samples than can be counted, and so it is; or there are 2^64
-- bytes or more.
abbrev pub StopsFrames : StreamInfo → State ℕ → State ℕ → Error → Type 0
StopsFrames info old new e =
    (e ≡ OutOfMemory)
    ⊎ ((IsIo e × (RemainingIsKnown old → ReadFailedIn old new))
    ⊎ (RemainingIsKnown old → (IsTooMany e × BeginsWithTooMany info 0 old.remaining)
    ⊎ (2 ^ 64 ≤ length old.remaining)))

-- An Err says why.
abbrev pub FramesFaultIsSound : {A : Type 0} → StreamInfo → State ℕ → Result (Report A) Error
    → State ℕ → Type 0
FramesFaultIsSound info old result new =
    IfErr result (StopsFrames (without_samples info) old new)
