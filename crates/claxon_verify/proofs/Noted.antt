-- The notes of a whole stream: its head, and what was noted after it.
use Rattle.std.specs.Borrow.{MutBor}
use Rattle.std.proofs.Common.{◌≡◌, ℕ, length, sym, subst}
use Rattle.std.specs.Prelude.{Option, Result, Ok}
use Rattle.claxon.specs.Errors.{Error}
use Rattle.claxon.specs.Frame.{StreamFormat}
use Rattle.claxon.specs.Gives.{ReadFailedIn}
use Rattle.claxon.specs.MetadataBlock.{info_view, or_zero}
use Rattle.claxon.specs.SampleRuns.{lent}
use Rattle.claxon.specs.Source.{Source}
use Rattle.claxon.specs.State.{State, bytes_in, RemainingIsKnown}
use Rattle.claxon.specs.StreamInfos.{StreamInfo}
use Rattle.claxon.specs.Streaminfo.{Streaminfo}
use Rattle.claxon.specs.RunningReader.{running_inner}
use Rattle.claxon.specs.RunningReaders.{RunningReader}
use Rattle.claxon_verify.specs.Notes.{NotesAre, NotesAreExact, WalkIsNoted}
use Rattle.claxon_heads.specs.StreamHead.{FoundHead}
use Rattle.claxon_heads.specs.BytesRead.{counted_bytes}
use Rattle.claxon_verify.specs.Verify.{Counted, report_view}
use Rattle.claxon_verify.specs.Walk.{IsCounted}
use Rattle.claxon_report.specs.declared.report.BlockSizes.{BlockSizes}
use Rattle.claxon_report.specs.declared.report.Notes.{Notes}
use Rattle.claxon_report.specs.declared.report.Report.{Report}
use Rattle.claxon_heads.specs.declared.bytes_read.BytesRead.{BytesRead}
use Rattle.claxon_verify.specs.declared.walk.Walk.{Walk}
use Rattle.claxon_verify.proofs.Verified.{HeadIsConsumed, counted_from, failed_since, head_code}

module _ {B : Type 0} {a m : State ℕ} (b : State ℕ) {head : FoundHead} {stream : Option StreamFormat} {start : ℕ} (h : HeadIsConsumed a m head stream start) (report : Report B) (known : RemainingIsKnown a) where
  -- counted, and these are the notes
  abbrev Noted : Option StreamFormat → Streaminfo → Notes → Type 0
  Noted z i notes = (counted : Counted (ReadFailedIn a b) z i (length (h.is known).0) m.remaining (report_view report).counts) × NotesAre counted notes

  noted_after_head : {A : Type 0} (info : Streaminfo) (walk : Walk A) → WalkIsNoted stream info start m b walk → IsCounted walk info.samples (report_view report).counts → Noted stream info walk.notes
  unfolding counted_from
  noted_after_head info walk noted is =
      let s = h.is known in
      let w = noted (h.known known) (report_view report).counts is in
      let n = w.1 in (
        (counted_from (failed_since b h) (length s.0) start s.3 m.remaining (report_view report).counts w.0).0,
        record {
          block_size = n.block_size;
          sizes = n.sizes;
          sizes_are = n.sizes_are;
          frame_size = n.frame_size;
          byte_left = n.byte_left;
          failed_read = n.failed_read;
          searched = n.searched;
        },
      )

  -- another change of the block size is no note of these
  renoted : (z : Option StreamFormat) (i : Streaminfo) (notes others : Notes) (changed : Option BlockSizes) → Noted z i notes → others ≡ record notes { changed_block_size = changed } → Noted z i others
  renoted z i notes others changed h same = (
    h.0,
    subst (NotesAre h.0) (sym same) (record {
      block_size = h.1.block_size;
      sizes = h.1.sizes;
      sizes_are = h.1.sizes_are;
      frame_size = h.1.frame_size;
      byte_left = h.1.byte_left;
      failed_read = h.1.failed_read;
      searched = h.1.searched;
    }),
  )

pub noted_stream : {A B : Type 0} {a m : State ℕ} (b : State ℕ) {head : FoundHead} {stream : Option StreamFormat} {start : ℕ} (h : HeadIsConsumed a m head stream start) (info : StreamInfo) (walk : Walk A) (report : Report B) → head.info ≡ info_view info → WalkIsNoted stream (info_view info) start m b walk → IsCounted walk (or_zero info.samples) (report_view report).counts
    → (changed : Option BlockSizes) → report.found.notes ≡ record walk.notes { changed_block_size = changed } → NotesAreExact a (Ok report) b
noted_stream {a = a} {m = m} b {head = head} {stream = stream} h info walk report of_info noted is changed same known =
    let s = h.is known in
    let notes = report.found.notes in
    let of_walk = renoted b h report known stream (info_view info) walk.notes notes changed (noted_after_head b h report known (info_view info) walk noted is) same in
    let of_head = subst (λ (i : Streaminfo). Noted b h report known stream i notes) (sym of_info) of_walk in
    let of_stream = subst (λ (z : Option StreamFormat). Noted b h report known z head.info notes) h.stream_is of_head in
    record {
      head = head;
      front = s.0;
      bytes = m.remaining;
      code = head_code a.remaining head s.0 m.remaining s.1 s.2;
      joined = s.2;
      counted = of_stream.0;
      notes_are = of_stream.1;
    }

-- through the reader that counts bytes
pub noted_through : {R A : Type 0} (source : R → Source ℕ) (input : MutBor R) (x y : RunningReader (MutBor R) BytesRead) → running_inner x ≡ input → (result : Result (Report A) Error) → NotesAreExact (counted_bytes (lent source) x) result (counted_bytes (lent source) y) → NotesAreExact (bytes_in source input.now) result (bytes_in source (running_inner y).now)
unfolding bytes_in
noted_through {R = R} source input x y at result h = subst (λ (z : MutBor R). NotesAreExact (bytes_in source z.now) result (bytes_in source (running_inner y).now)) at h
