-- A whole stream that is verified by its parts: its head, and what was counted after it.
use Rattle.std.specs.Borrow.{MutBor}
use Rattle.std.proofs.Common.{◌≡◌, ◌⊎◌, ◌<◌, ◌^◌, ℕ, List, ◌++◌, sym, ap, arith, subst, ◌∙◌, Some}
use Rattle.std.specs.Prelude.{Bool, false, IsTrue, Option, None, Result, Ok, ◌↔◌, ◌≢◌}
use Rattle.claxon.specs.Errors.{Error}
use Rattle.claxon.specs.Frame.{StreamFormat}
use Rattle.claxon.specs.MetadataBlock.{info_view, or_zero}
use Rattle.claxon.specs.SampleRuns.{lent}
use Rattle.claxon.specs.Source.{IsKnown, Source}
use Rattle.claxon.specs.State.{State, bytes_in, RemainingIsKnown}
use Rattle.claxon.specs.StreamInfos.{StreamInfo}
use Rattle.claxon.specs.Streaminfo.{Streaminfo}
use Rattle.claxon.specs.RunningReader.{running_inner, running_source}
use Rattle.claxon.specs.RunningReaders.{RunningReader}
use Rattle.claxon_blocks.specs.Md5Verdict.{HasHashedBytes, Md5IsJudged, Md5IsShown}
use Rattle.claxon_blocks.specs.declared.md5_verdict.Md5Verdict.TheVariants.{Wrong}
use Rattle.claxon_recovery.specs.Parts.{BeginsParts, SourceIsKnown, parts_position, parts_source, unread}
use Rattle.claxon_recovery.specs.Runs.{AreSearched}
use Rattle.claxon_recovery.specs.Window.{bytes_left}
use Rattle.claxon_recovery.specs.declared.parts.Parts.{Parts}
use Rattle.claxon_report.specs.Kept.{AreKept, Keeps}
use Rattle.claxon_verify.specs.VerifiedParts.{NotesOfParts, PartsCounted, PartsReportIsSound, WalksParts, part_frames}
use Rattle.claxon_report.specs.Places.{places_at}
use Rattle.claxon_heads.specs.StreamHead.{FoundHead}
use Rattle.claxon_verify.specs.RightStream.{bytes_of_frames}
use Rattle.claxon_heads.specs.BytesRead.{counted_bytes, update_position}
use Rattle.claxon_report.specs.Report.{NothingIsWrong}
use Rattle.claxon_verify.specs.Verify.{Counts, IsRight, Md5Is, report_view, sum_of}
use Rattle.claxon_verify.specs.Walk.{IsCounted}
use Rattle.claxon_report.specs.declared.report.BlockSizes.{BlockSizes}
use Rattle.claxon_report.specs.declared.report.Notes.{Notes}
use Rattle.claxon_report.specs.declared.place.Place.{Place}
use Rattle.claxon_report.specs.declared.report.Report.{Report}
use Rattle.claxon_heads.specs.declared.head.UnsupportedBlock.{UnsupportedBlock}
use Rattle.claxon_heads.specs.declared.bytes_read.BytesRead.{BytesRead}
use Rattle.claxon_verify.specs.declared.walk.Walk.{Walk}
use Rattle.claxon_verify.proofs.PartsNoted.{same_notes}
use Rattle.claxon_verify.proofs.Verified.{HeadIsConsumed, head_code, judged_md5, shown_md5}

-- what a report says of itself
pub right_report : {A : Type 0} (report : Report A) (unsupported : Option UnsupportedBlock) (info : StreamInfo) → report.unsupported ≡ unsupported → report.info ≡ info → (IsTrue report.is_right ↔ ((unsupported ≡ None) × NothingIsWrong report.found (or_zero info.samples) report.md5)) → IsRight (report_view report)
right_report report unsupported info given info_is right =
    let flat : IsTrue report.is_right ↔ ((report.unsupported ≡ None) × (report.found.places.first ≡ None) × ((or_zero info.samples ≡ 0) ⊎ (or_zero info.samples ≡ report.found.samples)) × (report.md5 ≢ Wrong)) =
    (λ t. let k = right.0 t in (given ∙ k.0, k.1.0, k.1.1, k.1.2), λ k. right.1 (sym given ∙ k.0, (k.1, k.2, k.3))) in
    subst (λ (i : StreamInfo). IsTrue report.is_right ↔ ((report.unsupported ≡ None) × (report.found.places.first ≡ None) × ((or_zero i.samples ≡ 0) ⊎ (or_zero i.samples ≡ report.found.samples)) × (report.md5 ≢ Wrong))) (sym info_is) flat

-- What remains has such parts, and they were counted.
abbrev pub CountsParts : {A : Type 0} → Bool → StreamInfo → ℕ → State ℕ → Walk A → Type 0
CountsParts computes_md5 info start m walk =
    RemainingIsKnown m
    → (counts : Counts) → IsCounted walk (or_zero info.samples) counts
    → (counted : PartsCounted info start m.remaining counts) × HasHashedBytes computes_md5 (bytes_of_frames (info_view info).bit_depth (part_frames counted.parts)) walk.md5 × ((walk.notes.has_unsearched ≡ false) ↔ AreSearched counted.parts) × NotesOfParts (info_view info) counted.parts counted.found walk.notes

unfoldable pub parts_verified : {a m : State ℕ} {head : FoundHead} {stream : Option StreamFormat} {start : ℕ} (h : HeadIsConsumed a m head stream start) (computes_md5 : Bool) {A B : Type 0} (info : StreamInfo) (walk : Walk A) (report : Report B) (of_info : head.info ≡ info_view info) (unsupported_is : report.unsupported ≡ head.unsupported) (small : start < 2 ^ 64) (walks : CountsParts computes_md5 info start m walk) (info_is : report.info ≡ info)
    (frames_are : report.found.frames ≡ walk.frames) (samples_are : report.found.samples ≡ walk.samples) (kept : (all : List Place) → Keeps all walk.places → AreKept (places_at walk.end (or_zero info.samples) (record { scan = walk.scan; places = all })) report.found.places.first report.found.places.more.items report.found.places.left_out) (sizes_are : report.found.notes.changed_block_size ≡ walk.sizes.changed)
    (md5_is : Md5IsJudged (info_view info) walk.md5 report.md5) (md5_shown : Md5IsShown walk.md5 report.computed_md5) (unsupported : Option UnsupportedBlock) (given : report.unsupported ≡ unsupported) (right : IsTrue report.is_right ↔ ((unsupported ≡ None) × NothingIsWrong report.found (or_zero info.samples) report.md5))
    (changed : Option BlockSizes) (same : report.found.notes ≡ record walk.notes { changed_block_size = changed }) → PartsReportIsSound computes_md5 a (Ok report)
parts_verified {a} {m} {head} {stream} {start} h computes_md5 info walk report of_info unsupported_is small walks info_is frames_are samples_are kept sizes_are md5_is md5_shown unsupported given right changed same known =
    let s = h.is known in
    let w = walks (h.known known) (report_view report).counts (record { frames_are = frames_are; samples_are = samples_are; kept = kept; sizes_are = sizes_are }) in
    let frames = part_frames w.0.parts in
    let verdict = judged_md5 computes_md5 (info_view info) frames walk.md5 report.md5 w.1 md5_is in
    let sum = shown_md5 computes_md5 (info_view info) frames walk.md5 report.computed_md5 w.1 md5_shown in
    let begins = s.3 in
    let searched : report.found.notes.has_unsearched ≡ walk.notes.has_unsearched = ap (λ (z : Notes). z.has_unsearched) same in
    record {
      head = head;
      front = s.0;
      bytes = m.remaining;
      code = head_code a.remaining head s.0 m.remaining s.1 s.2;
      joined = s.2;
      shown = info;
      shown_is = sym of_info;
      info = ap info_view info_is ∙ sym of_info;
      unsupported = unsupported_is;
      start = start;
      start_is = omega (arith, begins, small);
      counted = w.0;
      md5_is = subst (λ (i : Streaminfo). Md5Is computes_md5 i frames report.md5) (sym of_info) verdict;
      sum_is = subst (λ (i : Streaminfo). report.computed_md5 ≡ sum_of computes_md5 i frames) (sym of_info) sum;
      right = right_report report unsupported info given info_is right;
      searched = (λ e. w.2.0 (sym searched ∙ e), λ all. searched ∙ w.2.1 all);
      noted = subst (λ (i : Streaminfo). NotesOfParts i w.0.parts w.0.found report.found.notes) (sym of_info) (same_notes (info_view info) w.0.parts w.0.found walk.notes report.found.notes changed same w.3);
    }

-- from where the parts begin
pub counts_from : {R A : Type 0} (source : R → Source ℕ) (computes_md5 : Bool) (info : StreamInfo) (start : ℕ) (input : MutBor (RunningReader R BytesRead)) (p : Parts (MutBor (RunningReader R BytesRead))) (walk : Walk A) → BeginsParts input (Some info) start p → WalksParts (lent (running_source source update_position)) computes_md5 info p walk → CountsParts computes_md5 info start (counted_bytes source input.now) walk
unfolding bytes_in
counts_from source computes_md5 info start input p walk begins walks k counts counted =
    let s = lent (running_source source update_position) in
    let known : SourceIsKnown s p = subst (λ (z : MutBor _). IsKnown (s z).remaining) (sym begins.source_is) k in
    let left : unread s p ≡ (counted_bytes source input.now).remaining = ap (λ (z : List ℕ). z ++ bytes_left (s (parts_source p))) begins.none_pending ∙ ap (λ (z : MutBor _). bytes_left (s z)) begins.source_is in
    subst (λ (n : ℕ). Of n (counted_bytes source input.now).remaining) begins.position_is (subst (λ (z : List ℕ). Of (parts_position p) z) left (walks known counts counted))
  where
    Of : ℕ → List ℕ → Type 0
    Of n z = (parts : PartsCounted info n z counts) × HasHashedBytes computes_md5 (bytes_of_frames (info_view info).bit_depth (part_frames parts.parts)) walk.md5 × ((walk.notes.has_unsearched ≡ false) ↔ AreSearched parts.parts) × NotesOfParts (info_view info) parts.parts parts.found walk.notes

-- through the reader that counts bytes
pub parts_through : {R A : Type 0} (source : R → Source ℕ) (input : MutBor R) (x : RunningReader (MutBor R) BytesRead) → running_inner x ≡ input → (computes_md5 : Bool) (result : Result (Report A) Error) → PartsReportIsSound computes_md5 (counted_bytes (lent source) x) result → PartsReportIsSound computes_md5 (bytes_in source input.now) result
unfolding bytes_in
parts_through {R = R} source input x at computes_md5 result h = subst (λ (z : MutBor R). PartsReportIsSound computes_md5 (bytes_in source z.now) result) at h
