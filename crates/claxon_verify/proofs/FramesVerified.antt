-- Frames that are verified alone, as those of a stream whose head can't be read.
use Rattle.std.specs.Borrow.{MutBor}
use Rattle.std.proofs.Common.{Some, ◌≡◌, ◌≤◌, ◌^◌, ℕ, List, ◌++◌, length, inl, inr, sym, ap, subst, ◌∙◌}
use Rattle.std.specs.Prelude.{Bool, false, None, ◌↔◌}
use Rattle.claxon.specs.Errors.{Error}
use Rattle.claxon.specs.MetadataBlock.{info_view, or_zero}
use Rattle.claxon.specs.SampleRuns.{lent}
use Rattle.claxon.specs.Source.{Source}
use Rattle.claxon.specs.State.{State, bytes_in, RemainingIsKnown}
use Rattle.claxon.specs.StreamInfos.{StreamInfo}
use Rattle.claxon_blocks.specs.Md5Verdict.{HasHashedBytes, Md5IsJudged, Md5IsShown}
use Rattle.claxon_recovery.specs.Parts.{BeginsParts, parts_position, parts_source}
use Rattle.claxon_recovery.specs.Runs.{AreSearched}
use Rattle.claxon_recovery.specs.declared.parts.Parts.{Parts}
use Rattle.claxon_verify.specs.FramesAlone.{IsOfFrames, StopsFrames}
use Rattle.claxon_report.specs.Kept.{AreKept, Keeps}
use Rattle.claxon_verify.specs.PartFaults.{BeginsWithTooMany, StopsWalk}
use Rattle.claxon_report.specs.Places.{places_at}
use Rattle.claxon_verify.specs.RightStream.{bytes_of_frames}
use Rattle.claxon_verify.specs.Trailing.{AreBytes, EndsWithTail, TrailingIs, TrailingOf, WalksPartsToTail, scan_of}
use Rattle.claxon_verify.specs.VerifiedParts.{NotesOfParts, PartsCounted, WalksParts, part_frames}
use Rattle.claxon_verify.specs.Verify.{report_view}
use Rattle.claxon_report.specs.declared.report.Notes.{Notes}
use Rattle.claxon_report.specs.declared.place.Place.{Place}
use Rattle.claxon_report.specs.declared.report.Report.{Report}
use Rattle.claxon_verify.specs.declared.walk.Walk.{Walk}
use Rattle.claxon_verify.proofs.PartsNoted.{same_notes}
use Rattle.claxon_verify.proofs.PartsStopped.{known_unread, parts_failed, unread_is}
use Rattle.claxon_verify.proofs.PartsTrailed.{CountsToTail}
use Rattle.claxon_verify.proofs.PartsVerified.{CountsParts}
use Rattle.claxon_verify.proofs.Trailed.{told}
use Rattle.claxon_verify.proofs.Verified.{judged_md5, shown_md5}

-- ---- from where the parts begin

module _ {R : Type 0} (source : R → Source ℕ) {info : StreamInfo} {start : ℕ} {input : MutBor R} {p : Parts (MutBor R)} (begins : BeginsParts input (Some info) start p) (first : start ≡ 0) where
  pub frames_counted : {A : Type 0} (computes_md5 : Bool) (walk : Walk A) → WalksParts (lent source) computes_md5 info p walk → CountsParts computes_md5 info 0 (bytes_in source input.now) walk
  frames_counted computes_md5 walk walks k counts counted =
      subst (λ (n : ℕ). Of n (bytes_in source input.now).remaining) (begins.position_is ∙ first) (subst (λ (z : List ℕ). Of (parts_position p) z) (unread_is source begins) (walks (known_unread source begins k) counts counted))
    where
      Of : ℕ → List ℕ → Type 0
      Of n z = (parts : PartsCounted info n z counts) × HasHashedBytes computes_md5 (bytes_of_frames (info_view info).bit_depth (part_frames parts.parts)) walk.md5 × ((walk.notes.has_unsearched ≡ false) ↔ AreSearched parts.parts) × NotesOfParts (info_view info) parts.parts parts.found walk.notes

  pub frames_to_tail : {A : Type 0} (computes_md5 : Bool) (walk : Walk A) → WalksPartsToTail (lent source) computes_md5 info p walk → CountsToTail computes_md5 info 0 (bytes_in source input.now) walk
  frames_to_tail computes_md5 walk walks k counts counted =
      subst (λ (n : ℕ). Of n (bytes_in source input.now).remaining) (begins.position_is ∙ first) (subst (λ (z : List ℕ). Of (parts_position p) z) (unread_is source begins) (walks (known_unread source begins k) counts counted))
    where
      Of : ℕ → List ℕ → Type 0
      Of n z =
          (parts : PartsCounted info n z counts) × HasHashedBytes computes_md5 (bytes_of_frames (info_view info).bit_depth (part_frames parts.parts)) walk.md5 × ((walk.notes.has_unsearched ≡ false) ↔ AreSearched parts.parts)
          × NotesOfParts (info_view info) parts.parts parts.found walk.notes × (walk.scan ≡ scan_of (info_view info) parts.found) × (walk.end ≡ parts.end) × (AreBytes z → EndsWithTail ⊥ n z walk.scan.begun walk.after)

  -- ---- where they stop

  pub frames_stop : (q : Parts (MutBor R)) (e : Error) → StopsWalk (lent source) info p q e → (last : R) → (input.ghost_name ≡ (parts_source q).ghost_name → last ≡ (parts_source q).now) → StopsFrames info (bytes_in source input.now) (bytes_in source last) e
  frames_stop q e stops last is = elim stops [
    | inl (inl memory) ↦ inl memory
    | inl (inr (inl failed)) ↦ inr (inl (failed.is_io, λ known. (parts_failed source input p q begins.source_is e failed last is known).1))
    | inl (inr (inr many)) ↦ inr (inr (λ known. inr (subst (λ (z : List ℕ). 2 ^ 64 ≤ length z) (unread_is source begins) (many (known_unread source begins known)))))
    | inr many ↦ inr (inr (λ known. inl (many.0, subst (λ (n : ℕ). BeginsWithTooMany info n (bytes_in source input.now).remaining) (begins.position_is ∙ first) (subst (λ (z : List ℕ). BeginsWithTooMany info (parts_position p) z) (unread_is source begins) (many.1 (known_unread source begins known))))))
  ]

-- ---- a report

-- It says what was found in a walk.
pub record SaysFrames {A B : Type 0} (info : StreamInfo) (walk : Walk A) (report : Report B) : Type 0 where
  pub info_is : report.info ≡ info
  pub unsupported : report.unsupported ≡ None
  pub frames : report.found.frames ≡ walk.frames
  pub samples : report.found.samples ≡ walk.samples
  pub kept : (all : List Place) → Keeps all walk.places → AreKept (places_at walk.end (or_zero info.samples) (record { scan = walk.scan; places = all })) report.found.places.first report.found.places.more.items report.found.places.left_out
  pub sizes : report.found.notes.changed_block_size ≡ walk.sizes.changed
  pub md5_is : Md5IsJudged (info_view info) walk.md5 report.md5
  pub md5_shown : Md5IsShown walk.md5 report.computed_md5
  pub notes : report.found.notes ≡ record walk.notes { changed_block_size = walk.sizes.changed }

unfoldable pub frames_verified : {A B : Type 0} (m : State ℕ) {info : StreamInfo} {walk : Walk A} (report : Report B) → SaysFrames info walk report → (is_right : Bool) → is_right ≡ false → CountsParts false info 0 m walk → RemainingIsKnown m → IsOfFrames info m.remaining (report_view (record report { is_right = is_right })) report.found.notes
frames_verified m {info = info} {walk = walk} report says is_right wrong walks known =
    let w = walks known (report_view report).counts (record { frames_are = says.frames; samples_are = says.samples; kept = says.kept; sizes_are = says.sizes }) in
    let frames = part_frames w.0.parts in
    let searched : report.found.notes.has_unsearched ≡ walk.notes.has_unsearched = ap (λ (z : Notes). z.has_unsearched) says.notes in
    record {
      info_is = ap info_view says.info_is;
      unsupported = says.unsupported;
      counted = w.0;
      md5_is = judged_md5 false (info_view info) frames walk.md5 report.md5 w.1 says.md5_is;
      sum_is = shown_md5 false (info_view info) frames walk.md5 report.computed_md5 w.1 says.md5_shown;
      wrong = wrong;
      searched = (λ e. w.2.0 (sym searched ∙ e), λ all. searched ∙ w.2.1 all);
      noted = same_notes (info_view info) w.0.parts w.0.found walk.notes report.found.notes walk.sizes.changed says.notes w.3;
    }

pub frames_trailed : {A B : Type 0} (m : State ℕ) {info : StreamInfo} {walk : Walk A} (report : Report B) → SaysFrames info walk report → (is_right : Bool) → is_right ≡ false → CountsToTail false info 0 m walk → TrailingOf info.samples walk report.trailing → RemainingIsKnown m → AreBytes m.remaining
    → (is : IsOfFrames info m.remaining (report_view (record report { is_right = is_right })) report.found.notes) × TrailingIs ⊥ info.samples (scan_of (info_view info) is.counted.found) 0 m.remaining is.counted.end report.trailing
unfolding frames_verified
frames_trailed m {info = info} {walk = walk} report says is_right wrong walks trailing known bytes =
    let w = walks known (report_view report).counts (record { frames_are = says.frames; samples_are = says.samples; kept = says.kept; sizes_are = says.sizes }) in (
      frames_verified m report says is_right wrong (λ k counts counted. let p = walks k counts counted in (p.0, p.1, p.2, p.3)) known,
      told ⊥ info.samples walk (scan_of (info_view info) w.0.found) 0 m.remaining w.0.end w.4 w.5 (w.6 bytes) report.trailing trailing,
    )
