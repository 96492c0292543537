-- What stands after the last frame of a stream that is verified by its parts.
use Rattle.std.specs.Borrow.{MutBor}
use Rattle.std.proofs.Common.{◌≡◌, ℕ, ◌^◌, ◌<◌, Bool, true, false, List, [], ◌++◌, None, Some, refl, sym, ap, subst, ◌∙◌, arith}
use Rattle.std.specs.Prelude.{IsTrue, Option, Ok, Result, ◌↔◌, Some}
use Rattle.claxon.specs.DecodedFrame.{decoded_view}
use Rattle.claxon.specs.Errors.{Error}
use Rattle.claxon.specs.Frame.{StreamFormat}
use Rattle.claxon.specs.FrameReader.{stream_with}
use Rattle.claxon.specs.MetadataBlock.{info_view, or_zero}
use Rattle.claxon.specs.SampleRuns.{lent}
use Rattle.claxon.specs.Source.{IsKnown, Source}
use Rattle.claxon.specs.State.{State, bytes_in, RemainingIsKnown}
use Rattle.claxon.specs.StreamInfos.{StreamInfo}
use Rattle.claxon.specs.RunningReader.{running_inner, running_source}
use Rattle.claxon.specs.RunningReaders.{RunningReader}
use Rattle.claxon_blocks.specs.Md5Verdict.{HasHashedBytes, Md5IsJudged, Md5IsShown}
use Rattle.claxon_recovery.specs.Parts.{BeginsParts, IsPart, SourceIsKnown, after_part, parts_known, parts_position, parts_source, unread}
use Rattle.claxon_recovery.specs.Runs.{AreSearched}
use Rattle.claxon_recovery.specs.Window.{bytes_left}
use Rattle.claxon_recovery.specs.declared.part.Damage.{Damage}
use Rattle.claxon_recovery.specs.declared.part.Part.{Part}
use Rattle.claxon_recovery.specs.declared.part.Part.TheVariants.{Frame as IsFrame, Damage as IsDamage}
use Rattle.claxon_recovery.specs.declared.parts.Parts.{Parts}
use Rattle.claxon_report.specs.Kept.{AreKept, Keeps}
use Rattle.claxon_report.specs.Places.{Scans, begun_scan, places_at}
use Rattle.claxon_verify.specs.RightStream.{bytes_of_frames}
use Rattle.claxon_heads.specs.StreamHead.{FoundHead}
use Rattle.claxon_verify.specs.Trailing.{AreBytes, EndsWithTail, IsOfTail, KeepsIfBegun, KeepsPart, PartsTrailingIsTold, TailOf, TrailingIs, TrailingOf, WalksPartsToTail, scan_of}
use Rattle.claxon_heads.specs.BytesRead.{counted_bytes, update_position}
use Rattle.claxon_report.specs.Report.{NothingIsWrong}
use Rattle.claxon_verify.specs.Verify.{Counts, report_view}
use Rattle.claxon_verify.specs.VerifiedParts.{AddsDamage, AddsPart, NotesOfParts, PartsCounted, is_byte_left, part_frames}
use Rattle.claxon_verify.specs.Walk.{IsCounted}
use Rattle.claxon_heads.specs.declared.bytes_read.BytesRead.{BytesRead}
use Rattle.claxon_report.specs.declared.report.BlockSizes.{BlockSizes}
use Rattle.claxon_report.specs.declared.place.Place.{Place}
use Rattle.claxon_report.specs.declared.report.Report.{Report}
use Rattle.claxon_heads.specs.declared.head.UnsupportedBlock.{UnsupportedBlock}
use Rattle.claxon_report.specs.declared.scan.Scan.{Scan}
use Rattle.claxon_verify.specs.declared.walk.Walk.{Walk}
use Rattle.claxon_verify.proofs.PartsVerified.{parts_verified}
use Rattle.claxon_verify.proofs.PartsWalked.{PartsSoFar, walked, with_end}
use Rattle.claxon_verify.proofs.SyncCodes.{first_is_255, frame_syncs}
use Rattle.claxon_verify.proofs.Trailed.{GoesOn, bytes_after, bytes_before, ends_with_tail, frame_goes_on, left_bytes, no_tail, part_goes_on, same_goes_on, tail_more, told}
use Rattle.claxon_verify.proofs.Verified.{HeadIsConsumed}

-- ---- one part more

-- The bytes from the place on that goes on are kept.
pub record TailSoFar {R A : Type 0} (source : R → Source ℕ) (old new : Parts R) (walk : Walk A) : Type 0 where
  pub is : SourceIsKnown source old → AreBytes (unread source old) → TailOf (parts_position old) (unread source old) (parts_position new) (unread source new) walk.scan.begun walk.after

pub none_kept : {R A : Type 0} (source : R → Source ℕ) (old : Parts R) (walk : Walk A) (start : ℕ) → parts_position old ≡ start → start < 2 ^ 64 → walk.scan ≡ begun_scan → IsOfTail [] walk.after → TailSoFar source old old (with_end start walk)
none_kept source old walk start at small scan kept = record {
  is = λ k bytes. subst (λ (z : Scan). TailOf (parts_position old) (unread source old) (parts_position old) (unread source old) z.begun walk.after) (sym scan) (no_tail (parts_position old) (unread source old) (parts_position old) walk.after (omega (arith, at, small)) kept);
}

module _ {A : Type 0} (info : StreamInfo) {start : ℕ} {s : List ℕ} {at : ℕ} {m : List ℕ} (n : List ℕ) (walk more : Walk A) (bytes : AreBytes s) (h : TailOf start s at m walk.scan.begun walk.after) where
  -- bytes that follow
  follow : (t : List ℕ) → m ≡ t ++ n → AreBytes t
  follow t e = bytes_before t n (subst AreBytes e (left_bytes h bytes))

  -- where the place that goes on begins
  damage_goes_on : (damage : Damage) → damage.start ≡ at → AddsDamage (info_view info) damage walk more → (left : Bool) → is_byte_left damage ≡ left → GoesOn at walk.scan.begun more.scan.begun
  damage_goes_on damage is adds true e = subst (λ (z : Scan). GoesOn at walk.scan.begun z.begun) (sym (adds.passes e).0) (same_goes_on at walk.scan.begun)
  damage_goes_on damage is adds false e =
      subst (λ (k : ℕ). GoesOn k walk.scan.begun more.scan.begun) is
      (subst (λ (z : Scan). GoesOn damage.start walk.scan.begun z.begun) (sym (adds.why e).1) (part_goes_on (info_view info) walk.scan damage.start adds.what))

  tail_part : (part : Part) (next : ℕ) → IsPart (Some info) at m n (Some part) → next ≡ after_part at (Some part) → AddsPart (info_view info) part walk more → KeepsPart more.scan.begun part walk.after more.after → TailOf start s next n more.scan.begun more.after
  tail_part (IsFrame there) next is end adds keeps =
      let first = first_is_255 is.bytes (follow is.bytes is.joined) (frame_syncs (Some (stream_with info)) (decoded_view there.frame).block is.bytes is.frame.0.0) in
      let goes = subst (λ (k : ℕ). GoesOn k walk.scan.begun more.scan.begun) is.start_is
      (subst (λ (z : Scan). GoesOn there.start walk.scan.begun z.begun) (sym adds.0.scan_is) (frame_goes_on (info_view info) there.start adds.0.found walk.scan)) in
      tail_more h is.bytes n is.joined next (end ∙ is.end_is) more.after more.scan.begun goes (subst (λ (t : List ℕ). KeepsIfBegun more.scan.begun t walk.after more.after) (sym first.1) (keeps first.0))
  tail_part (IsDamage damage) next is end adds keeps =
      tail_more h is.bytes n is.joined next (end ∙ is.end_is) more.after more.scan.begun (damage_goes_on damage is.start_is adds.0 (is_byte_left damage) refl) (keeps is.bytes (follow is.bytes is.joined) is.first is.zeros)

pub tail_so_far : {R A : Type 0} {source : R → Source ℕ} {info : StreamInfo} {old mid new : Parts R} {walk more : Walk A} → TailSoFar source old mid walk → parts_known mid ≡ Some info → (SourceIsKnown source old → SourceIsKnown source mid) → (part : Part) → (SourceIsKnown source mid → IsPart (parts_known mid) (parts_position mid) (unread source mid) (unread source new) (Some part))
    → parts_position new ≡ after_part (parts_position mid) (Some part) → AddsPart (info_view info) part walk more → KeepsPart more.scan.begun part walk.after more.after → TailSoFar source old new more
tail_so_far {source = source} {info = info} {mid = mid} {new = new} {walk = walk} {more = more} h same known part is end adds keeps = record {
  is = λ k bytes. tail_part info (unread source new) walk more bytes (h.is k bytes) part (parts_position new) (subst (λ (z : Option StreamInfo). IsPart z (parts_position mid) (unread source mid) (unread source new) (Some part)) same (is (known k))) end adds keeps;
}

-- ---- the end

pub walked_to_tail : {R A : Type 0} {source : R → Source ℕ} {computes_md5 : Bool} {info : StreamInfo} {old mid : Parts R} {count : ℕ} {walk : Walk A} → parts_position old < 2 ^ 64 → PartsSoFar source computes_md5 info old mid count walk → (SourceIsKnown source mid → unread source mid ≡ []) → TailSoFar source old mid walk → WalksPartsToTail source computes_md5 info old walk
unfolding Rattle.claxon_verify.proofs.PartsWalked.walked
walked_to_tail {source = source} {info = info} {old = old} {mid = mid} {walk = walk} small h none tail k counts counted =
    let w = walked small h none k counts counted in (
      w.0,
      w.1,
      w.2,
      w.3,
      sym (ap (λ (z : Scans). z.scan) (h.is k).scan),
      refl,
      λ bytes. ends_with_tail (subst (λ (m : List ℕ). TailOf (parts_position old) (unread source old) (parts_position mid) m walk.scan.begun walk.after) (none (h.known k)) (tail.is k bytes)),
    )

-- ---- a whole stream

-- What remains has such parts, as of `CountsParts`, and the bytes from the place on are kept.
abbrev pub CountsToTail : {A : Type 0} → Bool → StreamInfo → ℕ → State ℕ → Walk A → Type 0
CountsToTail computes_md5 info start m walk =
    RemainingIsKnown m
    → (counts : Counts) → IsCounted walk (or_zero info.samples) counts
    → (counted : PartsCounted info start m.remaining counts) × HasHashedBytes computes_md5 (bytes_of_frames (info_view info).bit_depth (part_frames counted.parts)) walk.md5 × ((walk.notes.has_unsearched ≡ false) ↔ AreSearched counted.parts)
    × NotesOfParts (info_view info) counted.parts counted.found walk.notes × (walk.scan ≡ scan_of (info_view info) counted.found) × (walk.end ≡ counted.end) × (AreBytes m.remaining → EndsWithTail ⊥ start m.remaining walk.scan.begun walk.after)

-- from where the parts begin
pub tail_from : {R A : Type 0} (source : R → Source ℕ) (computes_md5 : Bool) (info : StreamInfo) (start : ℕ) (input : MutBor (RunningReader R BytesRead)) (p : Parts (MutBor (RunningReader R BytesRead))) (walk : Walk A) → BeginsParts input (Some info) start p → WalksPartsToTail (lent (running_source source update_position)) computes_md5 info p walk → CountsToTail computes_md5 info start (counted_bytes source input.now) walk
unfolding bytes_in
tail_from source computes_md5 info start input p walk begins walks k counts counted =
    let s = lent (running_source source update_position) in
    let known : SourceIsKnown s p = subst (λ (z : MutBor _). IsKnown (s z).remaining) (sym begins.source_is) k in
    let left : unread s p ≡ (counted_bytes source input.now).remaining = ap (λ (z : List ℕ). z ++ bytes_left (s (parts_source p))) begins.none_pending ∙ ap (λ (z : MutBor _). bytes_left (s z)) begins.source_is in
    subst (λ (n : ℕ). Of n (counted_bytes source input.now).remaining) begins.position_is (subst (λ (z : List ℕ). Of (parts_position p) z) left (walks known counts counted))
  where
    Of : ℕ → List ℕ → Type 0
    Of n z =
        (parts : PartsCounted info n z counts) × HasHashedBytes computes_md5 (bytes_of_frames (info_view info).bit_depth (part_frames parts.parts)) walk.md5 × ((walk.notes.has_unsearched ≡ false) ↔ AreSearched parts.parts)
        × NotesOfParts (info_view info) parts.parts parts.found walk.notes × (walk.scan ≡ scan_of (info_view info) parts.found) × (walk.end ≡ parts.end) × (AreBytes z → EndsWithTail ⊥ n z walk.scan.begun walk.after)

pub trailing_told : {a m : State ℕ} {head : FoundHead} {stream : Option StreamFormat} {start : ℕ} (h : HeadIsConsumed a m head stream start) (computes_md5 : Bool) {A B : Type 0} (info : StreamInfo) (walk : Walk A) (report : Report B) (of_info : head.info ≡ info_view info) (unsupported_is : report.unsupported ≡ head.unsupported) (small : start < 2 ^ 64) (walks : CountsToTail computes_md5 info start m walk) (info_is : report.info ≡ info)
    (frames_are : report.found.frames ≡ walk.frames) (samples_are : report.found.samples ≡ walk.samples) (kept : (all : List Place) → Keeps all walk.places → AreKept (places_at walk.end (or_zero info.samples) (record { scan = walk.scan; places = all })) report.found.places.first report.found.places.more.items report.found.places.left_out) (sizes_are : report.found.notes.changed_block_size ≡ walk.sizes.changed)
    (md5_is : Md5IsJudged (info_view info) walk.md5 report.md5) (md5_shown : Md5IsShown walk.md5 report.computed_md5) (unsupported : Option UnsupportedBlock) (given : report.unsupported ≡ unsupported) (right : IsTrue report.is_right ↔ ((unsupported ≡ None) × NothingIsWrong report.found (or_zero info.samples) report.md5)) (changed : Option BlockSizes) (same : report.found.notes ≡ record walk.notes { changed_block_size = changed }) (trailing : TrailingOf info.samples walk report.trailing)
    → PartsTrailingIsTold computes_md5 a (Ok report)
unfolding Rattle.claxon_verify.proofs.PartsVerified.parts_verified
trailing_told {a} {m} {head} {stream} {start} h computes_md5 info walk report of_info unsupported_is small walks info_is frames_are samples_are kept sizes_are md5_is md5_shown unsupported given right changed same trailing known bytes =
    let s = h.is known in
    let w = walks (h.known known) (report_view report).counts (record { frames_are = frames_are; samples_are = samples_are; kept = kept; sizes_are = sizes_are }) in
    let tail = w.6 (bytes_after s.0 m.remaining (subst AreBytes s.2 bytes)) in (
      parts_verified h computes_md5 info walk report of_info unsupported_is small (λ k counts counted. let p = walks k counts counted in (p.0, p.1, p.2, p.3)) info_is frames_are samples_are kept sizes_are md5_is md5_shown unsupported given right changed same known,
      subst (λ (i : StreamInfo). TrailingIs ⊥ i.samples (scan_of (info_view info) w.0.found) start m.remaining w.0.end report.trailing) (sym info_is) (told ⊥ info.samples walk (scan_of (info_view info) w.0.found) start m.remaining w.0.end w.4 w.5 tail report.trailing trailing),
    )

-- through the reader that counts bytes
pub told_through : {R A : Type 0} (source : R → Source ℕ) (input : MutBor R) (x : RunningReader (MutBor R) BytesRead) → running_inner x ≡ input → (computes_md5 : Bool) (result : Result (Report A) Error) → PartsTrailingIsTold computes_md5 (counted_bytes (lent source) x) result → PartsTrailingIsTold computes_md5 (bytes_in source input.now) result
unfolding bytes_in
told_through {R = R} source input x at computes_md5 result h = subst (λ (z : MutBor R). PartsTrailingIsTold computes_md5 (bytes_in source z.now) result) at h
