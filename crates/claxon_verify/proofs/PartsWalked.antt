-- Parts of a stream that are found, one after another.
use Rattle.std.proofs.Common.{◌≡◌, ◌<◌, ◌≤◌, ◌+◌, ◌%◌, ◌^◌, ℕ, true, false, List, [], ◌∷◌, ◌++◌, length, inl, inr, refl, sym, ap, arith, subst, ◌∙◌, length-append, append_assoc}
use Rattle.std.specs.Prelude.{Bool, Some, Ok, ◌↔◌, Option}
use Rattle.std.specs.List.{sum_by}
use Rattle.std.proofs.lemmas.List.{append-nil}
use Rattle.std.proofs.lemmas.List.Sums.{sum_by_push}
use Rattle.claxon.specs.DecodedFrame.{FrameValue, decoded_view}
use Rattle.claxon.specs.MetadataBlock.{info_view}
use Rattle.claxon.specs.Source.{Source}
use Rattle.claxon.specs.StreamInfos.{StreamInfo}
use Rattle.claxon.specs.Streaminfo.{Streaminfo}
use Rattle.claxon_blocks.specs.Md5Verdict.{HasHashedBytes}
use Rattle.claxon_recovery.specs.Parts.{IsPart, SourceIsKnown, after_part, parts_known, parts_position, unread}
use Rattle.claxon_recovery.specs.Runs.{AreAnswered, AreSearched, FindsFrame, IsSearched}
use Rattle.claxon_recovery.specs.declared.part.Damage.{Damage}
use Rattle.claxon_recovery.specs.declared.part.FrameThere.{FrameThere}
use Rattle.claxon_recovery.specs.declared.part.Part.{Part}
use Rattle.claxon_recovery.specs.declared.part.Part.TheVariants.{Frame as IsFrame, Damage as IsDamage}
use Rattle.claxon_recovery.specs.declared.parts.Parts.{Parts}
use Rattle.claxon_report.specs.Kept.{AreKept, Keeps}
use Rattle.claxon_verify.specs.Notes.{NotesFrame, NothingNoted}
use Rattle.claxon_verify.specs.PartFaults.{AnsweredUpTo}
use Rattle.claxon_verify.specs.VerifiedParts.{AddsDamage, AddsPart, FoundAre, FoundOf, NotesDamage, WalksParts, is_byte_left, part_frames}
use Rattle.claxon_report.specs.Places.{FoundPart, Scans, begun_scan, list_of, places_at, scan_frame, scan_more, scan_part, scan_parts}
use Rattle.claxon_verify.specs.RightStream.{bytes_of_frames, frame_duration}
use Rattle.claxon_verify.specs.Walk.{AddsFrame, AreSizesOf, BeginsWalk}
use Rattle.claxon_report.specs.declared.places.KeptPlaces.{KeptPlaces}
use Rattle.claxon_report.specs.declared.place.Place.{Place}
use Rattle.claxon_report.specs.declared.scan.Scan.{Scan}
use Rattle.claxon_verify.specs.declared.walk.Walk.{Walk}
use Rattle.claxon_verify.proofs.BlockSizes.{changed_of}
use Rattle.claxon_verify.proofs.PartsNoted.{PartsNoted, damage_so_far, frame_part_so_far, nothing_of_parts, parts_noted}
use Rattle.claxon_verify.proofs.Walking.{bytes_push, frame_few, hashed_push}

-- ---- parts, one after another

after_same : (part : Part) (a b : ℕ) → after_part a (Some part) ≡ after_part b (Some part)
after_same (IsFrame there) a b = refl
after_same (IsDamage damage) a b = refl

module _ (info : StreamInfo) where
  pub answered_push : (start : ℕ) (s : List ℕ) (parts : List Part) (at : ℕ) (m : List ℕ) → AnsweredUpTo info start s parts at m → (part : Part) (n : List ℕ) → IsPart (Some info) at m n (Some part) → FindsFrame (Some info) m n part → AnsweredUpTo info start s (parts ++ part ∷ []) (after_part at (Some part)) n
  answered_push start s [] at m h part n is finds = (
    n,
    subst (λ (k : ℕ). IsPart (Some info) k s n (Some part)) (sym h.1) (subst (λ (l : List ℕ). IsPart (Some info) at l n (Some part)) (sym h.0) is),
    subst (λ (l : List ℕ). FindsFrame (Some info) l n part) (sym h.0) finds,
    (refl, after_same part start at),
  )
  answered_push start s (first ∷ parts) at m h part n is finds = (h.0, h.1, h.2, answered_push (after_part start (Some first)) h.0 parts at m h.3 part n is finds)

  pub answered_all : (start : ℕ) (s : List ℕ) (parts : List Part) (at : ℕ) (m : List ℕ) → AnsweredUpTo info start s parts at m → m ≡ [] → AreAnswered (Some info) start s parts
  answered_all start s [] at m h none = h.0 ∙ none
  answered_all start s (part ∷ parts) at m h none = (h.0, h.1, h.2, answered_all (after_part start (Some part)) h.0 parts at m h.3 none)

  -- where they end
  pub ends_at : (start : ℕ) (s : List ℕ) (parts : List Part) (at : ℕ) (m : List ℕ) → start < 2 ^ 64 → AnsweredUpTo info start s parts at m → ((at + length m) % 2 ^ 64 ≡ (start + length s) % 2 ^ 64) × (at < 2 ^ 64)
  ends_at start s [] at m small h = let n = ap length h.0 in let e = h.1 in (omega (arith, n, e), omega (arith, e, small))
  ends_at start s (IsFrame there ∷ parts) at m small (rest, is, finds, h) =
      let n : length s ≡ length is.bytes + length rest = ap length is.joined ∙ length-append is.bytes rest in
      let e = is.end_is in
      let k = ends_at there.end rest parts at m (omega (arith, e)) h in
      let after = k.0 in
      (omega (arith, n, e, after), k.1)
  ends_at start s (IsDamage damage ∷ parts) at m small (rest, is, finds, h) =
      let n : length s ≡ length is.bytes + length rest = ap length is.joined ∙ length-append is.bytes rest in
      let e = is.end_is in
      let k = ends_at damage.end rest parts at m (omega (arith, e)) h in
      let after = k.0 in
      (omega (arith, n, e, after), k.1)

-- ---- their frames, and what is found of them

pub frames_append : (parts others : List Part) → part_frames (parts ++ others) ≡ part_frames parts ++ part_frames others
frames_append [] others = refl
frames_append (IsFrame there ∷ parts) others = ap (λ (fs : List FrameValue). decoded_view there.frame ∷ fs) (frames_append parts others)
frames_append (IsDamage damage ∷ parts) others = frames_append parts others

searched_push : (parts : List Part) (part : Part) → AreSearched (parts ++ part ∷ []) ↔ (AreSearched parts × IsSearched part)
searched_push [] part = (λ h. (tt, h.0), λ h. (h.1, tt))
searched_push (first ∷ parts) part = let k = searched_push parts part in (λ h. let p = k.0 h.1 in ((h.0, p.0), p.1), λ h. (h.0.0, k.1 (h.0.1, h.1)))

found_push : (info : Streaminfo) (parts : List Part) (found : List FoundPart) → FoundAre info parts found → (part : Part) (here : List FoundPart) → FoundOf info part here → FoundAre info (parts ++ part ∷ []) (found ++ here)
found_push info [] found h part here of = (here, [], of, refl, ap (λ (z : List FoundPart). z ++ here) h ∙ sym (append-nil here))
found_push info (p ∷ parts) found h part here of = (h.0, h.1 ++ here, h.2, found_push info parts h.1 h.3 part here of, ap (λ (z : List FoundPart). z ++ here) h.4 ∙ append_assoc h.0 h.1 here)

scan_append : (info : Streaminfo) (scans : Scans) (found more : List FoundPart) → scan_parts info scans (found ++ more) ≡ scan_parts info (scan_parts info scans found) more
scan_append info scans [] more = refl
scan_append info scans (part ∷ found) more = scan_append info (scan_more info scans part) found more

-- ---- the walk

-- So far these parts were passed, and these were counted.
pub record FoundSoFar {A : Type 0} (computes_md5 : Bool) (info : StreamInfo) (start : ℕ) (s : List ℕ) (at : ℕ) (m : List ℕ) (count : ℕ) (walk : Walk A) : Type 0 where
  pub parts : List Part
  pub are : AnsweredUpTo info start s parts at m
  pub count_is : length parts ≡ count
  pub frames : walk.frames ≡ length (part_frames parts)
  pub samples : walk.samples ≡ sum_by frame_duration (part_frames parts)
  pub sizes : AreSizesOf (part_frames parts) walk.sizes
  pub hashed : HasHashedBytes computes_md5 (bytes_of_frames (info_view info).bit_depth (part_frames parts)) walk.md5
  pub found : List FoundPart
  pub found_are : FoundAre (info_view info) parts found
  pub places : List Place
  pub scan : scan_parts (info_view info) (record { scan = begun_scan; places = [] }) found ≡ record { scan = walk.scan; places = places }
  pub keeps : Keeps places walk.places
  pub searched : (walk.notes.has_unsearched ≡ false) ↔ AreSearched parts
  pub noted : PartsNoted (info_view info) parts walk

pub record PartsSoFar {R A : Type 0} (source : R → Source ℕ) (computes_md5 : Bool) (info : StreamInfo) (old new : Parts R) (count : ℕ) (walk : Walk A) : Type 0 where
  pub info_is : parts_known new ≡ Some info
  pub end_is : walk.end ≡ parts_position new
  pub known : SourceIsKnown source old → SourceIsKnown source new
  pub is : SourceIsKnown source old → FoundSoFar computes_md5 info (parts_position old) (unread source old) (parts_position new) (unread source new) count walk

-- The same as at the start, but for the end.
abbrev pub with_end : {A : Type 0} → ℕ → Walk A → Walk A
with_end end walk = record {
  frames = walk.frames;
  samples = walk.samples;
  scan = walk.scan;
  places = walk.places;
  notes = walk.notes;
  sizes = walk.sizes;
  is_short = walk.is_short;
  md5 = walk.md5;
  end = end;
  after = walk.after;
}

pub none_found : {R A : Type 0} (source : R → Source ℕ) (computes_md5 : Bool) (info : StreamInfo) (start more : ℕ) (old : Parts R) (walk : Walk A) → parts_known old ≡ Some info → parts_position old ≡ start → BeginsWalk computes_md5 more walk → NothingNoted walk → PartsSoFar source computes_md5 info old old 0 (with_end start walk)
unfolding Rattle.claxon_md5.specs.WholeBytes.whole_bytes_of_samples
none_found source computes_md5 info start more old walk same at begins none = record {
  info_is = same;
  end_is = sym at;
  known = λ k. k;
  is = λ k. record {
    parts = [];
    are = (refl, refl);
    count_is = refl;
    frames = begins.frames_are;
    samples = begins.samples_are;
    sizes = begins.no_size;
    hashed = begins.hasher;
    found = [];
    found_are = refl;
    places = [];
    scan = ap (λ (z : Scan). record { scan = z; places = [] }) (sym begins.scan_is);
    keeps = begins.keeps;
    searched = (λ e. tt, λ h. none.searched);
    noted = nothing_of_parts (info_view info) (with_end start walk) (record { block_size = none.block_size; short = none.short; frame_size = none.frame_size; byte_left = none.byte_left; failed_read = none.failed_read; searched = none.searched });
  };
}

-- What is found of damage, after what was found before.
record DamageFound {A : Type 0} (info : Streaminfo) (damage : Damage) (found : List FoundPart) (more : Walk A) : Type 0 where
  here : List FoundPart
  of : FoundOf info (IsDamage damage) here
  all : List Place
  scan : scan_parts info (record { scan = begun_scan; places = [] }) (found ++ here) ≡ record { scan = more.scan; places = all }
  keeps : Keeps all more.places

damage_found : {A : Type 0} (info : Streaminfo) (damage : Damage) (found : List FoundPart) (places : List Place) (walk more : Walk A) → AddsDamage info damage walk more → scan_parts info (record { scan = begun_scan; places = [] }) found ≡ record { scan = walk.scan; places = places } → Keeps places walk.places → (left : Bool) → is_byte_left damage ≡ left
    → DamageFound info damage found more
damage_found info damage found places walk more adds scan keeps true e =
    let k = adds.passes e in
    record {
      here = [];
      of = inl (e, refl);
      all = places;
      scan = ap (scan_parts info (record { scan = begun_scan; places = [] })) (append-nil found) ∙ scan ∙ ap (λ (z : Scan). record { scan = z; places = places }) (sym k.0);
      keeps = subst (λ (z : KeptPlaces _). Keeps places z) (sym k.1) keeps;
    }
damage_found info damage found places walk more adds scan keeps false e =
    let k = adds.why e in
    let part : FoundPart = record { start = damage.start; what = adds.what } in
    let scanned = scan_part info walk.scan damage.start adds.what in
    record {
      here = part ∷ [];
      of = inr (e, (adds.what, k.0, refl));
      all = places ++ list_of scanned.place;
      scan = scan_append info (record { scan = begun_scan; places = [] }) found (part ∷ []) ∙ ap (λ (z : Scans). scan_more info z part) scan ∙ ap (λ (z : Scan). record { scan = z; places = places ++ list_of scanned.place }) (sym k.1);
      keeps = k.2.keeps places keeps;
    }

-- one part more
pub answered : {R A : Type 0} {source : R → Source ℕ} {computes_md5 : Bool} {info : StreamInfo} {old mid : Parts R} {count : ℕ} {walk : Walk A} (h : PartsSoFar source computes_md5 info old mid count walk) (new : Parts R) (part : Part) → (SourceIsKnown source mid → IsPart (parts_known mid) (parts_position mid) (unread source mid) (unread source new) (Some part)) → (SourceIsKnown source mid → FindsFrame (parts_known mid) (unread source mid) (unread source new) part)
    → parts_position new ≡ after_part (parts_position mid) (Some part) → (k : SourceIsKnown source old) → AnsweredUpTo info (parts_position old) (unread source old) ((h.is k).parts ++ part ∷ []) (parts_position new) (unread source new)
answered {source = source} {info = info} {old = old} {mid = mid} h new part is finds at k =
    let p = h.is k in
    let there = subst (λ (z : Option StreamInfo). IsPart z (parts_position mid) (unread source mid) (unread source new) (Some part)) h.info_is (is (h.known k)) in
    let first = subst (λ (z : Option StreamInfo). FindsFrame z (unread source mid) (unread source new) part) h.info_is (finds (h.known k)) in
    subst (λ (z : ℕ). AnsweredUpTo info (parts_position old) (unread source old) (p.parts ++ part ∷ []) z (unread source new)) (sym at)
    (answered_push info (parts_position old) (unread source old) p.parts (parts_position mid) (unread source mid) p.are part (unread source new) there first)

module _ {R A : Type 0} {source : R → Source ℕ} {computes_md5 : Bool} {info : StreamInfo} {old mid new : Parts R} {count : ℕ} {walk more : Walk A} (h : PartsSoFar source computes_md5 info old mid count walk) (same : parts_known new ≡ parts_known mid) (known : SourceIsKnown source mid → SourceIsKnown source new) where
  -- a frame more
  frame_more : (there : FrameThere) → (SourceIsKnown source mid → IsPart (parts_known mid) (parts_position mid) (unread source mid) (unread source new) (Some (IsFrame there))) → (SourceIsKnown source mid → FindsFrame (parts_known mid) (unread source mid) (unread source new) (IsFrame there)) → parts_position new ≡ there.end
      → AddsFrame (info_view info) there.frame there.start walk more → more.end ≡ there.end → NotesFrame (info_view info) there.frame there.start there.end walk more → PartsSoFar source computes_md5 info old new (count + 1) more
  frame_more there is finds at adds end notes =
      let part : Part = IsFrame there in
      let value = decoded_view there.frame in
      let scanned = scan_frame (info_view info) there.start adds.found walk.scan in
      let here : List FoundPart = record { start = there.start; what = Ok adds.found } ∷ [] in
      record {
        info_is = same ∙ h.info_is;
        end_is = end ∙ sym at;
        known = λ k. known (h.known k);
        is = λ k.
            let p = h.is k in
            let frames_are : part_frames (p.parts ++ part ∷ []) ≡ part_frames p.parts ++ value ∷ [] = frames_append p.parts (part ∷ []) in
            record {
              parts = p.parts ++ part ∷ [];
              are = answered h new part is finds at k;
              count_is = length-append p.parts (part ∷ []) ∙ ap (λ (z : ℕ). z + 1) p.count_is;
              frames = adds.frames_are ∙ ap (λ (z : ℕ). z + 1) p.frames ∙ sym (ap length frames_are ∙ length-append (part_frames p.parts) (value ∷ []));
              samples = adds.samples_are ∙ ap (λ (z : ℕ). z + frame_duration value) p.samples ∙ sym (ap (sum_by frame_duration) frames_are ∙ sum_by_push frame_duration (part_frames p.parts) value);
              sizes = subst (λ (fs : List FrameValue). AreSizesOf fs more.sizes) (sym frames_are) (adds.sizes (part_frames p.parts) value refl refl p.sizes);
              hashed = subst (λ (bytes : List ℕ). HasHashedBytes computes_md5 bytes more.md5) (sym (ap (bytes_of_frames (info_view info).bit_depth) frames_are ∙ bytes_push (info_view info).bit_depth (part_frames p.parts) value))
                  (hashed_push computes_md5 (info_view info).bit_depth there.frame.block (bytes_of_frames (info_view info).bit_depth (part_frames p.parts)) walk.md5 more.md5 p.hashed adds.hashes);
              found = p.found ++ here;
              found_are = found_push (info_view info) p.parts p.found p.found_are part here (inr (refl, (Ok adds.found, adds.is_found, refl)));
              places = p.places ++ list_of scanned.place;
              scan = scan_append (info_view info) (record { scan = begun_scan; places = [] }) p.found here ∙ ap (λ (z : Scans). scan_more (info_view info) z (record { start = there.start; what = Ok adds.found })) p.scan ∙ ap (λ (z : Scan). record { scan = z; places = p.places ++ list_of scanned.place }) (sym adds.scan_is);
              keeps = adds.places.keeps p.places p.keeps;
              searched = let q = searched_push p.parts part in (λ e. q.1 (p.searched.0 (sym notes.sizes.searched ∙ e), tt), λ all. notes.sizes.searched ∙ p.searched.1 (q.0 all).0);
              noted = frame_part_so_far p.noted there notes frames_are;
            };
      }

  -- damage more
  damage_more : (damage : Damage) → (SourceIsKnown source mid → IsPart (parts_known mid) (parts_position mid) (unread source mid) (unread source new) (Some (IsDamage damage))) → (SourceIsKnown source mid → FindsFrame (parts_known mid) (unread source mid) (unread source new) (IsDamage damage)) → parts_position new ≡ damage.end
      → AddsDamage (info_view info) damage walk more → NotesDamage damage walk more → PartsSoFar source computes_md5 info old new (count + 1) more
  damage_more damage is finds at adds notes =
      let part : Part = IsDamage damage in
      record {
        info_is = same ∙ h.info_is;
        end_is = adds.end_is ∙ sym at;
        known = λ k. known (h.known k);
        is = λ k.
            let p = h.is k in
            let frames_are : part_frames (p.parts ++ part ∷ []) ≡ part_frames p.parts = frames_append p.parts (part ∷ []) ∙ append-nil (part_frames p.parts) in
            let d = damage_found (info_view info) damage p.found p.places walk more adds p.scan p.keeps (is_byte_left damage) refl in
            record {
              parts = p.parts ++ part ∷ [];
              are = answered h new part is finds at k;
              count_is = length-append p.parts (part ∷ []) ∙ ap (λ (z : ℕ). z + 1) p.count_is;
              frames = adds.frames_are ∙ p.frames ∙ sym (ap length frames_are);
              samples = adds.samples_are ∙ p.samples ∙ sym (ap (sum_by frame_duration) frames_are);
              sizes = subst (λ (fs : List FrameValue). AreSizesOf fs more.sizes) (sym frames_are) (subst (AreSizesOf (part_frames p.parts)) (sym adds.sizes_are) p.sizes);
              hashed = subst (λ (fs : List FrameValue). HasHashedBytes computes_md5 (bytes_of_frames (info_view info).bit_depth fs) more.md5) (sym frames_are) (subst (HasHashedBytes computes_md5 (bytes_of_frames (info_view info).bit_depth (part_frames p.parts))) (sym adds.md5_is) p.hashed);
              found = p.found ++ d.here;
              found_are = found_push (info_view info) p.parts p.found p.found_are part d.here d.of;
              places = d.all;
              scan = d.scan;
              keeps = d.keeps;
              searched = let q = searched_push p.parts part in (λ e. let k = adds.searched.0 e in q.1 (p.searched.0 k.0, k.1), λ all. let k = q.0 all in adds.searched.1 (p.searched.1 k.0, k.1));
              noted = damage_so_far p.noted damage (λ e. (adds.passes e).0) notes frames_are;
            };
      }

  -- a part more
  pub part_more : (part : Part) → (SourceIsKnown source mid → IsPart (parts_known mid) (parts_position mid) (unread source mid) (unread source new) (Some part)) → (SourceIsKnown source mid → FindsFrame (parts_known mid) (unread source mid) (unread source new) part) → parts_position new ≡ after_part (parts_position mid) (Some part)
      → AddsPart (info_view info) part walk more → PartsSoFar source computes_md5 info old new (count + 1) more
  part_more (IsFrame there) is finds at adds = frame_more there is finds at adds.0 adds.1 adds.2
  part_more (IsDamage damage) is finds at adds = damage_more damage is finds at adds.0 adds.1

-- ---- the end

unfoldable pub walked : {R A : Type 0} {source : R → Source ℕ} {computes_md5 : Bool} {info : StreamInfo} {old mid : Parts R} {count : ℕ} {walk : Walk A} → parts_position old < 2 ^ 64 → PartsSoFar source computes_md5 info old mid count walk → (SourceIsKnown source mid → unread source mid ≡ []) → WalksParts source computes_md5 info old walk
walked {source = source} {info = info} {old = old} {mid = mid} {walk = walk} small h none k counts counted =
    let p = h.is k in
    let left = none (h.known k) in
    let e = ends_at info (parts_position old) (unread source old) p.parts (parts_position mid) (unread source mid) small p.are in
    let same = e.0 in
    let fits = e.1 in
    let no_more : length (unread source mid) ≡ 0 = ap length left in (
      record {
        parts = p.parts;
        are = answered_all info (parts_position old) (unread source old) p.parts (parts_position mid) (unread source mid) p.are left;
        found = p.found;
        found_are = p.found_are;
        frames = counted.frames_are ∙ p.frames;
        samples = counted.samples_are ∙ p.samples;
        sizes = counted.sizes_are ∙ changed_of (part_frames p.parts) walk.sizes p.sizes;
        end = walk.end;
        end_is = h.end_is ∙ omega (arith, same, fits, no_more);
        kept = subst (λ (z : Scans). AreKept (places_at walk.end (info_view info).samples z) counts.first counts.more counts.left_out) (sym p.scan) (counted.kept p.places p.keeps);
      },
      p.hashed,
      p.searched,
      parts_noted (info_view info) p.parts p.found walk p.noted (ap (λ (z : Scans). z.scan.begun) p.scan),
    )

-- ---- so many are kept

damage_few : {A : Type 0} {info : Streaminfo} {damage : Damage} {more : ℕ} {old new : Walk A} → AddsDamage info damage old new → old.places.more ≡ more → length old.places.places.more.items ≤ more → (new.places.more ≡ more) × (length new.places.places.more.items ≤ more)
damage_few {A = A} {info = info} {damage = damage} {more = more} {old = old} {new = new} adds same few = by (is_byte_left damage) refl
  where
    by : (left : Bool) → is_byte_left damage ≡ left → (new.places.more ≡ more) × (length new.places.places.more.items ≤ more)
    by true e = subst (λ (z : KeptPlaces A). (z.more ≡ more) × (length z.places.more.items ≤ more)) (sym (adds.passes e).1) (same, few)
    by false e =
        let k = (adds.why e).2 in
        (k.more ∙ same, subst (λ (n : ℕ). length new.places.places.more.items ≤ n) same (k.few (subst (λ (n : ℕ). length old.places.places.more.items ≤ n) (sym same) few)))

pub part_few : {A : Type 0} (info : Streaminfo) {more : ℕ} (old new : Walk A) (part : Part) → AddsPart info part old new → old.places.more ≡ more → length old.places.places.more.items ≤ more → (new.places.more ≡ more) × (length new.places.places.more.items ≤ more)
part_few info old new (IsFrame there) adds same few = (adds.0.places.more ∙ same, frame_few adds.0 same few)
part_few info old new (IsDamage damage) adds same few = damage_few adds.0 same few
