-- A whole stream: its head, and what was counted after it.
use Rattle.std.specs.Borrow.{MutBor}
use Rattle.std.proofs.Common.{◌≡◌, ◌⊎◌, ◌<◌, ◌≤◌, ◌+◌, ◌%◌, ◌^◌, ℕ, true, false, List, [], ◌∷◌, ◌++◌, length, inl, inr, refl, sym, ap, arith, subst, ◌∙◌, append_assoc, length-append}
use Rattle.std.specs.Prelude.{Bool, bytes_eq, map, IsTrue, IsOkAnd, Option, None, Some, Result, Ok, Err, ◌↔◌, ◌≢◌}
use Rattle.std.specs.Bool.{Decides}
use Rattle.std.specs.List.{sum_by}
use Rattle.std.proofs.lemmas.List.{append_cancel_right}
use Rattle.std.proofs.lemmas.List.Sums.{sum_by-cons}
use Rattle.std.proofs.lemmas.Bool.{false≢true}
use Rattle.std.proofs.lemmas.Slice.Eq.{bytes_eq-Decides}
use Rattle.claxon.specs.DecodedFrame.{FrameValue}
use Rattle.claxon.specs.Error.{IsFault, IsIo}
use Rattle.claxon.specs.Errors.{Error}
use Rattle.claxon.specs.Errors.TheVariants.{FormatError, IoError, OutOfMemory, Unsupported}
use Rattle.claxon.specs.Fault.{Fault}
use Rattle.claxon.specs.Frame.{IsBitDepth, StreamFormat, known_bit_depth}
use Rattle.claxon.specs.FrameReader.{HeaderOfLargerBlock, stream_with}
use Rattle.claxon.specs.Gives.{Consumes, GivesOrOutOfMemory, IsFaultOf, ReadFailedIn, ReadFailedOrRemaining}
use Rattle.claxon.specs.MetadataBlock.{HasBounds, info_view, or_zero}
use Rattle.claxon.specs.Prefix.{BeginsWith}
use Rattle.claxon.specs.Promises.{HasNeither}
use Rattle.claxon.specs.read.Reading.{Reading, Done, Faulty, Incomplete}
use Rattle.claxon.specs.SampleRuns.{lent}
use Rattle.claxon.specs.Source.{Source}
use Rattle.claxon.specs.State.{State, bytes_in, RemainingIsKnown}
use Rattle.claxon.specs.StreamInfos.{StreamInfo}
use Rattle.claxon.specs.Streaminfo.{Streaminfo}
use Rattle.claxon.specs.Streams.{stream_of}
use Rattle.claxon.proofs.OutOfMemory.{not_out_of_memory, same_out_of_memory}
use Rattle.claxon.specs.RunningReader.{running_inner}
use Rattle.claxon.specs.RunningReaders.{RunningReader}
use Rattle.claxon_md5.specs.declared.Md5.{Md5}
use Rattle.claxon_report.specs.Kept.{AreKept, Keeps}
use Rattle.claxon_report.specs.Places.{FoundPart, list_of, places_at, unnamed}
use Rattle.claxon_verify.specs.RightStream.{AreInOrder, AreNextAfter, DecodedFrames, FitsBitDepth, HasMd5, IsRightStream, bytes_of_frames, frame_duration}
use Rattle.claxon_heads.specs.BytesRead.{counted_bytes}
use Rattle.claxon_report.specs.Report.{NothingIsWrong}
use Rattle.claxon_verify.specs.Verify.{AreTooMany, CanBeCounted, Counted, Counts, EndsAt, FrameOrFault, FramesAndFaults, HasFramesAndFaults, IsRight, IsTooMany, IsVerified, LastFound, Md5Is, PartsFound, PlacesAreCounted, ReportValue, RightIsComplete, RightIsSound, SamePlaces, SameReport, StopsCounting, VerifyIsComplete, VerifyIsSound, VerifyPromises, all_places, changed_size, fault_count_of, frame_count_of, frames_of, report_view, sample_count_of, sum_of}
use Rattle.claxon_verify.specs.Walk.{IsCounted, WalksToEnd}
use Rattle.claxon_blocks.specs.Md5Verdict.{HasHashedBytes, IsMd5Verdict, Md5IsJudged, Md5IsShown, no_md5}
use Rattle.claxon_blocks.specs.declared.md5_verdict.Md5Verdict.{Md5Verdict}
use Rattle.claxon_blocks.specs.declared.md5_verdict.Md5Verdict.TheVariants.{Missing, NotComputed, Right, Wrong}
use Rattle.claxon_report.specs.declared.due.FoundFrame.{FoundFrame}
use Rattle.claxon_report.specs.declared.place.Place.{Place}
use Rattle.claxon_report.specs.declared.report.Report.{Report}
use Rattle.claxon_heads.specs.declared.bytes_read.BytesRead.{BytesRead}
use Rattle.claxon_verify.specs.declared.walk.Walk.{Walk}
use Rattle.claxon_heads.specs.StreamHead.{FoundHead, FoundHeadCode, FoundHeadFault, HeadNeedsMemory, OutOfMemoryOnlyWhere, found_head_at, found_head_view}
use Rattle.claxon_heads.specs.declared.head.UnsupportedBlock.{UnsupportedBlock}
use Rattle.claxon_input.proofs.Promises.{fault_is}
use Rattle.claxon_heads.proofs.FoundHeads.{Reads-found_head}
use Rattle.claxon_verify.proofs.FramesAndFaults.{found_from, frames_of_all, not_cut, not_too_many, parts_front, same_answer, same_counts}
use Rattle.claxon_verify.proofs.RightPlaces.{none_is_right, right_has_none}
use Rattle.claxon_heads.proofs.SupportedHeads.{head_found, head_supported}

-- ---- heads and their faults, and what is read

head_read : (s : List ℕ) (head : FoundHead) (front bytes : List ℕ) → FoundHeadCode head front → s ≡ front ++ bytes → found_head_at s ≡ Done head bytes
head_read s head front bytes code joined = ap found_head_at joined ∙ Reads-found_head.again head front bytes code

pub head_code : (s : List ℕ) (head : FoundHead) (front bytes : List ℕ) → found_head_at s ≡ Done head bytes → s ≡ front ++ bytes → FoundHeadCode head front
head_code s head front bytes is joined = let k = Reads-found_head.takes s head bytes is in subst (λ (t : List ℕ). FoundHeadCode head t) (append_cancel_right k.0 front bytes (sym k.2 ∙ joined)) k.1

fault_read : (s : List ℕ) (f : Fault) (at : BeginsWith (FoundHeadFault f) s) → found_head_at s ≡ Faulty f at.1
fault_read s f at = ap found_head_at at.3 ∙ Reads-found_head.bad_again f at.0 at.1 at.2

pub fault_begins : (s : List ℕ) (f : Fault) (rest : List ℕ) → found_head_at s ≡ Faulty f rest → BeginsWith (FoundHeadFault f) s
fault_begins s f rest is = let k = Reads-found_head.bad s f rest is in (k.0, rest, k.1, k.2)

pub has_neither : (s : List ℕ) → found_head_at s ≡ Incomplete → HasNeither FoundHeadCode FoundHeadFault s
has_neither s is = record {
  no_code = λ head front bytes code joined. let p : Incomplete ≡ Done head bytes = sym is ∙ head_read s head front bytes code joined in cc;
  no_fault = λ f front rest bad joined. let p : Incomplete ≡ Faulty f rest = sym is ∙ fault_read s f (front, rest, bad, joined) in cc;
}

-- ---- what was counted, as said of the whole stream

-- the byte at which the counting began
pub restart : (p q n byte : ℕ) → q % 2 ^ 64 ≡ p % 2 ^ 64 → byte ≡ (q + n) % 2 ^ 64 → byte ≡ (p + n) % 2 ^ 64
restart p q n byte e f = omega arith

pub ends_weaker : (failed more : Type 0) (stream : Option StreamFormat) (w : failed → more) (is_cut : Bool) (rest : List ℕ) → EndsAt failed stream is_cut rest → EndsAt more stream is_cut rest
ends_weaker failed more stream w false rest h = h
ends_weaker failed more stream w true rest h = elim h [ inl n ↦ inl n | inr f ↦ inr (w f) ]

pub last_from : (is_cut : Bool) (p q n : ℕ) (rest : List ℕ) (found : List FoundPart) → q % 2 ^ 64 ≡ p % 2 ^ 64 → LastFound is_cut (q + n) rest found → LastFound is_cut (p + n) rest found
last_from false p q n rest found at h = h
last_from true p q n rest found at h = (h.0, h.1, h.2, restart p q n h.0.start at h.3, h.4, h.5, h.6)

-- the same frames and faults, counted from an equal byte
unfoldable pub counted_from : {failed more : Type 0} {stream : Option StreamFormat} {info : Streaminfo} (w : failed → more) (p q : ℕ) → q % 2 ^ 64 ≡ p % 2 ^ 64 → (s : List ℕ) (counts : Counts) → (h : Counted failed stream info q s counts) → (c : Counted more stream info p s counts) × (c.parts ≡ h.parts)
counted_from {failed = failed} {more = more} {stream = stream} {info = info} w p q at s counts h = (
  record {
    parts = h.parts;
    is_cut = h.is_cut;
    front = h.front;
    rest = h.rest;
    joined = h.joined;
    parts_are = h.parts_are;
    ends = ends_weaker failed more stream w h.is_cut h.rest h.ends;
    fit = h.fit;
    frames = h.frames;
    samples = h.samples;
    sizes = h.sizes;
    found = h.found;
    last = h.last;
    found_are = found_from stream info p q s h.parts h.rest h.found at h.found_are;
    last_is = last_from h.is_cut p q (length h.front) h.rest h.last at h.last_is;
    end = h.end;
    end_is = λ e. restart p q (length s) h.end at (h.end_is e);
    kept = h.kept;
  },
  refl,
)

-- ---- the MD5 sum

-- bytes have one verdict
one_verdict : (info : Streaminfo) (bytes : List ℕ) (v w : Md5Verdict) → IsMd5Verdict info bytes v → IsMd5Verdict info bytes w → v ≡ w
one_verdict info bytes NotComputed w x y = absurd x
one_verdict info bytes Missing NotComputed x y = absurd y
one_verdict info bytes Missing Missing x y = refl
one_verdict info bytes Missing Right x y = absurd (y.0 x)
one_verdict info bytes Missing Wrong x y = absurd (y.0 x)
one_verdict info bytes Right NotComputed x y = absurd y
one_verdict info bytes Right Missing x y = absurd (x.0 y)
one_verdict info bytes Right Right x y = refl
one_verdict info bytes Right Wrong x y = absurd (y.1 x.1)
one_verdict info bytes Wrong NotComputed x y = absurd y
one_verdict info bytes Wrong Missing x y = absurd (x.0 y)
one_verdict info bytes Wrong Right x y = absurd (x.1 y.1)
one_verdict info bytes Wrong Wrong x y = refl

same_verdict : (computes_md5 : Bool) (info : Streaminfo) (frames : List FrameValue) (v w : Md5Verdict) → Md5Is computes_md5 info frames v → Md5Is computes_md5 info frames w → v ≡ w
same_verdict false info frames v w x y = x ∙ sym y
same_verdict true info frames v w x y = one_verdict info (bytes_of_frames info.bit_depth frames) v w x y

-- what isn't wrong is right
right_md5 : (computes_md5 : Bool) (info : Streaminfo) (frames : List FrameValue) (v : Md5Verdict) → Md5Is computes_md5 info frames v → v ≢ Wrong → computes_md5 ≡ true → HasMd5 info frames
right_md5 false info frames v is not_wrong computes = absurd (false≢true computes)
right_md5 true info frames v is not_wrong computes = go v is not_wrong
  where
    go : (v : Md5Verdict) → IsMd5Verdict info (bytes_of_frames info.bit_depth frames) v → v ≢ Wrong → HasMd5 info frames
    go NotComputed is not_wrong = absurd is
    go Missing is not_wrong = inl is
    go Right is not_wrong = inr is.1
    go Wrong is not_wrong = absurd (not_wrong refl)

not_computed : (let v : Md5Verdict = NotComputed in v) ≡ Wrong → ⊥
not_computed e = absurd cc

not_missing : (let v : Md5Verdict = Missing in v) ≡ Wrong → ⊥
not_missing e = absurd cc

not_right : (let v : Md5Verdict = Right in v) ≡ Wrong → ⊥
not_right e = absurd cc

-- whether two lists are equal
decide_equal : (xs ys : List ℕ) → (xs ≡ ys) ⊎ (xs ≢ ys)
decide_equal xs ys = go (bytes_eq xs ys) (bytes_eq-Decides xs ys)
  where
    go : (b : Bool) → Decides b (xs ≡ ys) → (xs ≡ ys) ⊎ (xs ≢ ys)
    go true d = inl (d.0 refl)
    go false d = inr (λ e. false≢true (d.1 e))

-- what is right has a verdict that isn't wrong
verdict_of : (computes_md5 : Bool) (info : Streaminfo) (frames : List FrameValue) → (computes_md5 ≡ true → HasMd5 info frames) → (v : Md5Verdict) × Md5Is computes_md5 info frames v × (v ≢ Wrong)
verdict_of false info frames has = (NotComputed, refl, not_computed)
verdict_of true info frames has = elim (decide_equal info.md5 no_md5) [
  | inl none ↦ (Missing, none, not_missing)
  | inr some ↦ elim (has refl) [ inl none ↦ absurd (some none) | inr same ↦ (Right, (some, same), not_right) ]
]

-- what a hasher tells
pub judged_md5 : (computes_md5 : Bool) (info : Streaminfo) (frames : List FrameValue) (hasher : Option Md5) (v : Md5Verdict) → HasHashedBytes computes_md5 (bytes_of_frames info.bit_depth frames) hasher → Md5IsJudged info hasher v → Md5Is computes_md5 info frames v
judged_md5 true info frames None v hashed judged = absurd hashed
judged_md5 true info frames (Some hasher) v hashed judged = judged (bytes_of_frames info.bit_depth frames) hashed
judged_md5 false info frames None v hashed judged = judged
judged_md5 false info frames (Some hasher) v hashed judged = absurd cc

-- and its sum
pub shown_md5 : (computes_md5 : Bool) (info : Streaminfo) (frames : List FrameValue) (hasher : Option Md5) (sum : Option (List ℕ)) → HasHashedBytes computes_md5 (bytes_of_frames info.bit_depth frames) hasher → Md5IsShown hasher sum → sum ≡ sum_of computes_md5 info frames
shown_md5 true info frames None sum hashed shown = absurd hashed
shown_md5 true info frames (Some hasher) sum hashed shown = shown (bytes_of_frames info.bit_depth frames) hashed
shown_md5 false info frames None sum hashed shown = shown
shown_md5 false info frames (Some hasher) sum hashed shown = absurd cc

-- ---- the verdict

-- those that are counted can be
fits_of : (parts : List FrameOrFault) → CanBeCounted parts → (0 + length parts < 2 ^ 64) × (0 + sum_by sample_count_of parts < 2 ^ 64)
fits_of parts can =
    let l = count_parts parts in
    let few = can.1 in
    let small = can.0 in
    (omega (arith, l, few), omega (arith, small))
  where
    count_parts : (parts : List FrameOrFault) → sum_by frame_count_of parts + sum_by fault_count_of parts ≡ length parts
    count_parts [] = refl
    count_parts (Ok frame ∷ parts) = let part : FrameOrFault = Ok frame in let k = count_parts parts in omega (arith, k, sum_by-cons frame_count_of part parts, sum_by-cons fault_count_of part parts)
    count_parts (Err f ∷ parts) = let part : FrameOrFault = Err f in let k = count_parts parts in omega (arith, k, sum_by-cons frame_count_of part parts, sum_by-cons fault_count_of part parts)

right_stream : {failed : Type 0} (computes_md5 : Bool) (s : List ℕ) (report : ReportValue) → IsVerified failed computes_md5 s report → IsTrue report.is_right → IsRightStream computes_md5 s
right_stream {failed = failed} computes_md5 s report v is_right =
    let answer = v.right.0 is_right in
    let c = v.counted in
    let info : Streaminfo = v.head.info in
    let stream : Option StreamFormat = Some (stream_of info) in
    let right = none_is_right stream info c.end (length v.front) (length v.front + length c.front) v.bytes c.rest c.parts c.found c.last c.is_cut c.found_are c.last_is (fits_of c.parts c.fit) (c.kept.some answer.1) in
    let k = frames_of_all stream c.parts v.bytes c.rest c.parts_are right.1 in
    let samples : report.info.samples ≡ info.samples = ap (λ (i : Streaminfo). i.samples) v.info in
    let none : v.head.unsupported ≡ None = sym v.unsupported ∙ answer.0 in
    let head = head_supported info s v.bytes (head_read s v.head v.front v.bytes v.code v.joined ∙ ap (λ (o : Option UnsupportedBlock). Done (record { info = info; unsupported = o }) v.bytes) none) in
    record {
      head = record { info = info; comment = head.0 };
      front = head.1;
      bytes = v.bytes;
      frames = frames_of c.parts;
      rest = c.rest;
      code = head.2;
      joined = head.3;
      frames_are = k.0;
      few = not_cut failed stream c.is_cut c.rest right.0 c.ends;
      in_order = right.2;
      samples = elim answer.2 [ inl n ↦ inl (sym samples ∙ n) | inr n ↦ inr (sym samples ∙ n ∙ c.samples ∙ k.1) ];
      md5_is = right_md5 computes_md5 info (frames_of c.parts) report.md5 v.md5_is answer.3;
    }

-- what is found of frames in order
right_parts : (stream : Option StreamFormat) (info : Streaminfo) (frames before : List FrameValue) (start : ℕ) (s m : List ℕ) → DecodedFrames stream s frames m → AreNextAfter info before frames
    → (parts : List FrameOrFault) × (found : List FoundPart) × FramesAndFaults stream s parts m × PartsFound stream info start s parts m found × (sum_by fault_count_of parts ≡ 0) × (sum_by frame_count_of parts ≡ length frames) × (sum_by sample_count_of parts ≡ sum_by frame_duration frames) × (frames_of parts ≡ frames)
right_parts stream info [] before start s m f right = ([], [], f, (f, refl), refl, refl, refl, refl)
right_parts stream info (frame ∷ frames) before start s m f right =
    let part : FrameOrFault = Ok frame in
    let k = right_parts stream info frames (before ++ frame ∷ []) (start + length f.0) f.1 m f.4 right.1 in
    let found : FoundFrame = record { header = frame.info; duration = frame_duration frame; fits = true } in
    let here : FoundPart = record { start = start % 2 ^ 64; what = Ok found } in
    let fits : IsTrue true ↔ FitsBitDepth info frame = (λ t. right.0.3, λ fit. refl) in (
      part ∷ k.0,
      here ∷ k.1,
      (f.0, f.1, f.2, f.3, k.2),
      (f.0, f.1, here, k.1, f.2, f.3, refl, record { header = refl; duration = refl; fits = fits }, k.3, refl),
      omega (arith, sum_by-cons fault_count_of part k.0, k.4),
      omega (arith, sum_by-cons frame_count_of part k.0, k.5),
      sum_by-cons sample_count_of part k.0 ∙ ap (λ (z : ℕ). frame_duration frame + z) k.6 ∙ sym (sum_by-cons frame_duration frame frames),
      ap (λ (z : List FrameValue). frame ∷ z) k.7,
    )

module _ (computes_md5 : Bool) (s : List ℕ) (r : IsRightStream computes_md5 s) (few : sum_by frame_duration r.frames < 2 ^ 64) (short : length r.frames + 1 < 2 ^ 64) where
  right_report : ReportValue
  right_report = record {
    info = r.head.info;
    unsupported = None;
    counts = record { frames = length r.frames; samples = sum_by frame_duration r.frames; first = None; more = []; left_out = 0; sizes = changed_size r.frames };
    md5 = (verdict_of computes_md5 r.head.info r.frames r.md5_is).0;
    sum = sum_of computes_md5 r.head.info r.frames;
    is_right = true;
  }

  right_verified : (v : IsVerified ⊥ computes_md5 s right_report) × CanBeCounted v.counted.parts
  unfolding right_report
  right_verified =
      let stream : Option StreamFormat = Some (stream_of r.head.info) in
      let start : ℕ = length r.front in
      let k = right_parts stream r.head.info r.frames [] start r.bytes r.rest r.frames_are r.in_order in
      let p = parts_front stream k.0 r.bytes r.rest k.2 in
      let w = verdict_of computes_md5 r.head.info r.frames r.md5_is in
      let can : CanBeCounted k.0 = (let same = k.6 in omega (arith, same, few), let faults = k.4 in let frames = k.5 in omega (arith, faults, frames, short)) in
      let end : ℕ = (start + length r.bytes) % 2 ^ 64 in
      let none = right_has_none stream r.head.info end start r.bytes r.rest k.0 k.1 k.3 (fits_of k.0 can) k.4 (subst (λ (fs : List FrameValue). AreInOrder r.head.info fs) (sym k.7) r.in_order)
      (samples_are r.head.info.samples (sum_by frame_duration r.frames) (sum_by sample_count_of k.0) k.6 r.samples) in (
        record {
          head = record { info = r.head.info; unsupported = None };
          front = r.front;
          bytes = r.bytes;
          code = head_code (r.front ++ r.bytes) (record { info = r.head.info; unsupported = None }) r.front r.bytes (head_found r.head r.front r.bytes r.code) refl;
          joined = r.joined;
          info = refl;
          unsupported = refl;
          counted = record {
            parts = k.0;
            is_cut = false;
            front = p.0;
            rest = r.rest;
            joined = p.1;
            parts_are = k.2;
            ends = r.few;
            fit = can;
            frames = sym k.5;
            samples = sym k.6;
            sizes = ap changed_size (sym k.7);
            found = k.1;
            last = [];
            found_are = k.3;
            last_is = refl;
            end = end;
            end_is = λ e. refl;
            kept = record { others = []; are = none; left_out_is = refl; some = λ e. none };
          };
          md5_is = subst (λ (fs : List FrameValue). Md5Is computes_md5 r.head.info fs w.0) (sym k.7) w.1;
          sum_is = ap (sum_of computes_md5 r.head.info) (sym k.7);
          right = (λ t. (refl, refl, r.samples, w.2), λ t. refl);
        },
        can,
      )
    where
      samples_are : (samples all total : ℕ) → total ≡ all → (samples ≡ 0) ⊎ (samples ≡ all) → (samples ≡ 0) ⊎ (samples ≡ total)
      samples_are samples all total e (inl n) = inl n
      samples_are samples all total e (inr n) = inr (n ∙ sym e)

  is_right_report : IsTrue right_report.is_right
  unfolding right_report
  is_right_report = refl

pub right_sound : {A : Type 0} (computes_md5 : Bool) (a : State ℕ) (result : Result (Report A) Error) (b : State ℕ) → VerifyIsSound computes_md5 a result b → RightIsSound computes_md5 a result b
right_sound computes_md5 a (Ok report) b h = λ is_right known. right_stream computes_md5 a.remaining (report_view report) (h known) is_right
right_sound computes_md5 a (Err e) b h = tt

pub right_complete : {A : Type 0} (computes_md5 : Bool) (a : State ℕ) (result : Result (Report A) Error) (b : State ℕ) → VerifyIsComplete computes_md5 a result b → RightIsComplete computes_md5 a result b
right_complete {A = A} computes_md5 a result b h = λ known r few short.
    let report = right_report computes_md5 a.remaining r few short in
    let v = right_verified computes_md5 a.remaining r few short in
    elim (h report known v.0 v.1) [ inl p ↦ inl (is_right report result p (is_right_report computes_md5 a.remaining r few short)) | inr x ↦ inr x ]
  where
    is_right : (other : ReportValue) (q : Result (Report A) Error) → IsOkAnd q (λ answer. SameReport (report_view answer) other) → IsTrue other.is_right → IsOkAnd q (λ answer. IsTrue answer.is_right)
    is_right other (Ok answer) p e = p.is_right ∙ e
    is_right other (Err e) p t = p

-- ---- the places

no_first_of : (first : Option Place) (more others : List Place) → list_of first ++ (more ++ others) ≡ [] → first ≡ None
no_first_of None more others e = refl
no_first_of (Some place) more others e = absurd cc

none_unnamed : (places : List Place) → map unnamed places ≡ [] → places ≡ []
none_unnamed [] e = refl
none_unnamed (place ∷ places) e = absurd cc

module _ {failed more : Type 0} {stream other : Option StreamFormat} {info given : Streaminfo} {start at : ℕ} {s t : List ℕ} (a b : Counts) (x : Counted failed stream info start s a) (y : Counted more other given at t b) (same : map unnamed (all_places x) ≡ map unnamed (all_places y)) where
  none_either : a.first ≡ None → b.first ≡ None
  none_either e =
      let none : map unnamed (all_places y) ≡ [] = sym same ∙ ap (map unnamed) (x.kept.some e) in
      no_first_of b.first b.more y.kept.others (sym y.kept.are ∙ none_unnamed (all_places y) none)

  pub same_places : SamePlaces a b
  same_places = record {
    left_of_a = x.kept.others;
    left_of_b = y.kept.others;
    same = ap (map unnamed) (sym x.kept.are) ∙ same ∙ ap (map unnamed) y.kept.are;
    left_out_of_a = x.kept.left_out_is;
    left_out_of_b = y.kept.left_out_is;
  }

-- reports of the same are right or not alike
same_right : (a b : ReportValue) → a.info ≡ b.info → a.unsupported ≡ b.unsupported → a.counts.samples ≡ b.counts.samples → ((a.counts.first ≡ None) ↔ (b.counts.first ≡ None)) → a.md5 ≡ b.md5 → IsRight a → IsRight b → a.is_right ≡ b.is_right
same_right a b info unsupported samples none md5_is x y =
    let z : IsTrue a.is_right ↔ ((b.unsupported ≡ None) × (b.counts.first ≡ None) × ((a.info.samples ≡ 0) ⊎ (a.info.samples ≡ a.counts.samples)) × (a.md5 ≢ Wrong)) =
    (λ t. let k = x.0 t in (sym unsupported ∙ k.0, none.0 k.1, k.2, k.3), λ k. x.1 (unsupported ∙ k.0, none.1 k.1, k.2, k.3)) in
    let of_info = subst (λ (i : Streaminfo). IsTrue a.is_right ↔ ((b.unsupported ≡ None) × (b.counts.first ≡ None) × ((i.samples ≡ 0) ⊎ (i.samples ≡ a.counts.samples)) × (a.md5 ≢ Wrong))) info z in
    let of_samples = subst (λ (n : ℕ). IsTrue a.is_right ↔ ((b.unsupported ≡ None) × (b.counts.first ≡ None) × ((b.info.samples ≡ 0) ⊎ (b.info.samples ≡ n)) × (a.md5 ≢ Wrong))) samples of_info in
    let of_md5 = subst (λ (v : Md5Verdict). IsTrue a.is_right ↔ ((b.unsupported ≡ None) × (b.counts.first ≡ None) × ((b.info.samples ≡ 0) ⊎ (b.info.samples ≡ b.counts.samples)) × (v ≢ Wrong))) md5_is of_samples in
    same_answer a.is_right b.is_right of_md5 y

-- ---- no head was read

abbrev HeadAnswer : Type 0
HeadAnswer = Result (StreamInfo × Option UnsupportedBlock) Error

module _ (a m : State ℕ) where
  pub refused : (e : Error) → GivesOrOutOfMemory found_head_view (let r : HeadAnswer = Err e in r) found_head_at a m → (e ≡ OutOfMemory) ⊎ (IsIo e × ReadFailedOrRemaining a m (λ s. found_head_at s ≡ Incomplete)) ⊎ Consumes a m (λ s k. IsFaultOf e (found_head_at s) k)
  refused (IoError cause) h = inr (inl (refl, h.failure refl))
  refused (FormatError text) h = inr (inr (h.fault refl))
  refused (Unsupported text) h = inr (inr (h.fault refl))
  refused OutOfMemory h = inl refl

  -- the fault of a reading is the one that is named
  one_named : (e : Error) (f : Fault) (rest k : List ℕ) (x : Reading ℕ FoundHead) → IsFaultOf e x k → x ≡ Faulty f rest → IsFault f e
  one_named e f rest k (Done h left) w is = absurd w
  one_named e f rest k (Faulty g left) w is = let same : g ≡ f = cc in subst (λ (z : Fault). IsFault z e) same w.0
  one_named e f rest k Incomplete w is = absurd w

  not_done : (e : Error) (h : FoundHead) (rest k : List ℕ) (x : Reading ℕ FoundHead) → IsFaultOf e x k → x ≡ Done h rest → ⊥
  not_done e h rest k (Done g left) w is = w
  not_done e h rest k (Faulty g left) w is = cc
  not_done e h rest k Incomplete w is = w

  pub no_head : {B : Type 0} (computes_md5 : Bool) (e : Error) → GivesOrOutOfMemory found_head_view (let r : HeadAnswer = Err e in r) found_head_at a m → OutOfMemoryOnlyWhere HeadNeedsMemory (let r : HeadAnswer = Err e in r) a → VerifyPromises {A = B} computes_md5 a (Err e) m
  no_head {B = B} computes_md5 e gives memory = record {
    sound = tt;
    complete = all;
    right = tt;
    right_complete = right_complete {A = B} computes_md5 a (Err e) m all;
    fault = elim (refused e gives) [
      | inl n ↦ inl n
      | inr (inl io) ↦ inr (inl (io.0, λ known. elim (io.1.known known).why [ inl p ↦ inl (has_neither a.remaining p) | inr x ↦ inr x ]))
      | inr (inr k) ↦ inr (inr (λ known. let f = fault_is e (found_head_at a.remaining) m.remaining (k.known known).is in inr (f.0, f.1, fault_begins a.remaining f.0 m.remaining f.2)))
    ];
    named = λ f known at. elim (refused e gives) [
      | inl n ↦ inr (inl (ap (λ (z : Error). Err z) n))
      | inr (inl io) ↦ elim (io.1.known known).why [ inl p ↦ absurd ((has_neither a.remaining p).no_fault f at.0 at.1 at.2 at.3) | inr x ↦ inr (inr x) ]
      | inr (inr k) ↦ inl (one_named e f at.1 m.remaining (found_head_at a.remaining) (k.known known).is (fault_read a.remaining f at))
    ];
    memory = λ n known. inl (memory (same_out_of_memory e n) known);
  }
    where
      all : VerifyIsComplete {A = B} computes_md5 a (Err e) m
      all report known v can = elim (refused e gives) [
        | inl n ↦ inr (inl (ap (λ (z : Error). Err z) n))
        | inr (inl io) ↦ elim (io.1.known known).why [ inl p ↦ absurd ((has_neither a.remaining p).no_code v.head v.front v.bytes v.code v.joined) | inr x ↦ inr (inr x) ]
        | inr (inr k) ↦ absurd (not_done e v.head v.bytes m.remaining (found_head_at a.remaining) (k.known known).is (head_read a.remaining v.head v.front v.bytes v.code v.joined))
      ]

-- ---- a head was read

-- It was consumed, and the counting began after it.
pub record HeadIsConsumed (a m : State ℕ) (head : FoundHead) (stream : Option StreamFormat) (start : ℕ) : Type 0 where
  pub errors : m.source.errors ≡ a.source.errors
  pub empty_reads : m.source.empty_reads ≡ a.source.empty_reads
  pub known : RemainingIsKnown a → RemainingIsKnown m
  pub is : RemainingIsKnown a → (front : List ℕ) × (found_head_at a.remaining ≡ Done head m.remaining) × (a.remaining ≡ front ++ m.remaining) × (start % 2 ^ 64 ≡ length front % 2 ^ 64)
  pub bit_depth : IsBitDepth (known_bit_depth stream)
  pub stream_is : stream ≡ Some (stream_of head.info)

pub head_consumed : (a m : State ℕ) (shown : StreamInfo × Option UnsupportedBlock) (start : ℕ) → Consumes a m (λ s k. found_head_at s ≡ Done (found_head_view shown) k) → HasBounds shown.0
    → (RemainingIsKnown a → (front : List ℕ) × (a.remaining ≡ front ++ m.remaining) × (start % 2 ^ 64 ≡ length front % 2 ^ 64)) → HeadIsConsumed a m (found_head_view shown) (Some (stream_with shown.0)) start
head_consumed a m shown start consumed bounds at = record {
  errors = consumed.errors;
  empty_reads = consumed.empty_reads;
  known = λ k. (consumed.known k).known;
  is = λ k. let w = at k in (w.0, (consumed.known k).is, w.1, w.2);
  bit_depth = (bounds.some_bits, bounds.bits);
  stream_is = refl;
}

module _ {a m : State ℕ} (b : State ℕ) {head : FoundHead} {stream : Option StreamFormat} {start : ℕ} (h : HeadIsConsumed a m head stream start) where
  pub failed_since : ReadFailedIn m b → ReadFailedIn a b
  failed_since f = elim f [ inl n ↦ inl (λ e. n (e ∙ sym h.errors)) | inr n ↦ inr (λ e. n.0 (e ∙ sym h.empty_reads), n.1) ]

  -- any head that the bytes begin with is the one that was read
  same_start : (known : RemainingIsKnown a) (other : FoundHead) (front bytes : List ℕ) → FoundHeadCode other front → a.remaining ≡ front ++ bytes → (head ≡ other) × (m.remaining ≡ bytes) × (length (h.is known).0 ≡ length front)
  same_start known other front bytes code joined =
      let s = h.is known in
      let same : Done head m.remaining ≡ Done other bytes = sym s.1 ∙ head_read a.remaining other front bytes code joined in
      let left : m.remaining ≡ bytes = cc in
      let l : length s.0 + length m.remaining ≡ length front + length bytes = sym (length-append s.0 m.remaining) ∙ ap length (sym s.2 ∙ joined) ∙ length-append front bytes in
      let n : length m.remaining ≡ length bytes = ap length left in
      (cc, left, omega arith)

  no_fault : (known : RemainingIsKnown a) (f : Fault) → BeginsWith (FoundHeadFault f) a.remaining → ⊥
  no_fault known f at = let s = h.is known in let same : Done head m.remaining ≡ Faulty f at.1 = sym s.1 ∙ fault_read a.remaining f at in cc

  -- what a report says, of this head
  as_counted : (known : RemainingIsKnown a) (computes_md5 : Bool) (report : ReportValue) (v : IsVerified ⊥ computes_md5 a.remaining report) → (c : Counted ⊥ stream head.info (length (h.is known).0) m.remaining report.counts) × (c.parts ≡ v.counted.parts)
  as_counted known computes_md5 report v =
      let q = same_start known v.head v.front v.bytes v.code v.joined in
      let n : ℕ = length (h.is known).0 in
      let of_stream : Some (stream_of v.head.info) ≡ stream = sym (h.stream_is ∙ ap (λ (z : FoundHead). Some (stream_of z.info)) q.0) in
      let of_info : v.head.info ≡ head.info = ap (λ (z : FoundHead). z.info) (sym q.0) in
      let c : (c : Counted ⊥ (Some (stream_of v.head.info)) v.head.info (length v.front) v.bytes report.counts) × (c.parts ≡ v.counted.parts) = (v.counted, refl) in
      let at = subst (λ (z : List ℕ). (c : Counted ⊥ (Some (stream_of v.head.info)) v.head.info (length v.front) z report.counts) × (c.parts ≡ v.counted.parts)) (sym q.1) c in
      let from = subst (λ (k : ℕ). (c : Counted ⊥ (Some (stream_of v.head.info)) v.head.info k m.remaining report.counts) × (c.parts ≡ v.counted.parts)) (sym q.2) at in
      let of = subst (λ (z : Option StreamFormat). (c : Counted ⊥ z v.head.info n m.remaining report.counts) × (c.parts ≡ v.counted.parts)) of_stream from in
      subst (λ (i : Streaminfo). (c : Counted ⊥ stream i n m.remaining report.counts) × (c.parts ≡ v.counted.parts)) of_info of

  has_frames_and_faults : (known : RemainingIsKnown a) (P : Option StreamFormat → List FrameOrFault → List ℕ → Type 0) (parts : List FrameOrFault) (left : List ℕ) → FramesAndFaults stream m.remaining parts left → P stream parts left → HasFramesAndFaults a.remaining P
  has_frames_and_faults known P parts left p q =
      let s = h.is known in
      record {
        head = head;
        front = s.0;
        bytes = m.remaining;
        parts = parts;
        left = left;
        code = head_code a.remaining head s.0 m.remaining s.1 s.2;
        joined = s.2;
        parts_are = subst (λ (z : Option StreamFormat). FramesAndFaults z m.remaining parts left) h.stream_is p;
        what = subst (λ (z : Option StreamFormat). P z parts left) h.stream_is q;
      }

  module _ (computes_md5 : Bool) where
    -- the MD5 sum was judged and shown
    abbrev SumIs : Streaminfo → List FrameOrFault → Md5Verdict → Option (List ℕ) → Type 0
    SumIs i parts v sum = Md5Is computes_md5 i (frames_of parts) v × (sum ≡ sum_of computes_md5 i (frames_of parts))

    -- counted, and so
    abbrev Judged : Type 0 → Option StreamFormat → Streaminfo → ℕ → Counts → Md5Verdict → Option (List ℕ) → Type 0
    Judged failed z i n counts v sum = (c : Counted failed z i n m.remaining counts) × SumIs i c.parts v sum

    module _ {A B : Type 0} (info : StreamInfo) (walk : Walk A) (report : Report B) (of_info : head.info ≡ info_view info) (unsupported_is : report.unsupported ≡ head.unsupported) (walks : WalksToEnd computes_md5 stream (info_view info) start m b walk) (info_is : report.info ≡ info) (frames_are : report.found.frames ≡ walk.frames)
        (samples_are : report.found.samples ≡ walk.samples) (kept : (all : List Place) → Keeps all walk.places → AreKept (places_at walk.end (or_zero info.samples) (record { scan = walk.scan; places = all })) report.found.places.first report.found.places.more.items report.found.places.left_out) (sizes_are : report.found.notes.changed_block_size ≡ walk.sizes.changed) (md5_is : Md5IsJudged (info_view info) walk.md5 report.md5) (md5_shown : Md5IsShown walk.md5 report.computed_md5)
        (unsupported : Option UnsupportedBlock) (given : report.unsupported ≡ unsupported) (right : IsTrue report.is_right ↔ ((unsupported ≡ None) × NothingIsWrong report.found (or_zero info.samples) report.md5)) where
      is_counted : IsCounted walk (or_zero info.samples) (report_view report).counts
      is_counted = record { frames_are = frames_are; samples_are = samples_are; kept = kept; sizes_are = sizes_are }

      judged : (known : RemainingIsKnown a) → Judged (ReadFailedIn a b) stream head.info (length (h.is known).0) (report_view report).counts report.md5 report.computed_md5
      judged known =
          let s = h.is known in
          let n : ℕ = length s.0 in
          let w = walks (h.known known) (report_view report).counts is_counted in
          let k = counted_from failed_since n start s.3 m.remaining (report_view report).counts w.0 in
          let sum : SumIs (info_view info) w.0.parts report.md5 report.computed_md5 = (judged_md5 computes_md5 (info_view info) (frames_of w.0.parts) walk.md5 report.md5 w.1 md5_is, shown_md5 computes_md5 (info_view info) (frames_of w.0.parts) walk.md5 report.computed_md5 w.1 md5_shown) in
          let j : Judged (ReadFailedIn a b) stream (info_view info) n (report_view report).counts report.md5 report.computed_md5 = (k.0, subst (λ (parts : List FrameOrFault). SumIs (info_view info) parts report.md5 report.computed_md5) (sym k.1) sum) in
          subst (λ (i : Streaminfo). Judged (ReadFailedIn a b) stream i n (report_view report).counts report.md5 report.computed_md5) (sym of_info) j

      is_right : IsRight (report_view report)
      is_right =
          let flat : IsTrue report.is_right ↔ ((report.unsupported ≡ None) × (report.found.places.first ≡ None) × ((or_zero info.samples ≡ 0) ⊎ (or_zero info.samples ≡ report.found.samples)) × (report.md5 ≢ Wrong)) =
          (λ t. let k = right.0 t in (given ∙ k.0, k.1.0, k.1.1, k.1.2), λ k. right.1 (sym given ∙ k.0, (k.1, k.2, k.3))) in
          subst (λ (i : StreamInfo). IsTrue report.is_right ↔ ((report.unsupported ≡ None) × (report.found.places.first ≡ None) × ((or_zero i.samples ≡ 0) ⊎ (or_zero i.samples ≡ report.found.samples)) × (report.md5 ≢ Wrong))) (sym info_is) flat

      view_is : info_view report.info ≡ head.info
      view_is = ap info_view info_is ∙ sym of_info

      verified : VerifyIsSound computes_md5 a (Ok report) b
      verified known =
          let s = h.is known in
          let j = subst (λ (z : Option StreamFormat). Judged (ReadFailedIn a b) z head.info (length s.0) (report_view report).counts report.md5 report.computed_md5) h.stream_is (judged known) in
          record {
            head = head;
            front = s.0;
            bytes = m.remaining;
            code = head_code a.remaining head s.0 m.remaining s.1 s.2;
            joined = s.2;
            info = view_is;
            unsupported = unsupported_is;
            counted = j.0;
            md5_is = j.1.0;
            sum_is = j.1.1;
            right = is_right;
          }

      complete : VerifyIsComplete computes_md5 a (Ok report) b
      complete other known v can =
          let j = judged known in
          let c = as_counted known computes_md5 other v in
          let q = same_start known v.head v.front v.bytes v.code v.joined in
          elim (same_counts stream h.bit_depth head.info (length (h.is known).0) m.remaining (report_view report).counts other.counts j.0 c.0) [
            | inr f ↦ inr (inr f)
            | inl same ↦ inl (
                let same_info : info_view report.info ≡ other.info = view_is ∙ ap (λ (z : FoundHead). z.info) q.0 ∙ sym v.info in
                let same_unsupported : report.unsupported ≡ other.unsupported = unsupported_is ∙ ap (λ (z : FoundHead). z.unsupported) q.0 ∙ sym v.unsupported in
                let mine = subst (λ (parts : List FrameOrFault). SumIs head.info parts report.md5 report.computed_md5) (same.2 ∙ c.1) j.1 in
                let of_head = subst (λ (z : FoundHead). SumIs z.info v.counted.parts report.md5 report.computed_md5) q.0 mine in
                let verdict : report.md5 ≡ other.md5 = same_verdict computes_md5 v.head.info (frames_of v.counted.parts) report.md5 other.md5 of_head.0 v.md5_is in
                record {
                  info = same_info;
                  unsupported = same_unsupported;
                  frames = same.0;
                  samples = same.1;
                  places = same_places (report_view report).counts other.counts j.0 c.0 same.3;
                  sizes = j.0.sizes ∙ ap (λ (parts : List FrameOrFault). changed_size (frames_of parts)) same.2 ∙ sym c.0.sizes;
                  md5_is = verdict;
                  sum_is = of_head.1 ∙ sym v.sum_is;
                  is_right = same_right (report_view report) other same_info same_unsupported same.1 (none_either (report_view report).counts other.counts j.0 c.0 same.3, none_either other.counts (report_view report).counts c.0 j.0 (sym same.3)) verdict is_right v.right;
                }
                )
          ]

      -- the places of the report are those that were found
      pub counted_places : PlacesAreCounted computes_md5 a (Ok report) b
      counted_places known =
          let v = verified known in
          let k = v.counted.kept in
          (v, counts_all report.found.places.first report.found.places.more.items k.others _ report.found.places.left_out k.are k.left_out_is)
        where
          counts_all : (first : Option Place) (more others all : List Place) (left : ℕ) → all ≡ list_of first ++ (more ++ others) → left ≡ length others % 2 ^ 64 → (length (list_of first ++ more) + left) % 2 ^ 64 ≡ length all % 2 ^ 64
          counts_all first more others all left e is =
              let l : length all ≡ length (list_of first ++ more) + length others = ap length (e ∙ sym (append_assoc (list_of first) more others)) ∙ length-append (list_of first ++ more) others in
              omega (arith, l, is)

      -- all was counted
      pub all_counted : VerifyPromises computes_md5 a (Ok report) b
      all_counted = record {
        sound = verified;
        complete = complete;
        right = right_sound computes_md5 a (Ok report) b verified;
        right_complete = right_complete computes_md5 a (Ok report) b complete;
        fault = tt;
        named = λ f known at. absurd (no_fault known f at);
        memory = λ n known. absurd (not_out_of_memory report n);
      }

    -- it was not
    pub not_counted : {A : Type 0} (e : Error) → StopsCounting stream m e → VerifyPromises {A = A} computes_md5 a (Err e) b
    not_counted {A = A} e stops = record {
      sound = tt;
      complete = complete;
      right = tt;
      right_complete = right_complete {A = A} computes_md5 a (Err e) b complete;
      fault = elim stops [
        | inl n ↦ inl n.0
        | inr n ↦ inr (inr (λ known. let p = n.1 (h.known known) in inl (n.0, has_frames_and_faults known (λ z parts left. AreTooMany parts) p.0 p.1 p.2 p.3)))
      ];
      named = λ f known at. absurd (no_fault known f at);
      memory = λ n known. inr (elim stops [
        | inl k ↦ (let p = k.1 (h.known known) in has_frames_and_faults known (λ z parts left. BeginsWith (HeaderOfLargerBlock z 0) left) p.0 p.1 p.2 p.3)
        | inr k ↦ absurd (let is : e ≡ OutOfMemory = cc in subst IsTooMany is k.0)
      ]);
    }
      where
        complete : VerifyIsComplete {A = A} computes_md5 a (Err e) b
        complete report known v can = inr (elim stops [
          | inl n ↦ inl (ap (λ (z : Error). Err z) n.0)
          | inr n ↦ (
              let p = n.1 (h.known known) in
              let c = as_counted known computes_md5 report v in
              absurd (not_too_many stream h.bit_depth m.remaining p.1 p.0 report.counts p.2 p.3 c.0 (subst (λ (parts : List FrameOrFault). CanBeCounted parts) (sym c.1) can))
              )
        ])

-- ---- through the reader that counts bytes

module _ {R : Type 0} (source : R → Source ℕ) (input : MutBor R) (x y : RunningReader (MutBor R) BytesRead) (at : running_inner x ≡ input) where
  pub same_input : (counted_bytes (lent source) y).source.loans ≡ (counted_bytes (lent source) x).source.loans → input.ghost_name ≡ (running_inner y).ghost_name
  unfolding bytes_in
  same_input loans =
      let k : (running_inner y).ghost_name ∷ (source (running_inner y).now).loans ≡ (running_inner x).ghost_name ∷ (source (running_inner x).now).loans = loans in
      let n : (running_inner y).ghost_name ≡ (running_inner x).ghost_name = cc in
      sym (n ∙ ap (λ (z : MutBor R). z.ghost_name) at)

  pub promised_through : {A : Type 0} (computes_md5 : Bool) (result : Result (Report A) Error) → VerifyPromises computes_md5 (counted_bytes (lent source) x) result (counted_bytes (lent source) y) → VerifyPromises computes_md5 (bytes_in source input.now) result (bytes_in source (running_inner y).now)
  unfolding bytes_in
  promised_through computes_md5 result h =
      subst (λ (z : MutBor R). VerifyPromises computes_md5 (bytes_in source z.now) result (bytes_in source (running_inner y).now)) at
      (record {
        sound = h.sound;
        complete = h.complete;
        right = h.right;
        right_complete = h.right_complete;
        fault = h.fault;
        named = h.named;
        memory = h.memory;
      })

  pub places_through : {A : Type 0} (computes_md5 : Bool) (result : Result (Report A) Error) → PlacesAreCounted computes_md5 (counted_bytes (lent source) x) result (counted_bytes (lent source) y) → PlacesAreCounted computes_md5 (bytes_in source input.now) result (bytes_in source (running_inner y).now)
  unfolding bytes_in
  places_through computes_md5 result h = subst (λ (z : MutBor R). PlacesAreCounted computes_md5 (bytes_in source z.now) result (bytes_in source (running_inner y).now)) at h

-- as many are kept as are wanted
pub few_kept : {kept all wanted given : ℕ} → given ≡ wanted → kept ≤ wanted → (kept ≤ given → all ≤ given) → all ≤ wanted
few_kept {kept = kept} {all = all} {wanted = wanted} {given = given} same few more = subst (λ (n : ℕ). all ≤ n) same (more (subst (λ (n : ℕ). kept ≤ n) (sym same) few))
