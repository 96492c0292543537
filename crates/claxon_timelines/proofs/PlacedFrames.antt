-- Frames of a stream, and where they stand.
use Rattle.std.proofs.Common.{◌≡◌, inl, inr, ℕ, zero, suc, ◌+◌, ◌*◌, ◌<◌, ◌≤◌, List, [], ◌∷◌, length, refl, sym, ap, subst, ◌∙◌, append-nil, add-one, mul-zero, arith}
use Rattle.std.specs.Prelude.{Option, Some, slice_get, take}
use Rattle.std.specs.List.{sum_by}
use Rattle.std.proofs.lemmas.Bool.{cases_lt}
use Rattle.std.proofs.lemmas.List.Sums.{sum_by-cons}
use Rattle.claxon.specs.BlockInfo.{HeaderOf}
use Rattle.claxon.specs.BlockInfos.{BlockInfo}
use Rattle.claxon.specs.DecodedFrame.{FrameValue, FrameWithHeader}
use Rattle.claxon.specs.Frame.{StreamFormat}
use Rattle.claxon.specs.Prefix.{BeginsWith}
use Rattle.claxon.proofs.DecodedFrames.{one_header}
use Rattle.claxon.proofs.FrameHeaders.{frame_has_header}
use Rattle.claxon.proofs.SampleRuns.{short_no_frame}
use Rattle.claxon_stream.proofs.HeadersSaid.{header_has_samples}
use Rattle.claxon_stream_seek.specs.Timeline.{AreTogether, IsFrame, Placed, begins_at}
use Rattle.claxon_verify.specs.RightStream.{DecodedFrames, frame_duration}
use Rattle.claxon_timelines.specs.RightTimelines.{placed_frames}

-- what a header says of its block
said_duration : (stream : Option StreamFormat) (f : FrameValue) (t : List ℕ) → FrameWithHeader stream f t → f.info.duration ≡ frame_duration f
said_duration stream f t (frame, begins) =
    let (info, says, (u, m, header, e)) = frame_has_header stream f.block t [] frame in
    let said : FrameValue = record { info = info; block = f.block } in
    let here : BeginsWith (HeaderOf stream info) t = (u, m, header, sym (append-nil t) ∙ e) in
    let same = one_header stream f said t t [] t [] (frame, begins) (frame, here) (sym (append-nil t)) (sym (append-nil t)) in
    ap (λ (i : BlockInfo). i.duration) same ∙ says.duration_is

some_of_product : (a b : ℕ) → 1 ≤ a * b → 1 ≤ b
some_of_product a zero le = absurd (omega (arith, le, mul-zero a))
some_of_product a (suc b) le = omega arith

-- a block has samples
some_samples : (stream : Option StreamFormat) (f : FrameValue) (t : List ℕ) → FrameWithHeader stream f t → 1 ≤ f.info.duration
some_samples stream f t (frame, (u, m, header, e)) = some_of_product f.info.channels f.info.duration (header_has_samples stream f.info u header)

-- a frame has bytes
some_bytes : (stream : Option StreamFormat) (f : FrameValue) (t : List ℕ) → FrameWithHeader stream f t → 1 ≤ length t
some_bytes stream f t (frame, begins) = elim (cases_lt (length t) 2) [
  | inl lt ↦ absurd (short_no_frame stream t lt f.block t [] frame (sym (append-nil t)))
  | inr le ↦ omega (arith, le)
]

-- a place is that of frame i of these
pub record IsPlaceOf (frames : List FrameValue) (i : ℕ) (x : Placed) : Type 0 where
  pub frame : FrameValue
  pub is : slice_get frames i ≡ Some frame
  pub info : x.info ≡ frame.info
  pub long : x.info.duration ≡ frame_duration frame
  pub duration : 1 ≤ x.info.duration
  pub bytes : x.at < x.end

module _ (stream : Option StreamFormat) (r : List ℕ) where
  -- each frame begins at as many samples as those before it have
  pub begins_as : (at : ℕ) (s : List ℕ) (frames : List FrameValue) (are : DecodedFrames stream s frames r) (i : ℕ) → begins_at (placed_frames stream at s frames r are) i ≡ sum_by frame_duration (take i frames)
  begins_as at s [] are zero = refl
  begins_as at s [] are (suc i) = refl
  begins_as at s (f ∷ frames) are zero = refl
  begins_as at s (f ∷ frames) are (suc i) =
      let one = said_duration stream f are.0 are.2 in
      let more = begins_as (at + length are.0) are.1 frames are.4 i in
      omega (arith, one, more, sum_by-cons frame_duration f (take i frames))

  -- each place is that of a frame
  pub place_of : (at : ℕ) (s : List ℕ) (frames : List FrameValue) (are : DecodedFrames stream s frames r) (i : ℕ) (x : Placed) → IsFrame (placed_frames stream at s frames r are) i x → IsPlaceOf frames i x × (at ≤ x.at)
  place_of at s [] are i x e = absurd cc
  place_of at s (f ∷ frames) are zero x e =
      let same : record { at = at; end = at + length are.0; info = f.info } ≡ x = cc in
      let here : IsPlaceOf (f ∷ frames) zero (record { at = at; end = at + length are.0; info = f.info }) = record {
        frame = f;
        is = refl;
        info = refl;
        long = said_duration stream f are.0 are.2;
        duration = some_samples stream f are.0 are.2;
        bytes = omega (arith, some_bytes stream f are.0 are.2);
      } in
      subst (λ (y : Placed). IsPlaceOf (f ∷ frames) zero y × (at ≤ y.at)) same (here, omega arith)
  place_of at s (f ∷ frames) are (suc i) x e =
      let (k, later) = place_of (at + length are.0) are.1 frames are.4 i x e in
      (record { frame = k.frame; is = k.is; info = k.info; long = k.long; duration = k.duration; bytes = k.bytes }, omega (arith, later))

  -- the first place ends where all others begin, or before
  pub ascending : (at : ℕ) (s : List ℕ) (frames : List FrameValue) (are : DecodedFrames stream s frames r) (i k : ℕ) (x y : Placed) → IsFrame (placed_frames stream at s frames r are) i x → IsFrame (placed_frames stream at s frames r are) k y → i < k → x.end ≤ y.at
  ascending at s [] are i k x y e h lt = absurd cc
  ascending at s (f ∷ frames) are i zero x y e h lt = absurd (omega (arith, lt))
  ascending at s (f ∷ frames) are zero (suc k) x y e h lt =
      let same : record { at = at; end = at + length are.0; info = f.info } ≡ x = cc in
      let later = (place_of (at + length are.0) are.1 frames are.4 k y h).1 in
      subst (λ (z : Placed). z.end ≤ y.at) same later
  ascending at s (f ∷ frames) are (suc i) (suc k) x y e h lt = ascending (at + length are.0) are.1 frames are.4 i k x y e h (omega (arith, lt))

  -- the first place begins here
  first_at : (at : ℕ) (s : List ℕ) (frames : List FrameValue) (are : DecodedFrames stream s frames r) (x : Placed) → IsFrame (placed_frames stream at s frames r are) zero x → x.at ≡ at
  first_at at s [] are x e = absurd cc
  first_at at s (f ∷ frames) are x e =
      let same : record { at = at; end = at + length are.0; info = f.info } ≡ x = cc in
      sym (ap (λ (z : Placed). z.at) same)

  next_at : (at : ℕ) (s : List ℕ) (frames : List FrameValue) (are : DecodedFrames stream s frames r) (i : ℕ) (x y : Placed) → IsFrame (placed_frames stream at s frames r are) i x → IsFrame (placed_frames stream at s frames r are) (suc i) y → x.end ≡ y.at
  next_at at s [] are i x y e h = absurd cc
  next_at at s (f ∷ frames) are zero x y e h =
      let same : record { at = at; end = at + length are.0; info = f.info } ≡ x = cc in
      sym (ap (λ (z : Placed). z.end) same) ∙ sym (first_at (at + length are.0) are.1 frames are.4 y h)
  next_at at s (f ∷ frames) are (suc i) x y e h = next_at (at + length are.0) are.1 frames are.4 i x y e h

  -- each place begins where the one before it ends
  pub together : (at : ℕ) (s : List ℕ) (frames : List FrameValue) (are : DecodedFrames stream s frames r) → AreTogether (placed_frames stream at s frames r are)
  together at s frames are i x y e h = next_at at s frames are i x y e (subst (λ (n : ℕ). IsFrame (placed_frames stream at s frames r are) n y) (add-one i) h)

  -- there are as many
  pub as_many : (at : ℕ) (s : List ℕ) (frames : List FrameValue) (are : DecodedFrames stream s frames r) → length (placed_frames stream at s frames r are) ≡ length frames
  as_many at s [] are = refl
  as_many at s (f ∷ frames) are = ap suc (as_many (at + length are.0) are.1 frames are.4)
