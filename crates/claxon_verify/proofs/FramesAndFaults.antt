-- Frames and faults, one after another.
use Rattle.std.proofs.Common.{◌≡◌, ◌⊎◌, ◌<◌, ◌+◌, ◌^◌, ◌%◌, ℕ, true, false, List, [], ◌∷◌, ◌++◌, length, inl, inr, refl, sym, ap, ap₂, arith, subst, ◌∙◌, append_assoc, length-append}
use Rattle.std.specs.Prelude.{Bool, IsTrue, map, Option, None, Result, Ok, Err, ◌↔◌}
use Rattle.std.specs.List.{sum_by}
use Rattle.std.proofs.lemmas.Bool.{false≢true}
use Rattle.std.proofs.lemmas.List.{append-nil, append_cancel_left}
use Rattle.std.proofs.lemmas.List.Sums.{sum_by-append, sum_by-cons}
use Rattle.claxon.specs.DecodedFrame.{FrameValue, FrameWithHeader}
use Rattle.claxon.specs.Errors.{Error}
use Rattle.claxon.specs.Error.{IsFault}
use Rattle.claxon.specs.Fault.{BitDepthReserved, Fault}
use Rattle.claxon.specs.Frame.{FrameBytesFault, IsBitDepth, StreamFormat, known_bit_depth}
use Rattle.claxon.specs.Streaminfo.{Streaminfo}
use Rattle.claxon.proofs.FormatLaws.{frames_unambiguous}
use Rattle.claxon.proofs.SampleRuns.{short_no_frame, short_no_fault}
use Rattle.claxon_blocks.specs.Frames.{Is32BitFault, Says32Bits}
use Rattle.claxon.specs.BlockInfos.{BlockInfo}
use Rattle.claxon.specs.Error.{IsIo}
use Rattle.claxon.specs.Errors.TheVariants.{OutOfMemory}
use Rattle.claxon_report.specs.Places.{FoundPart, begun_scan, scan_parts, unnamed}
use Rattle.claxon_verify.specs.RightStream.{DecodedFrames, frame_duration}
use Rattle.claxon_verify.specs.Verify.{AreTooMany, CanBeCounted, Counted, Counts, EndsAt, FrameIs, FrameOrFault, FrameOrFaultBytes, FramesAndFaults, LastFound, PartIs, PartsFound, all_places, fault_count_of, frame_count_of, frames_of, sample_count_of}
use Rattle.claxon_blocks.specs.Frames.{IsNotWhole}
use Rattle.claxon_blocks.specs.declared.frames.FrameError.{FrameError}
use Rattle.claxon_report.specs.declared.due.FoundFrame.{FoundFrame}
use Rattle.claxon_blocks.proofs.BlockReads.{io_not_fault}
use Rattle.claxon_blocks.proofs.FirstBytes.{refused}
use Rattle.claxon.proofs.DecodedFrames.{decoded_unambiguous}
use Rattle.claxon_report.proofs.Scanning.{SameParts, fault_begun, places_same, unnamed_what}

-- one frame or fault more
pub parts_push : (stream : Option StreamFormat) (parts : List FrameOrFault) (part : FrameOrFault) (s m t r : List ℕ) → FramesAndFaults stream s parts m → FrameOrFaultBytes stream part t → m ≡ t ++ r → FramesAndFaults stream s (parts ++ part ∷ []) r
parts_push stream [] part s m t r p c e = (t, r, c, p ∙ e, refl)
parts_push stream (x ∷ parts) part s m t r p c e = (p.0, p.1, p.2, p.3, parts_push stream parts part p.1 m t r p.4 c e)

-- the bytes before what they leave
pub parts_front : (stream : Option StreamFormat) (parts : List FrameOrFault) (s m : List ℕ) → FramesAndFaults stream s parts m → (front : List ℕ) × (s ≡ front ++ m)
parts_front stream [] s m p = ([], p)
parts_front stream (x ∷ parts) s m p = let k = parts_front stream parts p.1 m p.4 in (p.0 ++ k.0, p.3 ∙ ap (λ (z : List ℕ). p.0 ++ z) k.1 ∙ sym (append_assoc p.0 k.0 m))

-- two answers of one meaning are equal
pub same_answer : {P : Type 0} (b c : Bool) → (IsTrue b ↔ P) → (IsTrue c ↔ P) → b ≡ c
same_answer true true p q = refl
same_answer false false p q = refl
same_answer true false p q = absurd (false≢true (q.1 (p.0 refl)))
same_answer false true p q = absurd (false≢true (p.1 (q.0 refl)))

-- where no frame is cut off fewer than two bytes are left
pub not_cut : (failed : Type 0) (stream : Option StreamFormat) (is_cut : Bool) (rest : List ℕ) → is_cut ≡ false → EndsAt failed stream is_cut rest → length rest < 2
not_cut failed stream is_cut rest e h = subst (λ (b : Bool). EndsAt failed stream b rest) e h

-- ---- what is found of them, one after another

-- one part more
pub found_push : (stream : Option StreamFormat) (info : Streaminfo) (parts : List FrameOrFault) (start : ℕ) (s m : List ℕ) (found : List FoundPart) → PartsFound stream info start s parts m found → (part : FrameOrFault) (t n : List ℕ) (here : FoundPart) (at : ℕ) → FrameOrFaultBytes stream part t → m ≡ t ++ n → start + length s ≡ at + length m
    → here.start ≡ at % 2 ^ 64 → PartIs info part m here.what → PartsFound stream info start s (parts ++ part ∷ []) n (found ++ here ∷ [])
found_push stream info [] start s m found h part t n here at bytes joined same begins is =
    let l : length s ≡ length m = ap length h.0 in
    let e : at ≡ start = omega (arith, same, l) in (
      t,
      n,
      here,
      [],
      bytes,
      h.0 ∙ joined,
      begins ∙ ap (λ (k : ℕ). k % 2 ^ 64) e,
      subst (λ (z : List ℕ). PartIs info part z here.what) (sym h.0) is,
      (refl, refl),
      ap (λ (z : List FoundPart). z ++ here ∷ []) h.1,
    )
found_push stream info (p ∷ parts) start s m found h part t n here at bytes joined same begins is =
    let l : length s ≡ length h.0 + length h.1 = ap length h.5 ∙ length-append h.0 h.1 in (
      h.0,
      h.1,
      h.2,
      h.3 ++ here ∷ [],
      h.4,
      h.5,
      h.6,
      h.7,
      found_push stream info parts (start + length h.0) h.1 m h.3 h.8 part t n here at bytes joined (omega (arith, same, l)) begins is,
      ap (λ (z : List FoundPart). z ++ here ∷ []) h.9,
    )

-- the same from an equal byte
pub found_from : (stream : Option StreamFormat) (info : Streaminfo) (p q : ℕ) (s : List ℕ) (parts : List FrameOrFault) (r : List ℕ) (found : List FoundPart) → q % 2 ^ 64 ≡ p % 2 ^ 64 → PartsFound stream info q s parts r found → PartsFound stream info p s parts r found
found_from stream info p q s [] r found at h = h
found_from stream info p q s (part ∷ parts) r found at h = (h.0, h.1, h.2, h.3, h.4, h.5, h.6 ∙ at, h.7, found_from stream info (p + length h.0) (q + length h.0) h.1 parts r h.3 (next p q (length h.0) at) h.8, h.9)
  where
    next : (p q n : ℕ) → q % 2 ^ 64 ≡ p % 2 ^ 64 → (q + n) % 2 ^ 64 ≡ (p + n) % 2 ^ 64
    next p q n at = omega arith

-- ---- frames alone

fault_counts : (f : Fault) (parts : List FrameOrFault) → sum_by fault_count_of (Err f ∷ parts) ≡ 0 → ⊥
fault_counts f parts none = let part : FrameOrFault = Err f in omega (arith, sum_by-cons fault_count_of part parts, none)

-- frames alone are such parts
pub parts_of_frames : (stream : Option StreamFormat) (frames : List FrameValue) (s m : List ℕ) → DecodedFrames stream s frames m
    → (parts : List FrameOrFault) × FramesAndFaults stream s parts m × (sum_by fault_count_of parts ≡ 0) × (sum_by frame_count_of parts ≡ length frames) × (sum_by sample_count_of parts ≡ sum_by frame_duration frames) × (frames_of parts ≡ frames)
parts_of_frames stream [] s m f = ([], f, refl, refl, refl, refl)
parts_of_frames stream (frame ∷ frames) s m f =
    let part : FrameOrFault = Ok frame in
    let k = parts_of_frames stream frames f.1 m f.4 in (
      part ∷ k.0,
      (f.0, f.1, f.2, f.3, k.1),
      omega (arith, sum_by-cons fault_count_of part k.0, k.2),
      omega (arith, sum_by-cons frame_count_of part k.0, k.3),
      sum_by-cons sample_count_of part k.0 ∙ ap (λ (z : ℕ). frame_duration frame + z) k.4 ∙ sym (sum_by-cons frame_duration frame frames),
      ap (λ (z : List FrameValue). frame ∷ z) k.5,
    )

-- parts without a fault are frames alone
pub frames_of_all : (stream : Option StreamFormat) (parts : List FrameOrFault) (s m : List ℕ) → FramesAndFaults stream s parts m → sum_by fault_count_of parts ≡ 0
    → DecodedFrames stream s (frames_of parts) m × (sum_by sample_count_of parts ≡ sum_by frame_duration (frames_of parts)) × (sum_by frame_count_of parts ≡ length (frames_of parts))
frames_of_all stream [] s m p none = (p, refl, refl)
frames_of_all stream (Ok frame ∷ parts) s m p none =
    let part : FrameOrFault = Ok frame in
    let k = frames_of_all stream parts p.1 m p.4 (omega (arith, sum_by-cons fault_count_of part parts, none)) in (
      (p.0, p.1, p.2, p.3, k.0),
      sum_by-cons sample_count_of part parts ∙ ap (λ (z : ℕ). frame_duration frame + z) k.1 ∙ sym (sum_by-cons frame_duration frame (frames_of parts)),
      omega (arith, sum_by-cons frame_count_of part parts, k.2),
    )
frames_of_all stream (Err f ∷ parts) s m p none = absurd (fault_counts f parts none)

-- ---- bytes are one list of frames and faults

module _ (stream : Option StreamFormat) (bit_depth : IsBitDepth (known_bit_depth stream)) where
  one_frame : (a b : FrameValue) (t u x y : List ℕ) → FrameWithHeader stream a t → FrameWithHeader stream b u → t ++ x ≡ u ++ y → (a ≡ b) × (t ≡ u)
  one_frame = (decoded_unambiguous stream bit_depth).one_code

  one_frame_or_fault : (p q : FrameOrFault) (t u x y : List ℕ) → FrameOrFaultBytes stream p t → FrameOrFaultBytes stream q u → t ++ x ≡ u ++ y → (p ≡ q) × (t ≡ u)
  one_frame_or_fault (Ok a) (Ok b) t u x y c d e = let k = one_frame a b t u x y c d e in (ap (λ (z : FrameValue). Ok z) k.0, k.1)
  one_frame_or_fault (Ok a) (Err g) t u x y c d e = absurd ((frames_unambiguous stream bit_depth).no_fault a.block g t u x y c.0 d e)
  one_frame_or_fault (Err f) (Ok b) t u x y c d e = absurd ((frames_unambiguous stream bit_depth).no_fault b.block f u t y x d.0 c (sym e))
  one_frame_or_fault (Err f) (Err g) t u x y c d e = let k = (frames_unambiguous stream bit_depth).one_fault f g t u x y c d e in (ap (λ (z : Fault). Err z) k.0, k.1)

  -- m begins with no frame and no fault
  NoFrameNorFault : List ℕ → Type 0
  NoFrameNorFault m = (part : FrameOrFault) (t u : List ℕ) → FrameOrFaultBytes stream part t → m ≡ t ++ u → ⊥

  few_no_frame : (m : List ℕ) → length m < 2 → NoFrameNorFault m
  unfolding NoFrameNorFault
  few_no_frame m few (Ok frame) t u c e = short_no_frame stream m few frame.block t u c.0 e
  few_no_frame m few (Err f) t u c e = short_no_fault stream bit_depth m few f t u c e

  not_whole_no_frame : (m : List ℕ) → IsNotWhole stream m → NoFrameNorFault m
  unfolding NoFrameNorFault
  not_whole_no_frame m h (Ok frame) t u c e = h.1.no_code frame.block t u c.0 e
  not_whole_no_frame m h (Err f) t u c e = h.1.no_fault f t u c e

  -- those that were read are the first of all that there are
  parts_left : (s m n : List ℕ) (parts all : List FrameOrFault) → FramesAndFaults stream s parts m → FramesAndFaults stream s all n → NoFrameNorFault n → (others : List FrameOrFault) × (all ≡ parts ++ others) × FramesAndFaults stream m others n
  unfolding NoFrameNorFault
  parts_left s m n [] all d f none = (all, refl, subst (λ (z : List ℕ). FramesAndFaults stream z all n) d f)
  parts_left s m n (x ∷ parts) [] d f none = absurd (none x d.0 d.1 d.2 (sym f ∙ d.3))
  parts_left s m n (x ∷ parts) (y ∷ all) d f none =
      let p = one_frame_or_fault x y d.0 f.0 d.1 f.1 d.2 f.2 (sym d.3 ∙ f.3) in
      let l : d.1 ≡ f.1 = append_cancel_left d.0 d.1 f.1 (sym d.3 ∙ f.3 ∙ ap (λ (z : List ℕ). z ++ f.1) (sym p.1)) in
      let q = parts_left f.1 m n parts all (subst (λ (z : List ℕ). FramesAndFaults stream z parts m) l d.4) f.4 none in
      (q.0, ap₂ (λ (z : FrameOrFault) (zs : List FrameOrFault). z ∷ zs) (sym p.0) q.1, q.2)

  all_frames_and_faults : (s m n : List ℕ) (parts all : List FrameOrFault) → FramesAndFaults stream s parts m → NoFrameNorFault m → FramesAndFaults stream s all n → NoFrameNorFault n → (all ≡ parts) × (m ≡ n)
  unfolding NoFrameNorFault
  all_frames_and_faults s m n parts all d small f none = let q = parts_left s m n parts all d f none in go q.0 q.1 q.2
    where
      go : (others : List FrameOrFault) → all ≡ parts ++ others → FramesAndFaults stream m others n → (all ≡ parts) × (m ≡ n)
      go [] e g = (e ∙ append-nil parts, g)
      go (x ∷ others) e g = absurd (small x g.0 g.1 g.2 g.3)

  ends_no_frame : (is_cut : Bool) (rest : List ℕ) → EndsAt ⊥ stream is_cut rest → NoFrameNorFault rest
  ends_no_frame false rest h = few_no_frame rest h
  ends_no_frame true rest h = not_whole_no_frame rest (elim h [ inl n ↦ n | inr b ↦ absurd b ])

  -- a list that can be counted doesn't begin with one that can't
  pub not_too_many : {info : Streaminfo} {start : ℕ} (s m : List ℕ) (parts : List FrameOrFault) (counts : Counts) → FramesAndFaults stream s parts m → AreTooMany parts → (all : Counted ⊥ stream info start s counts) → CanBeCounted all.parts → ⊥
  not_too_many s m parts counts d many all can =
      let q = parts_left s m all.rest parts all.parts d all.parts_are (ends_no_frame all.is_cut all.rest all.ends) in
      let frames = ap (sum_by frame_count_of) q.1 ∙ sum_by-append frame_count_of parts q.0 in
      let faults = ap (sum_by fault_count_of) q.1 ∙ sum_by-append fault_count_of parts q.0 in
      let samples = ap (sum_by sample_count_of) q.1 ∙ sum_by-append sample_count_of parts q.0 in
      elim many [
        | inl n ↦ omega (arith, n, samples, can.0)
        | inr n ↦ omega (arith, n, frames, faults, can.1)
      ]

  -- ---- faults

  -- where the bytes say 32 bits the fault is that one
  names_32_bits : (f : Fault) (e : Error) (t n m : List ℕ) → IsFault f e → FrameBytesFault stream f t → m ≡ t ++ n → Says32Bits m → IsFault BitDepthReserved e
  names_32_bits f e t n m named bad is s = subst (λ (g : Fault). IsFault g e) ((frames_unambiguous stream bit_depth).one_fault f BitDepthReserved t s.0 n s.1 bad (refused stream s.0 s.2.0 s.2.1) (sym is ∙ s.3)).0 named

  same_32_bits : (f : Fault) (t n m : List ℕ) (a b : FrameError) → FrameBytesFault stream f t → m ≡ t ++ n → IsFault f a.error → IsFault f b.error → (IsTrue a.is_32_bit ↔ Is32BitFault m a.error) → (IsTrue b.is_32_bit ↔ Is32BitFault m b.error) → a.is_32_bit ≡ b.is_32_bit
  same_32_bits f t n m a b bad is x y p q = same_answer {P = Is32BitFault m a.error} a.is_32_bit b.is_32_bit p (
    λ h. let s = (q.0 h).1 in (names_32_bits f a.error t n m x bad is s, s),
    λ h. let s = h.1 in q.1 (names_32_bits f b.error t n m y bad is s, s),
  )

  -- ---- what was found

  same_frame : (info : Streaminfo) (frame : FrameValue) (a b : FoundFrame) → FrameIs info frame a → FrameIs info frame b → a ≡ b
  same_frame info frame a b x y =
      ap₂ (λ (h : BlockInfo) (d : ℕ). record { header = h; duration = d; fits = a.fits }) (x.header ∙ sym y.header) (x.duration ∙ sym y.duration)
      ∙ ap (λ (z : Bool). record { header = b.header; duration = b.duration; fits = z }) (same_answer a.fits b.fits x.fits y.fits)

  same_error : (a b : FrameError) → a.is_32_bit ≡ b.is_32_bit → unnamed_what (Err a) ≡ unnamed_what (Err b)
  same_error a b e = ap (λ (z : Bool). Err (record { error = OutOfMemory; is_32_bit = z; first = record { seen = 0; bytes = []; others = 0 } })) e

  same_what : (info : Streaminfo) (part : FrameOrFault) (t n m : List ℕ) (a b : Result FoundFrame FrameError) → FrameOrFaultBytes stream part t → m ≡ t ++ n → PartIs info part m a → PartIs info part m b → unnamed_what a ≡ unnamed_what b
  same_what info (Ok frame) t n m (Ok a) (Ok b) bytes is x y = ap (λ (z : FoundFrame). Ok z) (same_frame info frame a b x y)
  same_what info (Ok frame) t n m (Ok a) (Err b) bytes is x y = absurd y
  same_what info (Ok frame) t n m (Err a) b bytes is x y = absurd x
  same_what info (Err f) t n m (Ok a) b bytes is x y = absurd x
  same_what info (Err f) t n m (Err a) (Ok b) bytes is x y = absurd y
  same_what info (Err f) t n m (Err a) (Err b) bytes is x y = same_error a b (same_32_bits f t n m a b bytes is x.0 y.0 x.1 y.1)

  same_of : (xs ys zs ws : List FoundPart) → xs ≡ zs → ys ≡ ws → SameParts zs ws → SameParts xs ys
  same_of xs ys zs ws e f h = subst (λ (z : List FoundPart). SameParts xs z) (sym f) (subst (λ (z : List FoundPart). SameParts z ws) (sym e) h)

  -- of the same bytes the same was found, and then this
  pub same_found : (info : Streaminfo) (parts : List FrameOrFault) (start : ℕ) (s r : List ℕ) (xs ys zs ws : List FoundPart) → PartsFound stream info start s parts r xs → PartsFound stream info start s parts r ys → SameParts zs ws → SameParts (xs ++ zs) (ys ++ ws)
  same_found info [] start s r xs ys zs ws x y last = same_of (xs ++ zs) (ys ++ ws) zs ws (ap (λ (z : List FoundPart). z ++ zs) x.1) (ap (λ (z : List FoundPart). z ++ ws) y.1) last
  same_found info (part ∷ parts) start s r xs ys zs ws x y last =
      let p = one_frame_or_fault part part x.0 y.0 x.1 y.1 x.4 y.4 (sym x.5 ∙ y.5) in
      let l : x.1 ≡ y.1 = append_cancel_left x.0 x.1 y.1 (sym x.5 ∙ y.5 ∙ ap (λ (z : List ℕ). z ++ y.1) (sym p.1)) in
      let h = subst (λ (z : List ℕ). PartsFound stream info (start + length x.0) z parts r x.3) l x.8 in
      let k = subst (λ (z : List ℕ). PartsFound stream info (start + length z) y.1 parts r y.3) (sym p.1) y.8 in
      same_of (xs ++ zs) (ys ++ ws) (x.2 ∷ (x.3 ++ zs)) (y.2 ∷ (y.3 ++ ws)) (ap (λ (z : List FoundPart). z ++ zs) x.9) (ap (λ (z : List FoundPart). z ++ ws) y.9) (
        x.6 ∙ sym y.6,
        same_what info part x.0 x.1 s x.2.what y.2.what x.4 x.5 x.7 y.7,
        same_found info parts (start + length x.0) y.1 r x.3 y.3 zs ws h k last,
      )

  not_32_bits : (m : List ℕ) (e : FrameError) → IsIo e.error → (IsTrue e.is_32_bit ↔ Is32BitFault m e.error) → e.is_32_bit ≡ false
  not_32_bits m e io is = go e.is_32_bit is
    where
      go : (b : Bool) → (IsTrue b ↔ Is32BitFault m e.error) → b ≡ false
      go false is = refl
      go true is = absurd (io_not_fault BitDepthReserved e.error io (is.0 refl).0)

  same_last : (is_cut : Bool) (start : ℕ) (rest : List ℕ) (xs ys : List FoundPart) → LastFound is_cut start rest xs → LastFound is_cut start rest ys → SameParts xs ys
  same_last false start rest xs ys x y = same_of xs ys [] [] x y tt
  same_last true start rest xs ys x y =
      let w : unnamed_what (Err x.1) ≡ unnamed_what (Err y.1) = same_error x.1 y.1 (not_32_bits rest x.1 x.5 x.6 ∙ sym (not_32_bits rest y.1 y.5 y.6)) in
      same_of xs ys (x.0 ∷ []) (y.0 ∷ []) x.2 y.2 (x.3 ∙ sym y.3, ap unnamed_what x.4 ∙ w ∙ ap unnamed_what (sym y.4), tt)

  sure : {failed : Type 0} (is_cut : Bool) (rest : List ℕ) → EndsAt failed stream is_cut rest → EndsAt ⊥ stream is_cut rest ⊎ failed
  sure false rest h = inl h
  sure true rest (inl h) = inl (inl h)
  sure true rest (inr f) = inr f

  -- what is left tells whether it is a frame that isn't whole
  same_cut : (is_cut cut : Bool) (rest : List ℕ) → EndsAt ⊥ stream is_cut rest → EndsAt ⊥ stream cut rest → is_cut ≡ cut
  same_cut false false rest x y = refl
  same_cut true true rest x y = refl
  same_cut false true rest x y = absurd (elim y [ inl n ↦ (let few : length rest < 2 = x in omega (arith, few, n.0)) | inr f ↦ f ])
  same_cut true false rest x y = absurd (elim x [ inl n ↦ (let few : length rest < 2 = y in omega (arith, few, n.0)) | inr f ↦ f ])

  front_length : (s front other rest : List ℕ) → s ≡ front ++ rest → s ≡ other ++ rest → length front ≡ length other
  front_length s front other rest e f = let l : length front + length rest ≡ length other + length rest = sym (length-append front rest) ∙ ap length (sym e ∙ f) ∙ length-append other rest in omega (arith, l)

  -- the end is the same, where no frame isn't whole there
  ends_alike : (info : Streaminfo) (s : List ℕ) (start end other : ℕ) (is_cut : Bool) (last found : List FoundPart) (at : ℕ) (rest : List ℕ) → (is_cut ≡ false → end ≡ (start + length s) % 2 ^ 64) → (is_cut ≡ false → other ≡ (start + length s) % 2 ^ 64) → LastFound is_cut at rest last
      → (scan_parts info (record { scan = begun_scan; places = [] }) (found ++ last)).scan.begun ≡ None → end ≡ other
  ends_alike info s start end other false last found at rest x y h none = x refl ∙ sym (y refl)
  ends_alike info s start end other true last found at rest x y h none = absurd (fault_begun info (record { scan = begun_scan; places = [] }) found h.0 h.1 h.4 (subst (λ (z : List FoundPart). (scan_parts info (record { scan = begun_scan; places = [] }) (found ++ z)).scan.begun ≡ None) h.2 none))

  -- two counts of the same bytes are equal, and so are the frames and faults, and the places
  pub same_counts : {failed : Type 0} (info : Streaminfo) (start : ℕ) (s : List ℕ) (counts others : Counts) (x : Counted failed stream info start s counts) (y : Counted ⊥ stream info start s others)
      → ((counts.frames ≡ others.frames) × (counts.samples ≡ others.samples) × (x.parts ≡ y.parts) × (map unnamed (all_places x) ≡ map unnamed (all_places y))) ⊎ failed
  same_counts info start s counts others x y = elim (sure x.is_cut x.rest x.ends) [
    | inr f ↦ inr f
    | inl ends ↦ (
        let k = all_frames_and_faults s x.rest y.rest x.parts y.parts x.parts_are (ends_no_frame x.is_cut x.rest ends) y.parts_are (ends_no_frame y.is_cut y.rest y.ends) in
        let cut : x.is_cut ≡ y.is_cut = same_cut x.is_cut y.is_cut y.rest (subst (λ (z : List ℕ). EndsAt ⊥ stream x.is_cut z) k.1 ends) y.ends in
        let front : length x.front ≡ length y.front = front_length s x.front y.front y.rest (x.joined ∙ ap (λ (z : List ℕ). x.front ++ z) k.1) y.joined in
        let found = subst (λ (z : List FrameOrFault). PartsFound stream info start s z y.rest x.found) (sym k.0) (subst (λ (z : List ℕ). PartsFound stream info start s x.parts z x.found) k.1 x.found_are) in
        let last = subst (λ (z : List ℕ). LastFound y.is_cut (start + length y.front) z x.last) k.1 (subst (λ (n : ℕ). LastFound y.is_cut (start + n) x.rest x.last) front (subst (λ (b : Bool). LastFound b (start + length x.front) x.rest x.last) cut x.last_is)) in
        let same = same_found info y.parts start s y.rest x.found y.found x.last y.last found y.found_are (same_last y.is_cut (start + length y.front) y.rest x.last y.last last y.last_is) in
        let frames : counts.frames ≡ others.frames = x.frames ∙ ap (sum_by frame_count_of) (sym k.0) ∙ sym y.frames in
        let samples : counts.samples ≡ others.samples = x.samples ∙ ap (sum_by sample_count_of) (sym k.0) ∙ sym y.samples in
        inl (frames, samples, sym k.0, places_same info x.end y.end (x.found ++ x.last) (y.found ++ y.last) same (ends_alike info s start x.end y.end x.is_cut x.last x.found (start + length x.front) x.rest (x.end_is) (λ e. y.end_is (sym cut ∙ e)) x.last_is))
        )
  ]
