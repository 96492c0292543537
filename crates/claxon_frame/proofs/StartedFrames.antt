-- A frame whose header was read: the header, the rest, and both together.
use Rattle.std.proofs.Common.{◌≡◌, ℕ, List, ◌++◌, Bool, true, false, cond, not, eqb, ltb, length, ℤ, Option, refl, sym, ap, ap₂, subst, ◌∙◌, take, drop, append_assoc}
use Rattle.std.proofs.lemmas.List.{append_cancel_right, take-append-drop}
use Rattle.claxon_format.specs.Bits.{bits_of}
use Rattle.claxon_format.specs.Crc.{crc16}
use Rattle.claxon_format.specs.Fault.{Fault, FrameCrc}
use Rattle.claxon_format.specs.Frame.{Block, Frame, FrameBytesFault, IsBitDepth, StreamFormat, known_bit_depth}
use Rattle.claxon_format.specs.Stereo.{bit_depths}
use Rattle.claxon_format.specs.read.Bytes.{big_at, big_endian, bytes_at, crc_at, whole}
use Rattle.claxon_format.specs.read.Frame.{Start, block_from, coded_channels_at, frame_bytes_at, start_at, subframes_at}
use Rattle.claxon_format.specs.read.Reading.{Done, Faulty, Incomplete, Reading, Reads, bind, done, taken}
use Rattle.claxon_format.proofs.FrameBytes.{Reads-frame_bytes, Reads-start}
use Rattle.claxon_format.proofs.Laws.{taken_is}
use Rattle.claxon_input.specs.CrcUpdate.{update_crc16}
use Rattle.claxon_input.proofs.ConsecutiveCalls.{StopsAs, StopsWith}
use Rattle.claxon_input.proofs.CrcUpdate.{continues_16}
use Rattle.claxon_frame.specs.BlockInfo.{HeaderBytesFault, HeaderOf, header_info_at, info_of_start}
use Rattle.claxon_frame.specs.Prefix.{BeginsWith}
use Rattle.claxon_frame.specs.StartedFrame.{RestFault, RestOf, Started, StartedCode, info_of_started, rest_at, started_at}
use Rattle.claxon_frame.proofs.FrameParts.{channels_stop, footer_is, start_stops}

-- ---- the header, and the CRC of its bytes

started_done : (stream : Option StreamFormat) (s : List ℕ) (v : Started) (m : List ℕ) → started_at stream s ≡ Done v m → (start_at stream s ≡ Done v.start m) × (v.crc ≡ crc16 (bits_of (taken s m)))
unfolding started_at
started_done stream s v m e = go (start_at stream s) e
  where
    go : (x : Reading ℕ Start) → bind x (λ a n. Done (let w : Started = record { start = a; crc = crc16 (bits_of (taken s n)) } in w) n) ≡ Done v m → (x ≡ Done v.start m) × (v.crc ≡ crc16 (bits_of (taken s m)))
    go (Done a n) e =
        let w : Started = record { start = a; crc = crc16 (bits_of (taken s n)) } in
        let p : w ≡ v = cc in
        let q : n ≡ m = cc in
        (ap₂ (λ (a : Start) (n : List ℕ). Done a n) (ap (λ (w : Started). w.start) p) q, ap (λ (w : Started). w.crc) (sym p) ∙ ap (λ (n : List ℕ). crc16 (bits_of (taken s n))) q)
    go (Faulty f n) e = absurd cc
    go Incomplete e = absurd cc

started_faulty : (stream : Option StreamFormat) (s : List ℕ) (f : Fault) (m : List ℕ) → started_at stream s ≡ Faulty f m → start_at stream s ≡ Faulty f m
unfolding started_at
started_faulty stream s f m e = go (start_at stream s) e
  where
    go : (x : Reading ℕ Start) → bind x (λ a n. Done (let w : Started = record { start = a; crc = crc16 (bits_of (taken s n)) } in w) n) ≡ Faulty f m → x ≡ Faulty f m
    go (Done a n) e = absurd cc
    go (Faulty g n) e = let p : g ≡ f = cc in let q : n ≡ m = cc in rw (p, q) refl
    go Incomplete e = absurd cc

started_incomplete : (stream : Option StreamFormat) (s : List ℕ) → started_at stream s ≡ Incomplete → start_at stream s ≡ Incomplete
unfolding started_at
started_incomplete stream s e = go (start_at stream s) e
  where
    go : (x : Reading ℕ Start) → bind x (λ a n. Done (let w : Started = record { start = a; crc = crc16 (bits_of (taken s n)) } in w) n) ≡ Incomplete → x ≡ Incomplete
    go (Done a n) e = absurd cc
    go (Faulty g n) e = absurd cc
    go Incomplete e = refl

-- after the header its CRC is known
pub started_from : (stream : Option StreamFormat) (s : List ℕ) (v : Started) (m : List ℕ) → start_at stream s ≡ Done v.start m → v.crc ≡ crc16 (bits_of (taken s m)) → started_at stream s ≡ Done v m
unfolding started_at
started_from stream s v m e c = rw e (ap (λ (n : ℕ). let w : Started = record { start = v.start; crc = n } in Done w m) (sym c))

pub Reads-started : (stream : Option StreamFormat) → Reads ℕ Started (started_at stream) (StartedCode stream) (HeaderBytesFault stream)
unfolding started_at
Reads-started stream = record {
  takes = λ s v m e.
      let p = started_done stream s v m e in
      let k = (Reads-start stream).takes s v.start m p.0 in
      (k.0, (k.1.0, k.1.1, k.1.2, p.1 ∙ ap (λ (t : List ℕ). crc16 (bits_of t)) (taken_is s k.0 m k.2)), k.2);
  again = λ v t m c.
      let e = (Reads-start stream).again v.start t m (c.0, c.1, c.2) in
      started_from stream (t ++ m) v m e (c.3 ∙ ap (λ (t : List ℕ). crc16 (bits_of t)) (sym (taken_is (t ++ m) t m refl)));
  bad = λ s f m e. (Reads-start stream).bad s f m (started_faulty stream s f m e);
  bad_again = λ f t m c. rw ((Reads-start stream).bad_again f t m c) refl;
}

-- it says this of its block
pub header_of_started : (stream : Option StreamFormat) (v : Started) (t : List ℕ) → StartedCode stream v t → HeaderOf stream (info_of_started v) t
header_of_started stream v t c = (c.0, c.1, ap info_of_start c.2)

-- ---- the rest

-- what is left is a suffix
record IsSuffix (s m : List ℕ) : Type 0 where
  front : List ℕ
  parts : s ≡ front ++ m

after_drop : (n : ℕ) (s : List ℕ) → IsSuffix s (drop n s)
after_drop n s = record { front = take n s; parts = sym (take-append-drop n s) }

suffix_then : {s m n : List ℕ} → IsSuffix s m → IsSuffix m n → IsSuffix s n
suffix_then {n = n} h k = record { front = h.front ++ k.front; parts = h.parts ∙ ap (λ (z : List ℕ). h.front ++ z) k.parts ∙ sym (append_assoc h.front k.front n) }

-- of a reading
abbrev LeavesSuffix : {A : Type 0} → List ℕ → Reading ℕ A → Type 0
LeavesSuffix s (Done a m) = IsSuffix s m
LeavesSuffix s (Faulty f m) = IsSuffix s m
LeavesSuffix s Incomplete = Unit {0}

whole_leaves : {A : Type 0} (s : List ℕ) (x : Reading Bool A) → LeavesSuffix s (whole s x)
whole_leaves s (Done a rest) = after_drop _ s
whole_leaves s (Faulty f rest) = after_drop _ s
whole_leaves s Incomplete = tt

subframes_leave : (n : ℕ) (ws s : List ℕ) → LeavesSuffix s (subframes_at n ws s)
unfolding subframes_at
subframes_leave n ws s = whole_leaves s (coded_channels_at n ws (bits_of s))

crc_leaves : (c : ℕ) (f : Fault) (s : List ℕ) → LeavesSuffix s (crc_at 2 c f s)
unfolding crc_at big_at bytes_at
crc_leaves c f s = go (ltb (length s) 2)
  where
    pick : (b : Bool) → LeavesSuffix s (cond b (Faulty f (drop 2 s)) (Done (tt {0}) (drop 2 s)))
    pick true = after_drop 2 s
    pick false = after_drop 2 s

    go : (b : Bool) → LeavesSuffix s (bind (bind (cond b Incomplete (Done (take 2 s) (drop 2 s))) (λ xs. done (big_endian xs))) (λ n m. cond (not (eqb n c)) (Faulty f m) (Done (tt {0}) m)))
    go true = tt
    go false = pick (not (eqb (big_endian (take 2 s)) c))

rest_leaves : (v : Started) (s : List ℕ) → LeavesSuffix s (rest_at v s)
unfolding rest_at
rest_leaves v s = go (subframes_at v.start.size (bit_depths v.start.channel_code v.start.bit_depth) s) (subframes_leave v.start.size (bit_depths v.start.channel_code v.start.bit_depth) s)
  where
    last : (coded : List (List ℤ)) (m : List ℕ) → IsSuffix s m → (y : Reading ℕ (Unit {0})) → LeavesSuffix m y → LeavesSuffix s (bind y (λ u. done (block_from v.start coded)))
    last coded m h (Done u n) k = suffix_then h k
    last coded m h (Faulty f n) k = suffix_then h k
    last coded m h Incomplete k = tt

    go : (x : Reading ℕ (List (List ℤ))) → LeavesSuffix s x → LeavesSuffix s (bind x (λ coded m. bind (crc_at 2 (update_crc16 v.crc (taken s m)) FrameCrc m) (λ u. done (block_from v.start coded))))
    go (Done coded m) h = last coded m h (crc_at 2 (update_crc16 v.crc (taken s m)) FrameCrc m) (crc_leaves (update_crc16 v.crc (taken s m)) FrameCrc m)
    go (Faulty f m) h = h
    go Incomplete h = tt

-- the CRC goes on after that of the header
crc_goes_on : (v : Started) (h s m : List ℕ) → IsSuffix s m → v.crc ≡ crc16 (bits_of h) → update_crc16 v.crc (taken s m) ≡ crc16 (bits_of (taken (h ++ s) m))
crc_goes_on v h s m k e =
    let short : taken s m ≡ k.front = taken_is s k.front m k.parts in
    let long : taken (h ++ s) m ≡ h ++ k.front = taken_is (h ++ s) (h ++ k.front) m (ap (λ (z : List ℕ). h ++ z) k.parts ∙ sym (append_assoc h k.front m)) in
    rw (e, short, long) (continues_16 h k.front)

-- after the subframes the CRC is read
pub rest_after : (v : Started) (s m : List ℕ) (coded : List (List ℤ)) → subframes_at v.start.size (bit_depths v.start.channel_code v.start.bit_depth) s ≡ Done coded m
    → rest_at v s ≡ bind (crc_at 2 (update_crc16 v.crc (taken s m)) FrameCrc m) (λ u. done (block_from v.start coded))
unfolding rest_at
rest_after v s m coded e = rw e refl

-- where the subframes stop, so does the rest
pub rest_stops : (v : Started) (s : List ℕ) → StopsAs (subframes_at v.start.size (bit_depths v.start.channel_code v.start.bit_depth) s) (rest_at v s)
unfolding rest_at
rest_stops v s = record {
  fault = λ f m e. rw e refl;
  incomplete = λ e. rw e refl;
}

-- after the bytes of its header the rest is read as the frame is
pub rest_is : (stream : Option StreamFormat) (v : Started) (h s : List ℕ) → StartedCode stream v h → rest_at v s ≡ frame_bytes_at stream (h ++ s)
rest_is stream v h s c = go (subframes_at size depths s) refl (subframes_leave size depths s)
  where
    size : ℕ
    size = v.start.size

    depths : List ℕ
    depths = bit_depths v.start.channel_code v.start.bit_depth

    head : start_at stream (h ++ s) ≡ Done v.start s
    head = (Reads-start stream).again v.start h s (c.0, c.1, c.2)

    go : (x : Reading ℕ (List (List ℤ))) → subframes_at size depths s ≡ x → LeavesSuffix s x → rest_at v s ≡ frame_bytes_at stream (h ++ s)
    go (Done coded m) e k = rest_after v s m coded e ∙ sym (footer_is stream v.start coded (update_crc16 v.crc (taken s m)) (h ++ s) s m head e (crc_goes_on v h s m k c.3))
    go (Faulty f m) e k = (rest_stops v s).fault f m e ∙ sym ((channels_stop stream v.start (h ++ s) s head).fault f m e)
    go Incomplete e k = (rest_stops v s).incomplete e ∙ sym ((channels_stop stream v.start (h ++ s) s head).incomplete e)

-- it completes exactly the frames with this header, and reports exactly their faults
pub Reads-rest : (stream : Option StreamFormat) → IsBitDepth (known_bit_depth stream) → (v : Started) (h : List ℕ) → StartedCode stream v h → Reads ℕ Block (rest_at v) (RestOf stream h) (RestFault stream h)
Reads-rest stream depth v h c = record {
  takes = λ s b m e.
      let k = frames.takes (h ++ s) b m (sym (rest_is stream v h s c) ∙ e) in
      let suffix : IsSuffix s m = subst (LeavesSuffix s) e (rest_leaves v s) in
      (suffix.front, subst (λ (t : List ℕ). Frame stream b t) (front_is s m k.0 suffix k.2) k.1, suffix.parts);
  again = λ b t m code. rest_is stream v h (t ++ m) c ∙ ap (frame_bytes_at stream) (sym (append_assoc h t m)) ∙ frames.again b (h ++ t) m code;
  bad = λ s f m e.
      let k = frames.bad (h ++ s) f m (sym (rest_is stream v h s c) ∙ e) in
      let suffix : IsSuffix s m = subst (LeavesSuffix s) e (rest_leaves v s) in
      (suffix.front, subst (λ (t : List ℕ). FrameBytesFault stream f t) (front_is s m k.0 suffix k.2) k.1, suffix.parts);
  bad_again = λ f t m code. rest_is stream v h (t ++ m) c ∙ ap (frame_bytes_at stream) (sym (append_assoc h t m)) ∙ frames.bad_again f (h ++ t) m code;
}
  where
    frames : Reads ℕ Block (frame_bytes_at stream) (Frame stream) (FrameBytesFault stream)
    frames = Reads-frame_bytes stream depth

    front_is : (s m t : List ℕ) → (k : IsSuffix s m) → h ++ s ≡ t ++ m → t ≡ h ++ k.front
    front_is s m t k e = append_cancel_right t (h ++ k.front) m (sym e ∙ ap (λ (z : List ℕ). h ++ z) k.parts ∙ sym (append_assoc h k.front m))

module _ (stream : Option StreamFormat) (depth : IsBitDepth (known_bit_depth stream)) (v : Started) (h : List ℕ) (c : StartedCode stream v h) (s : List ℕ) where
  -- a frame that begins with the header is completed by what follows it
  pub frame_completed : (b : Block) → BeginsWith (Frame stream b) (h ++ s) → BeginsWith (RestOf stream h b) s
  frame_completed b begins =
      let m = begins.1 in
      let e = ap (frame_bytes_at stream) begins.3 ∙ (Reads-frame_bytes stream depth).again b begins.0 m begins.2 in
      let k = (Reads-rest stream depth v h c).takes s b m (rest_is stream v h s c ∙ e) in
      (k.0, m, k.1, k.2)

  -- and so is a fault
  pub fault_completed : (f : Fault) → BeginsWith (FrameBytesFault stream f) (h ++ s) → BeginsWith (RestFault stream h f) s
  fault_completed f begins =
      let m = begins.1 in
      let e = ap (frame_bytes_at stream) begins.3 ∙ (Reads-frame_bytes stream depth).bad_again f begins.0 m begins.2 in
      let k = (Reads-rest stream depth v h c).bad s f m (rest_is stream v h s c ∙ e) in
      (k.0, m, k.1, k.2)

-- ---- both together

-- a header is read, and then the rest
pub frame_is_both : (stream : Option StreamFormat) (v : Started) (s m : List ℕ) → started_at stream s ≡ Done v m → frame_bytes_at stream s ≡ rest_at v m
frame_is_both stream v s m e =
    let k = (Reads-started stream).takes s v m e in
    ap (frame_bytes_at stream) k.2 ∙ sym (rest_is stream v k.0 m k.1)

-- where the header stops, so does the frame
pub start_stops_frame : (stream : Option StreamFormat) → StopsWith (started_at stream) (frame_bytes_at stream)
start_stops_frame stream = record {
  fault = λ s f m e. (start_stops stream).fault s f m (started_faulty stream s f m e);
  incomplete = λ s e. (start_stops stream).incomplete s (started_incomplete stream s e);
}

-- where the header stops, it stops by itself
pub start_stops_started : (stream : Option StreamFormat) → StopsWith (start_at stream) (started_at stream)
unfolding started_at
start_stops_started stream = record {
  fault = λ s f m e. rw e refl;
  incomplete = λ s e. rw e refl;
}

-- what a header says is what is read without its CRC
pub start_of_started : (stream : Option StreamFormat) (v : Started) (s m : List ℕ) → started_at stream s ≡ Done v m → start_at stream s ≡ Done v.start m
start_of_started stream v s m e = (started_done stream s v m e).0

pub started_stops_info : (stream : Option StreamFormat) → StopsWith (started_at stream) (header_info_at stream)
started_stops_info stream = record {
  fault = λ s f m e. rw (started_faulty stream s f m e) refl;
  incomplete = λ s e. rw (started_incomplete stream s e) refl;
}
