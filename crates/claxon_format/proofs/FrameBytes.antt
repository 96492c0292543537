-- The reader of a frame, from bytes.
use Rattle.claxon_format.proofs.Bytes.{Reads-by_bytes, bits_of-bytes_of, by_bytes_then, bind_same, length-bits_of}
use Rattle.claxon_format.proofs.Frames.{Reads-subframes, Reads-body, block_of, frame_body_at, frame_at, Reads-frame, fills}
use Rattle.claxon_format.proofs.Headers.{Reads-header}
use Rattle.claxon_format.proofs.Laws.{Reads-is, Reads-map, one_reading}
use Rattle.claxon_format.proofs.CrcBytes.{with_crc_in_bytes}
use Rattle.claxon_format.proofs.WholeBytes.{Whole, whole_is, Whole-then, Whole-done, in_bits}
use Rattle.claxon_format.proofs.HeaderBytes.{Whole-header}
use Rattle.claxon_format.specs.Bits.{Bits, bits_of}
use Rattle.claxon_format.specs.Fault.{Fault, FrameCrc}
use Rattle.claxon_format.specs.Frame.{Block, ByteAlignedFault, Frame, FrameBytesFault, InBytes, IsBitDepth, StreamFormat, known_bit_depth, Frames, NoFrameLeft}
use Rattle.claxon_format.specs.read.Frame.{frame_bytes_at, coded_channels_at, subframes_at, block_from, frame_without_crc_at, Start, start_of, start_at}
use Rattle.claxon_format.specs.read.Header.{header_at, fields_with_crc_at, with_bit_depth, bit_depth_at}
use Rattle.claxon_format.specs.read.Bytes.{by_bytes, whole, big_at}
use Rattle.claxon_format.specs.FrameWriter.{bytes_of}
use Rattle.claxon_format.specs.Crc.{crc16, padding_length}
use Rattle.claxon_format.specs.Header.{Fields, Header, HeaderCode, HeaderFault}
use Rattle.claxon_format.specs.read.Reading.{Reading, Reads, Done, Faulty, Incomplete, bind, and_then, done, taken, test}
use Rattle.claxon_format.specs.Codes.{Mapped}
use Rattle.claxon_format.specs.Stereo.{bit_depths}
use Rattle.std.proofs.Common.{◌≡◌, ℕ, ◌+◌, ◌%◌, Bool, false, not, eqb, List, [], ◌∷◌, ◌++◌, length, replicate, refl, sym, ap, ap₂, subst, ◌∙◌, arith}
use Rattle.std.proofs.lemmas.List.{append_cancel_left, length-append, length-replicate}
use Rattle.std.specs.Prelude.{Option}

-- ---- a code fills whole bytes where its reader leaves whole bytes of whole bytes

bits_left : {A : Type 0} (x : Reading ℕ A) (a : A) (rest : Bits) → Done a rest ≡ in_bits x → length rest % 8 ≡ 0
bits_left (Done b m) a rest e = let k : rest ≡ bits_of m = cc in omega (arith, ap length k, length-bits_of m)
bits_left (Faulty f m) a rest e = absurd cc
bits_left Incomplete a rest e = absurd cc

pub fills_bytes : {A : Type 0} {r : Bits → Reading Bool A} {q : List ℕ → Reading ℕ A} {C : A → Bits → Type 0} {F : Fault → Bits → Type 0} → Reads Bool A r C F → Whole A r q → (a : A) (t : Bits) → C a t → length t % 8 ≡ 0
fills_bytes {r = r} {q = q} law h a t c =
    let pad = replicate (padding_length t) false in
    let len : length (t ++ replicate (padding_length t) false) ≡ length t + padding_length t = length-append t (replicate (padding_length t) false) ∙ ap (λ n. length t + n) (length-replicate (padding_length t) false) in
    let back : bits_of (bytes_of (t ++ replicate (padding_length t) false)) ≡ t ++ replicate (padding_length t) false = bits_of-bytes_of (t ++ replicate (padding_length t) false) (omega arith) in
    let e : Done a (replicate (padding_length t) false) ≡ in_bits (q (bytes_of (t ++ replicate (padding_length t) false))) = sym (law.again a t (replicate (padding_length t) false) c) ∙ ap r (sym back) ∙ h.same (bytes_of (t ++ replicate (padding_length t) false)) in
    let m = bits_left (q (bytes_of (t ++ replicate (padding_length t) false))) a (replicate (padding_length t) false) e in
    omega (arith, length-replicate (padding_length t) false)

-- ---- a function of the value that is read

map_by_bytes : {A B : Type 0} (f : A → B) (r : Bits → Reading Bool A) (s : List ℕ) → by_bytes (and_then r (λ a. done (f a))) s ≡ and_then (by_bytes r) (λ a. done (f a)) s
map_by_bytes f r s = go (r (bits_of s))
  where
    go : (x : Reading Bool _) → whole s (bind x (λ a. done (f a))) ≡ bind (whole s x) (λ a. done (f a))
    go (Done a m) = refl
    go (Faulty e m) = refl
    go Incomplete = refl

-- ---- header and subframes

subframes_in_bytes : (stream : Option StreamFormat) (h : Header) (s : List ℕ)
    → by_bytes (and_then (coded_channels_at h.fields.size (bit_depths h.fields.channel_code h.bit_depth)) (λ coded. done (block_of stream h coded))) s ≡ and_then (subframes_at h.fields.size (bit_depths h.fields.channel_code h.bit_depth)) (λ coded. done (block_of stream h coded)) s
unfolding subframes_at
subframes_in_bytes stream h s = map_by_bytes (block_of stream h) (coded_channels_at h.fields.size (bit_depths h.fields.channel_code h.bit_depth)) s

pub body_in_bytes : (stream : Option StreamFormat) {q : List ℕ → Reading ℕ Header} → IsBitDepth (known_bit_depth stream) → Whole Header (header_at (known_bit_depth stream)) q → (s : List ℕ)
    → by_bytes (frame_body_at stream) s ≡ and_then (by_bytes (header_at (known_bit_depth stream))) (λ h. and_then (subframes_at h.fields.size (bit_depths h.fields.channel_code h.bit_depth)) (λ coded. done (block_of stream h coded))) s
unfolding frame_body_at
body_in_bytes stream k header s =
    by_bytes_then (Reads-header (known_bit_depth stream)) (fills_bytes (Reads-header (known_bit_depth stream)) header) (λ h t c. Reads-map (block_of stream h) (Reads-subframes (known_bit_depth stream) k h t c)) s
    ∙ bind_same (by_bytes (header_at (known_bit_depth stream)) s) _ _ (subframes_in_bytes stream)

-- ---- the whole frame

-- a function of the value, and then the next field
then_map : {X A B C : Type 0} (x : Reading X A) (f : A → B) (g : B → List X → Reading X C) → bind (bind x (λ a. done (f a))) g ≡ bind x (λ a. g (f a))
then_map (Done a m) f g = refl
then_map (Faulty e m) f g = refl
then_map Incomplete f g = refl

-- a function of the value that is made of a header
made_then : {A B : Type 0} (fields : List ℕ → Reading ℕ Fields) (known : Option ℕ) (make : Header → A) (f : A → B) (s : List ℕ) → with_bit_depth fields known (λ h. f (make h)) s ≡ and_then (with_bit_depth fields known make) (λ a. done (f a)) s
made_then fields known make f s = go (fields s)
  where
    bit_depth : (x : Fields) (y : Reading ℕ ℕ) → bind y (λ w. done (f (make (record { fields = x; bit_depth = w })))) ≡ bind (bind y (λ w. done (make (record { fields = x; bit_depth = w })))) (λ a. done (f a))
    bit_depth x (Done w m) = refl
    bit_depth x (Faulty e m) = refl
    bit_depth x Incomplete = refl

    go : (x : Reading ℕ Fields) → bind x (λ f'. and_then (bit_depth_at known f') (λ w. done (f (make (record { fields = f'; bit_depth = w }))))) ≡ bind (bind x (λ f'. and_then (bit_depth_at known f') (λ w. done (make (record { fields = f'; bit_depth = w }))))) (λ a. done (f a))
    go (Done x m) = bit_depth x (bit_depth_at known x m)
    go (Faulty e m) = refl
    go Incomplete = refl

pub start_is : (stream : Option StreamFormat) (s : List ℕ) → start_at stream s ≡ by_bytes (and_then (header_at (known_bit_depth stream)) (λ h. done (start_of stream h))) s
unfolding start_at header_at
start_is stream s =
    made_then fields_with_crc_at (known_bit_depth stream) (λ h. h) (start_of stream) s
    ∙ sym (whole_is (Whole-then (Whole-header (known_bit_depth stream) (λ h. h)) (λ h. Whole-done (start_of stream h))) s)

frame_without_crc_is : (stream : Option StreamFormat) → IsBitDepth (known_bit_depth stream) → (s : List ℕ) → by_bytes (frame_body_at stream) s ≡ frame_without_crc_at stream s
unfolding frame_without_crc_at header_at
frame_without_crc_is stream k s =
    body_in_bytes stream k (Whole-header (known_bit_depth stream) (λ h. h)) s
    ∙ sym (ap (λ x. bind x (λ start. and_then (subframes_at start.size (bit_depths start.channel_code start.bit_depth)) (λ coded. done (block_from start coded)))) (start_is stream s ∙ map_by_bytes (start_of stream) (header_at (known_bit_depth stream)) s)
    ∙ then_map (by_bytes (header_at (known_bit_depth stream)) s) (start_of stream) (λ start. and_then (subframes_at start.size (bit_depths start.channel_code start.bit_depth)) (λ coded. done (block_from start coded))))

frame_is : (stream : Option StreamFormat) → IsBitDepth (known_bit_depth stream) → (s : List ℕ) → by_bytes (frame_at stream) s ≡ frame_bytes_at stream s
unfolding frame_at
frame_is stream k s =
    with_crc_in_bytes 2 crc16 FrameCrc (Reads-body stream k) s
    ∙ ap (λ x. bind x (λ a m. and_then (big_at 2) (λ n. test (not (eqb n (crc16 (bits_of (taken s m))))) FrameCrc (done a)) m)) (frame_without_crc_is stream k s)

-- the bytes of a header
pub Reads-start : (stream : Option StreamFormat) → Reads ℕ Start (start_at stream) (InBytes (Mapped (start_of stream) (HeaderCode (known_bit_depth stream)))) (ByteAlignedFault (HeaderFault (known_bit_depth stream)))
unfolding header_at
Reads-start stream =
    Reads-is (start_is stream) (Reads-by_bytes (Reads-map (start_of stream) (Reads-header (known_bit_depth stream))) (λ start t c. fills_bytes (Reads-header (known_bit_depth stream)) (Whole-header (known_bit_depth stream) (λ h. h)) c.0 t c.1))

-- ---- a whole frame

pub Reads-frame_bytes : (stream : Option StreamFormat) → IsBitDepth (known_bit_depth stream) → Reads ℕ Block (frame_bytes_at stream) (Frame stream) (FrameBytesFault stream)
Reads-frame_bytes stream k = Reads-is (λ s. sym (frame_is stream k s)) (Reads-by_bytes (Reads-frame stream k) (fills stream))

-- ---- frames have one reading

-- no bytes begin with codes of two blocks, or of two lengths
pub one_block : (stream : Option StreamFormat) → IsBitDepth (known_bit_depth stream) → (a b : Block) (t u x y : List ℕ) → Frame stream a t → Frame stream b u → t ++ x ≡ u ++ y → (a ≡ b) × (t ≡ u)
one_block stream k = one_reading Block (frame_bytes_at stream) (Frame stream) (FrameBytesFault stream) (Reads-frame_bytes stream k)

-- bytes are the codes of at most one list of blocks
pub one_block_list : (stream : Option StreamFormat) → IsBitDepth (known_bit_depth stream) → (s r q : List ℕ) (blocks others : List Block) → Frames stream s blocks r → NoFrameLeft stream r → Frames stream s others q → NoFrameLeft stream q → (blocks ≡ others) × (r ≡ q)
one_block_list stream k s r q [] [] c e d f = (refl, sym c ∙ d)
one_block_list stream k s r q [] (b ∷ others) c e d f = absurd (e b d.0 d.1 d.2 (sym c ∙ d.3))
one_block_list stream k s r q (b ∷ blocks) [] c e d f = absurd (f b c.0 c.1 c.2 (sym d ∙ c.3))
one_block_list stream k s r q (b ∷ blocks) (o ∷ others) c e d f =
    let p = one_block stream k b o c.0 d.0 c.1 d.1 c.2 d.2 (sym c.3 ∙ d.3) in
    let rest : c.1 ≡ d.1 = append_cancel_left c.0 c.1 d.1 (sym c.3 ∙ d.3 ∙ ap (λ (z : List ℕ). z ++ d.1) (sym p.1)) in
    let more = one_block_list stream k d.1 r q blocks others (subst (λ (z : List ℕ). Frames stream z blocks r) rest c.4) e d.4 f in
    (ap₂ (λ (x : Block) (xs : List Block). x ∷ xs) p.0 more.0, more.1)
