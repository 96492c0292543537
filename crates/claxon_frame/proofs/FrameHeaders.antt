-- The header that a frame begins with says how large its block is.
use Rattle.std.proofs.Common.{◌≡◌, ℕ, ◌+◌, ◌≤◌, ℤ, Bool, true, false, cond, ltb, List, [], ◌∷◌, ◌++◌, length, replicate, Option, refl, sym, ap, ◌∙◌, append_assoc, arith, inl}
use Rattle.std.proofs.lemmas.List.{length-replicate}
use Rattle.claxon_format.specs.Bits.{Bits, bits, bits_of}
use Rattle.claxon_format.specs.Codes.{EachWith}
use Rattle.claxon_format.specs.Crc.{crc16}
use Rattle.claxon_format.specs.Fault.{Fault}
use Rattle.claxon_format.specs.Frame.{Block, Frame, FrameBytesFault, StreamFormat, known_bit_depth}
use Rattle.claxon_format.specs.FrameWriter.{channel_count}
use Rattle.claxon_format.specs.Header.{Header, HeaderCode}
use Rattle.claxon_format.specs.Stereo.{DecorrelatedChannels, DecorrelatedPair, EachSamplePair, bit_depths}
use Rattle.claxon_format.specs.Streams.{duration_of}
use Rattle.claxon_format.specs.Subframe.{Subframe}
use Rattle.claxon_format.specs.read.Bytes.{left_bytes, whole}
use Rattle.claxon_format.specs.read.Frame.{start_at, start_of}
use Rattle.claxon_format.specs.read.Header.{header_at}
use Rattle.claxon_format.specs.read.Reading.{Done, Reading, bind, done}
use Rattle.claxon_format.proofs.Bytes.{bits_of-append}
use Rattle.claxon_format.proofs.FrameBytes.{Reads-start, start_is}
use Rattle.claxon_format.proofs.Frames.{subframe_fits}
use Rattle.claxon_format.proofs.Headers.{Reads-header}
use Rattle.claxon_frame.specs.BlockInfo.{HeaderBytesFault, HeaderOf, SaysBlock, block_info, info_of_start}
use Rattle.claxon_frame.specs.declared.frame.info.BlockInfo.{BlockInfo}

-- ---- the number of channels, and their length

count_of : (n : ℕ) (ws : List ℕ) (coded : List (List ℤ)) (t : Bits) → EachWith (λ w. Subframe w n) ws coded t → length coded ≡ length ws
count_of n [] [] t c = refl
count_of n (w ∷ ws) (a ∷ others) t c = omega (arith, count_of n ws others c.1 c.3)
count_of n _ _ t c = absurd c

duration_is : (n : ℕ) (ws : List ℕ) (coded : List (List ℤ)) (t : Bits) → 1 ≤ length ws → EachWith (λ w. Subframe w n) ws coded t → duration_of coded ≡ n
duration_is n [] coded t some c = absurd (omega (arith, some))
duration_is n (w ∷ ws) [] t some c = absurd c
duration_is n (w ∷ ws) (a ∷ others) t some c = (subframe_fits w n a c.0 c.2).1

length_of_left : (code : ℕ) (xs ys ls rs : List ℤ) → EachSamplePair code xs ys ls rs → length ls ≡ length xs
length_of_left code [] [] [] [] c = refl
length_of_left code (a ∷ xs) (b ∷ ys) (l ∷ ls) (r ∷ rs) c = omega (arith, length_of_left code xs ys ls rs c.1)
length_of_left code _ _ _ _ c = absurd c

pair_shape : (n code : ℕ) (ws : List ℕ) (coded channels : List (List ℤ)) (t : Bits) → EachWith (λ w. Subframe w n) ws coded t → DecorrelatedPair code coded channels → (length channels ≡ 2) × (duration_of channels ≡ n)
pair_shape n code ws (xs ∷ ys ∷ []) (ls ∷ rs ∷ []) t c d =
    let some : 1 ≤ length ws = omega (arith, count_of n ws (xs ∷ ys ∷ []) t c) in
    (refl, length_of_left code xs ys ls rs d ∙ duration_is n ws (xs ∷ ys ∷ []) t some c)
pair_shape n code ws _ _ t c d = absurd d

shape_of : (n code w : ℕ) (coded channels : List (List ℤ)) (t : Bits) → EachWith (λ w. Subframe w n) (bit_depths code w) coded t → DecorrelatedChannels code coded channels → (channel_count code ≡ length channels) × (n ≡ duration_of channels)
shape_of n code w coded channels t c d = go (ltb code 8) _ c d
  where
    go : (b : Bool) (pair : List ℕ) → EachWith (λ w. Subframe w n) (cond b (replicate (code + 1) w) pair) coded t → cond b (channels ≡ coded) (DecorrelatedPair code coded channels) → (cond b (code + 1) 2 ≡ length channels) × (n ≡ duration_of channels)
    go true pair c e =
        let count = count_of n (replicate (code + 1) w) coded t c in
        let size : length (replicate (code + 1) w) ≡ code + 1 = length-replicate (code + 1) w in
        let some : 1 ≤ length (replicate (code + 1) w) = omega (arith, size) in
        let long = duration_is n (replicate (code + 1) w) coded t some c in
        rw e (omega (arith, count, size), omega (arith, long))
    go false pair c d = let k = pair_shape n code pair coded channels t c d in (omega (arith, k.0), omega (arith, k.1))

-- ---- the header in bytes

header_begins : (stream : Option StreamFormat) (h : Header) (x : Bits) (s : List ℕ) (z : Bits) → HeaderCode (known_bit_depth stream) h x → bits_of s ≡ x ++ z → (u : List ℕ) × (m : List ℕ) × HeaderOf stream (block_info stream h) u × (s ≡ u ++ m)
header_begins stream h x s z c e =
    let known = known_bit_depth stream in
    let is : header_at known (bits_of s) ≡ Done h z = ap (header_at known) e ∙ (Reads-header known).again h x z c in
    let start : start_at stream s ≡ Done (start_of stream h) (left_bytes s z) = start_is stream s ∙ ap (λ (r : Reading Bool Header). whole s (bind r (λ h. done (start_of stream h)))) is in
    let k = (Reads-start stream).takes s (start_of stream h) (left_bytes s z) start in
    (k.0, left_bytes s z, (k.1.0, k.1.1, ap info_of_start k.1.2), k.2)

-- a frame begins with a header that says how large the block is
pub frame_has_header : (stream : Option StreamFormat) (b : Block) (t rest : List ℕ) → Frame stream b t → (info : BlockInfo) × SaysBlock info b × ((u : List ℕ) × (m : List ℕ) × HeaderOf stream info u × (t ++ rest ≡ u ++ m))
frame_has_header stream b t rest (x, (y, p, (h, coded, front, after, header, subframes, decorrelation, time, y-is), padding, x-is), t-is) =
    let crc = bits 16 (crc16 x) in
    let r = bits_of rest in
    let parts : bits_of (t ++ rest) ≡ front ++ (after ++ (p ++ (crc ++ r))) =
    bits_of-append t rest ∙ ap (λ (q : Bits). q ++ r) t-is ∙ ap (λ (q : Bits). (q ++ crc) ++ r) (x-is ∙ ap (λ (q : Bits). q ++ p) y-is)
    ∙ append_assoc ((front ++ after) ++ p) crc r ∙ append_assoc (front ++ after) p (crc ++ r) ∙ append_assoc front after (p ++ (crc ++ r)) in
    let shape = shape_of h.fields.size h.fields.channel_code h.bit_depth coded b.channels after subframes decorrelation in
    (block_info stream h, record { time = sym time; channels = shape.0; duration_is = shape.1 }, header_begins stream h front (t ++ rest) (after ++ (p ++ (crc ++ r))) header parts)

-- the fault of a header is one of its frame
pub header_fault_is_frames : (stream : Option StreamFormat) (f : Fault) (t : List ℕ) → HeaderBytesFault stream f t → FrameBytesFault stream f t
header_fault_is_frames stream f t (u, p, bad, padding, is) = (u, p, inl (inl bad), padding, is)
