-- How many bits a header and a frame can have.
use Rattle.std.proofs.Common.{◌≡◌, ℕ, zero, suc, ◌+◌, ◌-◌, ◌*◌, ◌/◌, ◌^◌, ◌<◌, ◌≤◌, Bool, true, false, cond, eqb, ltb, List, [], ◌∷◌, ◌++◌, length, replicate, refl, ap, ◌∙◌, arith, inl, inr, ℤ}
use Rattle.std.specs.Prelude.{Option, Some}
use Rattle.std.proofs.lemmas.Bool.{ltb-true}
use Rattle.std.proofs.lemmas.List.{length-append, length-replicate}
use Rattle.std.proofs.Math.Nat.{add-mul, div-mul-le_self, mul_comm}
use Rattle.std.proofs.Math.Pow.{pow_mono}
use Rattle.std.proofs.lemmas.Nat.{pow_pos}
use Rattle.claxon_format.specs.Bits.{Bits, RiceCode, Signed, bits, bits_of, rice_code, zigzag}
use Rattle.claxon_format.specs.CodedNumber.{CodedNumber, continuation_bytes}
use Rattle.claxon_format.specs.Codes.{Each, EachWith}
use Rattle.claxon_format.specs.Crc.{bit, crc16, crc8}
use Rattle.claxon_format.specs.Frame.{Block, Frame, IsBitDepth, StreamFormat, known_bit_depth}
use Rattle.claxon_format.specs.Header.{Fields, FieldsCode, Header, HeaderCode, Size, rate_bits, size_of}
use Rattle.claxon_format.specs.Residual.{EscapedSample, Partition, Residual, escape, partition_lengths}
use Rattle.claxon_format.specs.Stereo.{bit_depths}
use Rattle.claxon_format.specs.Subframe.{Samples, Subframe, SubframeBody, WastedBits}
use Rattle.claxon_format.proofs.Bytes.{length-bits_of}
use Rattle.claxon_format.proofs.Frames.{UpTo32, bit_depths_are, bit_depths_fit}
use Rattle.claxon_format.proofs.Headers.{size_bounded}
use Rattle.claxon_format.proofs.Laws.{AllOf}
use Rattle.claxon_format.proofs.Numbers.{length-bits}

-- ---- a header

continuation_length : (k x : ℕ) → length (continuation_bytes k x) ≡ 8 * k
continuation_length zero x = refl
continuation_length (suc k) x =
    let e = length-append (bits 6 (x / 2 ^ (6 * k))) (continuation_bytes k x) in
    let six = length-bits 6 (x / 2 ^ (6 * k)) in
    let rest = continuation_length k x in
    omega (arith, e, six, rest)

number_length : (k x : ℕ) (t : Bits) → CodedNumber k x t → length t ≤ 56
number_length zero x t (small, is) = let e : length t ≡ 8 = ap length is ∙ length-bits 8 x in omega arith
number_length (suc j) x t (few, small, is) =
    let k : ℕ = suc j in
    let low : Bits = bits (6 - k) (x / 2 ^ (6 * k)) in
    let a = length-append (replicate (k + 1) true) (false ∷ (low ++ continuation_bytes k x)) in
    let ones : length (replicate (k + 1) true) ≡ k + 1 = length-replicate (k + 1) true in
    let b = length-append low (continuation_bytes k x) in
    let c = length-bits (6 - k) (x / 2 ^ (6 * k)) in
    let d = continuation_length k x in
    let e = ap length is in
    omega (arith, a, ones, b, c, d, e, few)

size_length : (code n : ℕ) (t : Bits) → code ≤ 15 → Size code n t → (length t ≤ 16) × (n ≤ 65535)
size_length code n t le c = go (eqb code 6) (eqb code 7) c
  where
    go : (a b : Bool) → cond a ((1 ≤ n) × (n ≤ 256) × (t ≡ bits 8 (n - 1))) (cond b ((1 ≤ n) × (n ≤ 65535) × (t ≡ bits 16 (n - 1))) ((size_of code ≡ Some n) × (t ≡ []))) → (length t ≤ 16) × (n ≤ 65535)
    go true b (some, most, is) = let e : length t ≡ 8 = ap length is ∙ length-bits 8 (n - 1) in (omega arith, omega arith)
    go false true (some, most, is) = let e : length t ≡ 16 = ap length is ∙ length-bits 16 (n - 1) in (omega arith, omega arith)
    go false false (known, is) = let e : length t ≡ 0 = ap length is in (omega arith, (size_bounded code n (omega arith) known).1)

rate_length : (code : ℕ) → rate_bits code ≤ 16
rate_length code = go (eqb code 12) (ltb 12 code)
  where
    go : (a b : Bool) → 8 * cond a 1 (cond b 2 0) ≤ 16
    go true b = omega arith
    go false true = omega arith
    go false false = omega arith

front_length : (a b c d e : ℕ) (s : Bits) → length ((bits 14 0x3ffe ++ (bits 1 0 ++ bits 1 a)) ++ ((bits 4 b ++ bits 4 c) ++ ((bits 4 d ++ (bits 3 e ++ bits 1 0)) ++ s))) ≡ 32 + length s
unfolding bits
front_length a b c d e s = omega arith

fields_length : (f : Fields) (t : Bits) → FieldsCode f t → (length t ≤ 120) × (f.size ≤ 65535)
fields_length f t (size_code, rate_code, k, x, y, z, some, most, rate, channels, depth, known, number, large, size, after, is) =
    let n = number_length k f.number x number in
    let s = size_length size_code f.size y most size in
    let r = rate_length rate_code in
    let rate_is : length z ≡ rate_bits rate_code = ap length after.1.1 ∙ length-bits (rate_bits rate_code) after.0 in
    let yz = length-append y z in
    let xyz = length-append x (y ++ z) in
    let e : length t ≡ 32 + length (x ++ (y ++ z)) = ap length is ∙ front_length (bit f.variable) size_code rate_code f.channel_code f.bit_depth_code (x ++ (y ++ z)) in
    (omega (arith, n, s.0, r, yz, xyz, e, rate_is), s.1)

-- a header has at most 16 bytes
pub header_length : (known : Option ℕ) (h : Header) (t : Bits) → HeaderCode known h t → length t ≤ 128
header_length known h t ((x, fields, is), depth, narrow) =
    let f = fields_length h.fields x fields in
    let e : length t ≡ length x + 8 = ap length is ∙ length-append x (bits 8 (crc8 x)) ∙ ap (λ (n : ℕ). length x + n) (length-bits 8 (crc8 x)) in
    omega (arith, f.0, e)

-- ---- a residual

each_length : {A : Type 0} (C : A → Bits → Type 0) → ((a : A) (t : Bits) → C a t → length t ≤ 2 ^ 33) → (xs : List A) (t : Bits) → Each C xs t → length t ≤ 2 ^ 33 * length xs
each_length C h [] t e = let k : length t ≡ 0 = ap length e in omega arith
each_length C h (a ∷ xs) t (u, v, c, cs, is) =
    let p = h a u c in
    let q = each_length C h xs v cs in
    let e : length t ≡ length u + length v = ap length is ∙ length-append u v in
    omega (arith, p, q, e)

rice_length : (k : ℕ) → k < 2 ^ 32 → (e : ℤ) (t : Bits) → RiceCode k e t → length t ≤ 2 ^ 33
unfolding rice_code
rice_length k few e t (fits, (q, quotient, is)) =
    let a = length-append (replicate q false) (true ∷ bits k (zigzag e)) in
    let b : length (replicate q false) ≡ q = length-replicate q false in
    let c = length-bits k (zigzag e) in
    let d = ap length is in
    let below = quotient.below in
    omega (arith, a, b, c, d, below)

escaped_length : (b : ℕ) → b < 2 ^ 5 → (e : ℤ) (t : Bits) → EscapedSample b e t → length t ≤ 2 ^ 33
escaped_length zero few e t (same, is) = let k : length t ≡ 0 = ap length is in omega arith
escaped_length (suc b) few e t (fits, is) = let k : length t ≡ suc b = ap length is ∙ length-bits (suc b) _ in omega arith

small_escape : (method : ℕ) → method < 2 → escape method ≤ 31
small_escape zero h = omega arith
small_escape (suc zero) h = omega arith
small_escape (suc (suc m)) h = absurd (omega arith)

partition_length : (method l : ℕ) → method < 2 → (es : List ℤ) (t : Bits) → Partition method l es t → length t ≤ 10 + 2 ^ 33 * l
partition_length method l two es t (inl (k, w, few, len, each, is)) =
    let small = small_escape method two in
    let c = each_length (RiceCode k) (rice_length k (omega (arith, small, few))) es w each in
    let a = length-append (bits (4 + method) k) w in
    let b = length-bits (4 + method) k in
    let d = ap length is in
    omega (arith, a, b, c, d, len, two)
partition_length method l two es t (inr (b, w, few, len, each, is)) =
    let c = each_length (EscapedSample b) (escaped_length b few) es w each in
    let first = bits (4 + method) (escape method) in
    let a = length-append first (bits 5 b ++ w) in
    let g = length-append (bits 5 b) w in
    let f = length-bits (4 + method) (escape method) in
    let five = length-bits 5 b in
    let d = ap length is in
    omega (arith, a, g, f, five, c, d, len, two)

abbrev total : List ℕ → ℕ
total [] = 0
total (l ∷ ls) = l + total ls

partitions_length : (method : ℕ) → method < 2 → (ls : List ℕ) (partitions : List (List ℤ)) (t : Bits) → EachWith (Partition method) ls partitions t → length t ≤ 10 * length ls + 2 ^ 33 * total ls
partitions_length method two [] [] t e = let k : length t ≡ 0 = ap length e in omega arith
partitions_length method two (l ∷ ls) (es ∷ partitions) t (u, v, c, cs, is) =
    let p = partition_length method l two es u c in
    let q = partitions_length method two ls partitions v cs in
    let e : length t ≡ length u + length v = ap length is ∙ length-append u v in
    omega (arith, p, q, e)
partitions_length method two _ _ t c = absurd c

total-replicate : (k x : ℕ) → total (replicate k x) ≡ k * x
total-replicate zero x = omega arith
total-replicate (suc k) x = let e = total-replicate k x in let m = add-mul 1 k x in omega (arith, e, m)

lengths_total : (n order p : ℕ) → p < 16 → (total (partition_lengths n order p) ≤ n) × (length (partition_lengths n order p) ≤ 2 ^ 15)
lengths_total n order p few =
    let P : ℕ = 2 ^ p in
    let x : ℕ = n / 2 ^ p in
    let some : 0 < P = pow_pos p in
    let most : P ≤ 2 ^ 15 = pow_mono {i = p} {j = 15} (omega arith) in
    let all : x * P ≤ n = div-mul-le_self n P in
    let k : ℕ = P - 1 in
    let same : 1 + k ≡ P = omega (arith, some) in
    let sum : (1 + k) * x ≡ 1 * x + k * x = add-mul 1 k x in
    let e : (1 + k) * x ≡ x * P = ap (λ (m : ℕ). m * x) same ∙ mul_comm P x in
    let r = total-replicate k x in
    let len : length (replicate k x) ≡ k = length-replicate k x in
    (omega (arith, all, e, r, sum), omega (arith, len, most, some))

residual_length : (n order : ℕ) (e : List ℤ) (t : Bits) → Residual n order e t → length t ≤ 2 ^ 20 + 2 ^ 33 * n
residual_length n order e t (method, p, partitions, w, two, few, whole, fits, each, same, is) =
    let q = partitions_length method two (partition_lengths n order p) partitions w each in
    let l = lengths_total n order p few in
    let a = length-append (bits 2 method) (bits 4 p ++ w) in
    let b = length-append (bits 4 p) w in
    let c = length-bits 2 method in
    let d = length-bits 4 p in
    let f = ap length is in
    omega (arith, q, l.0, l.1, a, b, c, d, f)

-- ---- a subframe

samples_length : (w n : ℕ) → w ≤ 33 → (xs : List ℤ) (t : Bits) → Samples w n xs t → length t ≤ 2 ^ 33 * n
samples_length w n few xs t (len, each) =
    let c = each_length (Signed w) (λ z t s. let k : length t ≡ w = ap length s.1 ∙ length-bits w _ in omega (arith, k, few)) xs t each in
    omega (arith, c, len)

body_length : (w n type : ℕ) → w ≤ 33 → (u : List ℤ) (t : Bits) → SubframeBody w n type u t → length t ≤ 2 ^ 39 + 2 ^ 21 + 2 ^ 33 * n
body_length w n type few u t (inl (is, (x, s, same))) = let k : length t ≡ w = ap length s.1 ∙ length-bits w _ in omega (arith, k, few)
body_length w n type few u t (inr (inl (is, s))) = let c = samples_length w n few u t s in omega (arith, c)
body_length w n type few u t (inr (inr (inl (order, four, is, (x, y, len, fit, warm_up, residual, same))))) =
    let a = samples_length w order few _ x warm_up in
    let b = residual_length n order _ y residual in
    let c : length t ≡ length x + length y = ap length same ∙ length-append x y in
    omega (arith, a, b, c, four)
body_length w n type few u t (inr (inr (inr (order, one, most, is, (precision, shift, coefficients, x, c, y, len, fit, some, high, low, warm_up, cs, residual, same))))) =
    let a = samples_length w order few _ x warm_up in
    let b = samples_length precision order (omega arith) coefficients c cs in
    let d = residual_length n order _ y residual in
    let four : Bits = bits 4 (precision - 1) in
    let five : Bits = bits 5 shift in
    let e = length-append x (four ++ (five ++ (c ++ y))) in
    let f = length-append four (five ++ (c ++ y)) in
    let g = length-append five (c ++ y) in
    let h = length-append c y in
    let i = length-bits 4 (precision - 1) in
    let j = length-bits 5 shift in
    let k = ap length same in
    omega (arith, a, b, d, e, f, g, h, i, j, k, most)

wasted_length : (z : ℕ) (t : Bits) → z ≤ 31 → WastedBits z t → length t ≤ 32
wasted_length zero t h is = let k : length t ≡ 1 = ap length is in omega arith
wasted_length (suc z) t h is =
    let a = length-append (replicate z false) (true ∷ []) in
    let b : length (replicate z false) ≡ z = length-replicate z false in
    let k : length t ≡ suc (length (replicate z false ++ true ∷ [])) = ap length is in
    omega (arith, a, b, k, h)

subframe_length : (w n : ℕ) → w ≤ 33 → n ≤ 65535 → (channel : List ℤ) (t : Bits) → Subframe w n channel t → length t ≤ 2 ^ 50
subframe_length w n few small channel t (z, u, (type, x, y, most, below, wasted, body, is), same) =
    let a = wasted_length z x most wasted in
    let b = body_length (w - z) n type (omega arith) u y body in
    let c = length-append (bits 6 type) (x ++ y) in
    let d = length-append x y in
    let e = length-bits 6 type in
    let k : length t ≡ suc (length (bits 6 type ++ (x ++ y))) = ap length is in
    omega (arith, a, b, c, d, e, k, small)

-- ---- a frame

abbrev AtMost33 : ℕ → Type 0
AtMost33 w = w ≤ 33

subframes_length : (n : ℕ) → n ≤ 65535 → (ws : List ℕ) → AllOf AtMost33 ws → (coded : List (List ℤ)) (t : Bits) → EachWith (λ w. Subframe w n) ws coded t → length t ≤ 2 ^ 50 * length ws
subframes_length n small [] few [] t e = let k : length t ≡ 0 = ap length e in omega arith
subframes_length n small (w ∷ ws) few (a ∷ coded) t (u, v, c, cs, is) =
    let p = subframe_length w n few.0 small a u c in
    let q = subframes_length n small ws few.1 coded v cs in
    let e : length t ≡ length u + length v = ap length is ∙ length-append u v in
    omega (arith, p, q, e)
subframes_length n small _ few _ t c = absurd c

narrow : (ws : List ℕ) → AllOf UpTo32 ws → AllOf AtMost33 ws
unfolding UpTo32
narrow [] h = tt
narrow (w ∷ ws) h = let k : w ≤ 32 = h.0 in (omega arith, narrow ws h.1)

few_channels : (code w : ℕ) → length (bit_depths code w) ≤ 8
few_channels code w = go (ltb code 8) (eqb code 9) refl
  where
    go : (a b : Bool) → ltb code 8 ≡ a → length (cond a (replicate (code + 1) w) (cond b ((w + 1) ∷ w ∷ []) (w ∷ (w + 1) ∷ []))) ≤ 8
    go true b e =
        let len : length (replicate (code + 1) w) ≡ code + 1 = length-replicate (code + 1) w in
        let k = ltb-true _ _ e in
        omega (arith, len, k)
    go false true e = omega arith
    go false false e = omega arith

-- a frame has fewer than 2^51 bytes
pub frame_length : (stream : Option StreamFormat) → IsBitDepth (known_bit_depth stream) → (b : Block) (t : List ℕ) → Frame stream b t → length t < 2 ^ 51
frame_length stream known b t (x, (y, p, (h, coded, front, after, header, subframes, decorrelation, time, y-is), padding, x-is), t-is) =
    let w = bit_depths_are (known_bit_depth stream) h.fields.channel_code h.fields.bit_depth_code h.bit_depth known header.1 header.2 in
    let ws = bit_depths h.fields.channel_code h.bit_depth in
    let few = narrow ws (bit_depths_fit h.fields.channel_code h.bit_depth w.at_most_32 w.at_most_31) in
    let size = (fields_length h.fields header.0.0 header.0.1).1 in
    let a = header_length (known_bit_depth stream) h front header in
    let c = subframes_length h.fields.size size ws few coded after subframes in
    let d = few_channels h.fields.channel_code h.bit_depth in
    let e : length y ≡ length front + length after = ap length y-is ∙ length-append front after in
    let f : length x ≡ length y + length p = ap length x-is ∙ length-append y p in
    let g : length (bits_of t) ≡ length x + 16 = ap length t-is ∙ length-append x (bits 16 (crc16 x)) ∙ ap (λ (n : ℕ). length x + n) (length-bits 16 (crc16 x)) in
    let bytes = length-bits_of t in
    omega (arith, a, c, d, e, f, g, bytes, padding)
