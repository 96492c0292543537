-- A Rice code's number by shifts and an or, and zigzag decoding.
use Rattle.std.proofs.Common.{◌≡◌, ℕ, zero, suc, Bool, List, ◌∷◌, ◌++◌, length, take, drop, map, ◌+◌, ◌-◌, ◌*◌, ◌/◌, ◌%◌, ◌^◌, ◌<◌, ◌≤◌, ltb, false, refl, sym, ap, ◌∙◌, arith, inl, inr, ◌⊎◌, ℤ, pos, negsuc, to_z, of_z, w32, bit_or, bit_xor}
use Rattle.std.proofs.lemmas.Bool.{le-ltb}
use Rattle.std.proofs.lemmas.Nat.{and_mask, div-mul-add, mod-mul-add, mod_below, pow_pos, shl-shr, or_shifted}
use Rattle.std.proofs.lemmas.List.{length-map, length-take-le, take_at}
use Rattle.std.proofs.lemmas.Int.{ints, of_z-to_z}
use Rattle.std.specs.Int.Bits.{xor_add_and, xor_zero_r}
use Rattle.std.specs.Int.Signed.{shr_z}
use Rattle.claxon_format.specs.Bits.{Bits}
use Rattle.claxon_format.specs.read.Bits.{zigzag_decode, zigzag_encoded, number_at, unary_at, rice_code_at}
use Rattle.claxon_format.specs.read.Reading.{Reading, Done, Faulty, Incomplete, and_then, bind, done, each_at, times_at}
use Rattle.claxon_format.proofs.Numbers.{Reads-number}
use Rattle.claxon_format.proofs.RiceCodes.{parts}
use Rattle.claxon_input.proofs.ConsecutiveCalls.{StopsWith}
use Rattle.claxon_subframe.specs.RiceCodes.{decoded, encoded_code_at}

-- the quotient shifted, or the low bits
pub or_folded : (k q r : ℕ) → k ≤ 32 → r < 2 ^ k → bit_or (q * 2 ^ k % 4294967296) r ≡ zigzag_encoded k q r
or_folded k q r le small =
    let one : q * 2 ^ k % 2 ^ 32 ≡ (q % 2 ^ (32 - k)) * 2 ^ k
    = parts k (q * 2 ^ k) le ∙ ap (λ (m : ℕ). (m % 2 ^ (32 - k)) * 2 ^ k + q * 2 ^ k % 2 ^ k) (shl-shr q k) ∙ ap (λ (m : ℕ). (q % 2 ^ (32 - k)) * 2 ^ k + m) (mod_whole q k) ∙ omega arith in
    let two : zigzag_encoded k q r ≡ (q % 2 ^ (32 - k)) * 2 ^ k + r
    = parts k (q * 2 ^ k + r) le ∙ rw (div-mul-add q (2 ^ k) r small, mod-mul-add q (2 ^ k) r small) refl in
    ap (λ (m : ℕ). bit_or m r) one ∙ or_shifted (q % 2 ^ (32 - k)) k r small ∙ sym two
  where
    mod_whole : (q k : ℕ) → q * 2 ^ k % 2 ^ k ≡ 0
    mod_whole q k = ap (λ (m : ℕ). m % 2 ^ k) (omega arith) ∙ mod-mul-add q (2 ^ k) 0 (pow_pos k)

-- the zigzag-encoded number of the call and the remaining bits
pub encoded_code_from : (k q r : ℕ) (v : ℤ) (s m left : Bits) → k ≤ 30 → unary_at s ≡ Done q m → number_at k m ≡ Done r left → v ≡ to_z w32 (bit_or (q * 2 ^ k % 4294967296) r) → encoded_code_at k s ≡ Done v left
unfolding encoded_code_at
encoded_code_from k q r v s m left le first second v-is =
    let small : r < 2 ^ k = ((Reads-number k).takes m r left second).1.0 in
    rw (first, second) (ap (λ (y : ℤ). done y left) (sym (v-is ∙ ap (to_z w32) (or_folded k q r (omega arith) small))))

-- ---- zigzag decoding

xor_ones : (h : ℕ) → h < 2 ^ 31 → bit_xor h 4294967295 + h + 1 ≡ 4294967296
xor_ones h lt = omega (arith, xor_add_and h 4294967295, and_mask h 32)

even_or_odd : (v : ℕ) → (v ≡ 2 * (v / 2)) ⊎ (v ≡ 2 * (v / 2) + 1)
even_or_odd v = grind arith

to_z_high : (m h : ℕ) → m + h + 1 ≡ 4294967296 → h < 2147483648 → to_z w32 m ≡ negsuc h
to_z_high m h e lt =
    let high : ltb m 2147483648 ≡ false = le-ltb _ _ (omega arith) in
    rw high (ap negsuc (omega arith))

pub rice_is : (v : ℕ) (z : ℤ) → v < 2 ^ 32 → z ≡ to_z w32 (v * 2147483648 % 4294967296)
    → to_z w32 (bit_xor (v / 2) (of_z w32 (shr_z (to_z w32 (of_z w32 z)) 2147483648))) ≡ zigzag_decode v
rice_is v z lt e =
    elim (even_or_odd v) [
      | inl even ↦
          (let low : v * 2147483648 % 4294967296 ≡ 0 = omega arith in
          let z-is : z ≡ pos 0 = e ∙ ap (to_z w32) low in
          let parity : v % 2 ≡ 0 = omega arith in
          rw (z-is, parity, xor_zero_r (v / 2)) (omega (arith, ints)))
      | inr odd ↦
          (let low : v * 2147483648 % 4294967296 ≡ 2147483648 = omega arith in
          let z-is : z ≡ negsuc 2147483647 = e ∙ ap (to_z w32) low in
          let parity : v % 2 ≡ 1 = omega arith in
          let x : bit_xor (v / 2) 4294967295 + v / 2 + 1 ≡ 4294967296 = xor_ones (v / 2) (omega arith) in
          rw (z-is, parity) (to_z_high (bit_xor (v / 2) 4294967295) (v / 2) x (omega arith)))
    ]

-- ---- codes that are zigzag-decoded after they were read

-- what is read, with f of its value
abbrev pub mapped : {X A B : Type 0} → (A → B) → Reading X A → Reading X B
mapped f (Done a s) = Done (f a) s
mapped f (Faulty e s) = Faulty e s
mapped f Incomplete = Incomplete

-- a code is read as its encoded number is, and then decoded
pub rice_code_decoded : (k : ℕ) (s : Bits) → rice_code_at k s ≡ mapped decoded (encoded_code_at k s)
unfolding rice_code_at encoded_code_at
rice_code_decoded k s = first (unary_at s)
  where
    second : (q : ℕ) (r : Reading Bool ℕ) → bind r (λ n. done (zigzag_decode (zigzag_encoded k q n))) ≡ mapped decoded (bind r (λ n. done (to_z w32 (zigzag_encoded k q n))))
    second q (Done r m) = ap (λ (n : ℕ). Done (zigzag_decode n) m) (sym (of_z-to_z w32 (zigzag_encoded k q r) (mod_below (q * 2 ^ k + r) 4294967296 (omega arith))))
    second q (Faulty f m) = refl
    second q Incomplete = refl

    first : (r : Reading Bool ℕ) → bind r (λ q. and_then (number_at k) (λ n. done (zigzag_decode (zigzag_encoded k q n)))) ≡ mapped decoded (bind r (λ q. and_then (number_at k) (λ n. done (to_z w32 (zigzag_encoded k q n)))))
    first (Done q m) = second q (number_at k m)
    first (Faulty f m) = refl
    first Incomplete = refl

-- and so are several codes
pub codes_decoded : (k n : ℕ) (s : Bits) → times_at n (rice_code_at k) s ≡ mapped (map decoded) (times_at n (encoded_code_at k) s)
unfolding times_at each_at
codes_decoded k zero s = refl
codes_decoded k (suc n) s = rw (rice_code_decoded k s) (first (λ m. codes_decoded k n m) (encoded_code_at k s))
  where
    second : (x : ℤ) (r : Reading Bool (List ℤ)) → bind (mapped (map decoded) r) (λ xs. done (decoded x ∷ xs)) ≡ mapped (map decoded) (bind r (λ xs. done (x ∷ xs)))
    second x (Done xs m) = refl
    second x (Faulty f m) = refl
    second x Incomplete = refl

    first : ((m : Bits) → times_at n (rice_code_at k) m ≡ mapped (map decoded) (times_at n (encoded_code_at k) m)) → (r : Reading Bool ℤ) → bind (mapped decoded r) (λ x m. bind (times_at n (rice_code_at k) m) (λ xs. done (x ∷ xs))) ≡ mapped (map decoded) (bind r (λ x m. bind (times_at n (encoded_code_at k) m) (λ xs. done (x ∷ xs))))
    first others (Done x m) = ap (λ (r : Reading Bool (List ℤ)). bind r (λ xs. done (decoded x ∷ xs))) (others m) ∙ second x (times_at n (encoded_code_at k) m)
    first others (Faulty f m) = refl
    first others Incomplete = refl

pub codes_then_decoded : {read : ℕ} (k n : ℕ) (s : Bits) {m : Bits} {xs ys : List ℤ} → read ≡ k → times_at n (encoded_code_at read) s ≡ Done xs m → ys ≡ map decoded xs → times_at n (rice_code_at k) s ≡ Done ys m
codes_then_decoded k n s {m = m} same e is =
    codes_decoded k n s ∙ ap (λ (j : ℕ). mapped (map decoded) (times_at n (encoded_code_at j) s)) (sym same) ∙ ap (mapped (map decoded)) e ∙ ap (λ (l : List ℤ). Done l m) (sym is)

-- and they stop where their encoded numbers do
pub codes_stop : {read : ℕ} (k n : ℕ) → read ≡ k → StopsWith (times_at n (encoded_code_at read)) (times_at n (rice_code_at k))
codes_stop k n same = rw same (record {
  fault = λ s f rest e. codes_decoded k n s ∙ ap (mapped (map decoded)) e;
  incomplete = λ s e. codes_decoded k n s ∙ ap (mapped (map decoded)) e;
})

-- the encoded numbers at the front of the buffer, decoded in their place
pub decoded_front : {n : ℕ} (codes : ℕ) (xs ys : List ℤ) → n ≡ codes → codes ≤ length xs → ys ≡ map decoded (take n xs) → take codes (ys ++ drop n xs) ≡ map decoded (take codes xs)
decoded_front {n} codes xs ys same le e =
    let front : ys ≡ map decoded (take codes xs) = e ∙ ap (λ (k : ℕ). map decoded (take k xs)) same in
    let len : length ys ≡ codes = ap length front ∙ length-map (take codes xs) decoded ∙ length-take-le codes xs le in
    take_at ys (drop n xs) codes len ∙ front
