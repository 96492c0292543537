-- Bits in the high places of a cache of 64 bits, and bytes that are put below them.
use Rattle.std.proofs.Common.{⊎_elim, bit_or, bit_and, ◌≡◌, ℕ, suc, ◌+◌, ◌-◌, ◌*◌, ◌/◌, ◌%◌, ◌^◌, ◌<◌, ◌≤◌, false, true, List, [], ◌∷◌, ◌++◌, length, take, drop, get_or, replicate, refl, sym, ap, subst, ◌∙◌, append_assoc, arith, length-append, take-add, ap₂, mul_assoc, add-mul}
use Rattle.std.proofs.lemmas.List.{take_at, drop_at, take-take, drop-take, take-append-le, drop-append-le, length-take-le, take-append-drop, length-replicate, drop-drop, drop_more, length-drop, append-nil, take_all}
use Rattle.std.proofs.lemmas.Nat.{pow_pos, pow-add, shl-shr, shr-shr, shr_split, shr_below, or_shifted, mod-pow-add, mod-mul-add, shl_below, leading_top}
use Rattle.std.specs.Int.{leading_zeros, w64}
use Rattle.claxon_format.specs.Bits.{Bits, bits, bits_of}
use Rattle.claxon_format.proofs.Bytes.{bits_of-append, length-bits_of}
use Rattle.claxon_format.proofs.CodedNumber.{bits-add}
use Rattle.claxon_format.specs.read.Reading.{Done}
use Rattle.claxon_format.specs.read.Bits.{number_at, unary_at}
use Rattle.claxon_format.proofs.Numbers.{Reads-number, length-bits, mod_small}
use Rattle.claxon_format.proofs.RiceCodes.{Reads-unary}
use Rattle.std.proofs.Math.Nat.{pow-le-pow_right}
use Rattle.std.proofs.lemmas.Bool.{cases_lt}
use Rattle.claxon_input.proofs.BitLists.{bits-join, bits-low}
use Rattle.claxon_input.proofs.BitSteps.{small, one_at, mask}

-- ---- the first n of 64 bits, and the others

pub top_bits : (x n : ℕ) → n ≤ 64 → take n (bits 64 x) ≡ bits n (x / 2 ^ (64 - n))
top_bits x n h =
    let e : n + (64 - n) ≡ 64 = omega arith in
    subst (λ (w : ℕ). take n (bits w x) ≡ bits n (x / 2 ^ (64 - n))) e
    (ap (take n) (bits-add n (64 - n) x) ∙ take_at (bits n (x / 2 ^ (64 - n))) (bits (64 - n) x) n (length-bits n (x / 2 ^ (64 - n))))

pub low_bits : (x n : ℕ) → n ≤ 64 → drop n (bits 64 x) ≡ bits (64 - n) x
low_bits x n h =
    let e : n + (64 - n) ≡ 64 = omega arith in
    subst (λ (w : ℕ). drop n (bits w x) ≡ bits (64 - n) x) e
    (ap (drop n) (bits-add n (64 - n) x) ∙ drop_at (bits n (x / 2 ^ (64 - n))) (bits (64 - n) x) n (length-bits n (x / 2 ^ (64 - n))))

-- a multiple of 2 ^ p, also where it loses its upper bits
whole_mod : (c p : ℕ) → c * 2 ^ p % 2 ^ p ≡ 0
whole_mod c p = let e : c * 2 ^ p ≡ c * 2 ^ p + 0 = omega arith in ap (λ (m : ℕ). m % 2 ^ p) e ∙ mod-mul-add c (2 ^ p) 0 (pow_pos p)

whole_mod_twice : (c p q : ℕ) → c * 2 ^ p % 2 ^ (q + p) % 2 ^ p ≡ 0
whole_mod_twice c p q =
    let e : c * 2 ^ p % 2 ^ (q + p) ≡ (c * 2 ^ p / 2 ^ p % 2 ^ q) * 2 ^ p = mod-pow-add (c * 2 ^ p) q p ∙ ap (λ (m : ℕ). (c * 2 ^ p / 2 ^ p % 2 ^ q) * 2 ^ p + m) (whole_mod c p) ∙ omega arith in
    ap (λ (m : ℕ). m % 2 ^ p) e ∙ whole_mod (c * 2 ^ p / 2 ^ p % 2 ^ q) p

times_pow : (c i j : ℕ) → c * 2 ^ i * 2 ^ j ≡ c * 2 ^ (i + j)
times_pow c i j = mul_assoc c (2 ^ i) (2 ^ j) ∙ ap (λ (m : ℕ). c * m) (sym (pow-add 2 i j))

-- zeros in the low places
whole : (x p : ℕ) → x % 2 ^ p ≡ 0 → x ≡ x / 2 ^ p * 2 ^ p
whole x p h = sym (shr_split x p) ∙ ap (λ (m : ℕ). x / 2 ^ p * 2 ^ p + m) h ∙ omega arith

-- ---- bits that are consumed

shifted : (x n : ℕ) → n ≤ 64 → take (64 - n) (bits 64 (x * 2 ^ n % 18446744073709551616)) ≡ drop n (bits 64 x)
shifted x n h =
    let e : 64 - (64 - n) ≡ n = omega arith in
    ap (take (64 - n)) (bits-low 64 (x * 2 ^ n)) ∙ top_bits (x * 2 ^ n) (64 - n) (omega arith) ∙ ap (λ (m : ℕ). bits (64 - n) (x * 2 ^ n / 2 ^ m)) e
    ∙ ap (bits (64 - n)) (shl-shr x n) ∙ sym (low_bits x n h)

pub length_in_cache : (x count : ℕ) → count ≤ 64 → length (take count (bits 64 x)) ≡ count
length_in_cache x count h = length-take-le count (bits 64 x) (rw (length-bits 64 x) h)

pub taken_off : (x count n : ℕ) (m : Bits) → n ≤ count → count ≤ 64 → take (count - n) (bits 64 (x * 2 ^ n % 18446744073709551616)) ++ m ≡ drop n (take count (bits 64 x) ++ m)
taken_off x count n m h k =
    let len = length_in_cache x count k in
    let e : count ≡ n + (count - n) = omega arith in
    let one : take (count - n) (bits 64 (x * 2 ^ n % 18446744073709551616)) ≡ take (count - n) (drop n (bits 64 x))
    = sym (take-take (count - n) (64 - n) (bits 64 (x * 2 ^ n % 18446744073709551616)) (omega arith)) ∙ ap (take (count - n)) (shifted x n (omega arith)) in
    let two : drop n (take count (bits 64 x)) ≡ take (count - n) (drop n (bits 64 x)) = ap (λ (j : ℕ). drop n (take j (bits 64 x))) e ∙ drop-take n (count - n) (bits 64 x) in
    ap (λ (t : Bits). t ++ m) (one ∙ sym two) ∙ sym (drop-append-le n (take count (bits 64 x)) m (omega arith))

pub taken_fits : (x count n : ℕ) → n ≤ count → count ≤ 64 → x % 2 ^ (64 - count) ≡ 0 → x * 2 ^ n % 18446744073709551616 % 2 ^ (64 - (count - n)) ≡ 0
taken_fits x count n h k z =
    let e : 64 - count + n ≡ 64 - (count - n) = omega arith in
    let w : count - n + (64 - (count - n)) ≡ 64 = omega arith in
    let y : x * 2 ^ n ≡ x / 2 ^ (64 - count) * 2 ^ (64 - (count - n))
    = ap (λ (m : ℕ). m * 2 ^ n) (whole x (64 - count) z) ∙ times_pow (x / 2 ^ (64 - count)) (64 - count) n ∙ ap (λ (j : ℕ). x / 2 ^ (64 - count) * 2 ^ j) e in
    ap (λ (m : ℕ). m % 18446744073709551616 % 2 ^ (64 - (count - n))) y
    ∙ subst (λ (j : ℕ). x / 2 ^ (64 - count) * 2 ^ (64 - (count - n)) % 2 ^ j % 2 ^ (64 - (count - n)) ≡ 0) w (whole_mod_twice (x / 2 ^ (64 - count)) (64 - (count - n)) (count - n))

-- the first n are read from the cache
front_taken : (x count n : ℕ) (m : Bits) → n ≤ count → count ≤ 64 → take count (bits 64 x) ++ m ≡ take n (bits 64 x) ++ drop n (take count (bits 64 x) ++ m)
front_taken x count n m h k =
    let len = length_in_cache x count k in
    sym (take-append-drop n (take count (bits 64 x) ++ m))
    ∙ ap (λ (t : Bits). t ++ drop n (take count (bits 64 x) ++ m)) (take-append-le n (take count (bits 64 x)) m (omega arith) ∙ take-take n count (bits 64 x) h)

-- ---- the highest one

pub record HighestOne (x zeros : ℕ) : Type 0 where
  pub within : zeros < 64
  pub front : take (zeros + 1) (bits 64 x) ≡ replicate zeros false ++ true ∷ []

pub highest : (x : ℕ) → 0 < x → x < 18446744073709551616 → HighestOne x (leading_zeros w64 x)
highest x some lt =
    let (j, e, a, b) = leading_top 64 x some lt in
    let q : 64 - 1 - j ≡ leading_zeros w64 x = omega (arith, e) in
    let k : suc j ≡ j + 1 = omega arith in
    let all : bits 64 x ≡ replicate (64 - 1 - j) false ++ true ∷ bits j (x - 2 ^ j) = one_at x 64 j a (subst (λ (m : ℕ). x < 2 ^ m) k b) (omega (arith, e)) in
    let split : bits 64 x ≡ (replicate (leading_zeros w64 x) false ++ true ∷ []) ++ bits j (x - 2 ^ j)
    = all ∙ ap (λ (m : ℕ). replicate m false ++ true ∷ bits j (x - 2 ^ j)) q ∙ sym (append_assoc (replicate (leading_zeros w64 x) false) (true ∷ []) (bits j (x - 2 ^ j))) in
    let len : length (replicate (leading_zeros w64 x) false ++ true ∷ []) ≡ leading_zeros w64 x + 1 = length-append (replicate (leading_zeros w64 x) false) (true ∷ []) ∙ ap (λ (m : ℕ). m + 1) (length-replicate (leading_zeros w64 x) false) in
    record {
      within = omega (arith, e);
      front = ap (take (leading_zeros w64 x + 1)) split ∙ take_at (replicate (leading_zeros w64 x) false ++ true ∷ []) (bits j (x - 2 ^ j)) (leading_zeros w64 x + 1) len;
    }

-- the ones of a cache with zeros in its low places stand above those
pub one_in_cache : (x count : ℕ) → count ≤ 64 → 0 < x → x < 18446744073709551616 → x % 2 ^ (64 - count) ≡ 0 → leading_zeros w64 x + 1 ≤ count
one_in_cache x count h some lt fits =
    let (j, e, a, b) = leading_top 64 x some lt in
    ⊎_elim (λ (l : j < 64 - count).
    let p : 2 ^ suc j ≤ 2 ^ (64 - count) = pow-le-pow_right (omega arith) (omega arith) in
    let s : x % 2 ^ (64 - count) ≡ x = mod_small x (2 ^ (64 - count)) (omega arith) in absurd (omega arith))
    (λ (l : 64 - count ≤ j). omega (arith, e))
    (cases_lt j (64 - count))

pub unary_in_cache : (x count : ℕ) (m rest : Bits) → count ≤ 64 → 0 < x → x < 18446744073709551616 → x % 2 ^ (64 - count) ≡ 0
    → unary_at ((take count (bits 64 x) ++ m) ++ rest) ≡ Done (leading_zeros w64 x) (drop (leading_zeros w64 x + 1) (take count (bits 64 x) ++ m) ++ rest)
unary_in_cache x count m rest h some lt fits =
    let one = highest x some lt in
    let within : leading_zeros w64 x < 64 = one.within in
    let split : (take count (bits 64 x) ++ m) ++ rest ≡ (replicate (leading_zeros w64 x) false ++ true ∷ []) ++ (drop (leading_zeros w64 x + 1) (take count (bits 64 x) ++ m) ++ rest)
    = ap (λ (t : Bits). t ++ rest) (front_taken x count (leading_zeros w64 x + 1) m (one_in_cache x count h some lt fits) h ∙ ap (λ (t : Bits). t ++ drop (leading_zeros w64 x + 1) (take count (bits 64 x) ++ m)) one.front)
    ∙ append_assoc (replicate (leading_zeros w64 x) false ++ true ∷ []) (drop (leading_zeros w64 x + 1) (take count (bits 64 x) ++ m)) rest in
    ap unary_at split ∙ Reads-unary.again (leading_zeros w64 x) (replicate (leading_zeros w64 x) false ++ true ∷ []) (drop (leading_zeros w64 x + 1) (take count (bits 64 x) ++ m) ++ rest) (omega arith, refl)

-- ---- a number in the high places

half_on : (x n : ℕ) → n ≤ 63 → x / 2 / 2 ^ (63 - n) ≡ x / 2 ^ (64 - n)
half_on x n h = let e : 1 + (63 - n) ≡ 64 - n = omega arith in shr-shr x 1 (63 - n) ∙ ap (λ (j : ℕ). x / 2 ^ j) e

number_lt : (x n : ℕ) → n ≤ 63 → x < 18446744073709551616 → x / 2 / 2 ^ (63 - n) < 2 ^ n
number_lt x n h lt = let e : 64 ≡ n + (64 - n) = omega arith in rw (half_on x n h) (shr_below x n (64 - n) (subst (λ (j : ℕ). x < 2 ^ j) e lt))

pub number_fits : (x n : ℕ) → n ≤ 32 → x < 18446744073709551616 → x / 2 / 2 ^ (63 - n) < 4294967296
number_fits x n h lt = small (x / 2 / 2 ^ (63 - n)) n (number_lt x n (omega arith) lt) h

pub number_in_cache : (x count n : ℕ) (m rest : Bits) → n ≤ 32 → n ≤ count → count ≤ 64 → x < 18446744073709551616
    → number_at n ((take count (bits 64 x) ++ m) ++ rest) ≡ Done (x / 2 / 2 ^ (63 - n)) (drop n (take count (bits 64 x) ++ m) ++ rest)
number_in_cache x count n m rest few h k lt =
    let top : take n (bits 64 x) ≡ bits n (x / 2 / 2 ^ (63 - n)) = top_bits x n (omega arith) ∙ ap (bits n) (sym (half_on x n (omega arith))) in
    let split : (take count (bits 64 x) ++ m) ++ rest ≡ bits n (x / 2 / 2 ^ (63 - n)) ++ (drop n (take count (bits 64 x) ++ m) ++ rest)
    = ap (λ (t : Bits). t ++ rest) (front_taken x count n m h k ∙ ap (λ (t : Bits). t ++ drop n (take count (bits 64 x) ++ m)) top) ∙ append_assoc (bits n (x / 2 / 2 ^ (63 - n))) (drop n (take count (bits 64 x) ++ m)) rest in
    ap (number_at n) split ∙ (Reads-number n).again (x / 2 / 2 ^ (63 - n)) (bits n (x / 2 / 2 ^ (63 - n))) (drop n (take count (bits 64 x) ++ m) ++ rest) (number_lt x n (omega arith) lt, refl)

-- ---- bytes that are put below

below_cache : (y count : ℕ) → count ≤ 64 → y < 18446744073709551616 → y / 2 ^ count < 2 ^ (64 - count)
below_cache y count k lt = let f : 64 ≡ 64 - count + count = omega arith in shr_below y (64 - count) count (subst (λ (j : ℕ). y < 2 ^ j) f lt)

put_sum : (x count y : ℕ) → count ≤ 64 → x % 2 ^ (64 - count) ≡ 0 → y < 18446744073709551616 → bit_or x (y / 2 ^ count) ≡ x / 2 ^ (64 - count) * 2 ^ (64 - count) + y / 2 ^ count
put_sum x count y k z lt =
    ap (λ (t : ℕ). bit_or t (y / 2 ^ count)) (whole x (64 - count) z) ∙ or_shifted (x / 2 ^ (64 - count)) (64 - count) (y / 2 ^ count) (below_cache y count k lt)

-- m bits of y go below the cache's
pub put_below : (x count y m : ℕ) → m ≤ 64 - count → count ≤ 64 → x % 2 ^ (64 - count) ≡ 0 → y < 18446744073709551616
    → take (count + m) (bits 64 (bit_or x (y / 2 ^ count))) ≡ take count (bits 64 x) ++ take m (bits 64 y)
put_below x count y m h k z lt =
    let e : count + (64 - count) ≡ 64 = omega arith in
    let g : 64 - (64 - count) ≡ count = omega arith in
    let l = below_cache y count k lt in
    let all : bits 64 (bit_or x (y / 2 ^ count)) ≡ bits count (x / 2 ^ (64 - count)) ++ bits (64 - count) (y / 2 ^ count)
    = ap (bits 64) (put_sum x count y k z lt) ∙ subst (λ (w : ℕ). bits w (x / 2 ^ (64 - count) * 2 ^ (64 - count) + y / 2 ^ count) ≡ bits count (x / 2 ^ (64 - count)) ++ bits (64 - count) (y / 2 ^ count)) e (bits-join (x / 2 ^ (64 - count)) (y / 2 ^ count) count (64 - count) l) in
    let low : bits (64 - count) (y / 2 ^ count) ≡ take (64 - count) (bits 64 y) = ap (λ (j : ℕ). bits (64 - count) (y / 2 ^ j)) (sym g) ∙ sym (top_bits y (64 - count) (omega arith)) in
    let len = length-bits count (x / 2 ^ (64 - count)) in
    ap (take (count + m)) all ∙ take-add count m (bits count (x / 2 ^ (64 - count)) ++ bits (64 - count) (y / 2 ^ count))
    ∙ rw (take_at (bits count (x / 2 ^ (64 - count))) (bits (64 - count) (y / 2 ^ count)) count len, drop_at (bits count (x / 2 ^ (64 - count))) (bits (64 - count) (y / 2 ^ count)) count len, low, take-take m (64 - count) (bits 64 y) h, ← top_bits x count k) refl

pub put_fits : (x count y m : ℕ) → m ≤ 64 - count → count ≤ 64 → x % 2 ^ (64 - count) ≡ 0 → y < 18446744073709551616 → y % 2 ^ (64 - m) ≡ 0 → bit_or x (y / 2 ^ count) % 2 ^ (64 - (count + m)) ≡ 0
put_fits x count y m h k z lt low =
    let e : 64 - m ≡ 64 - (count + m) + count = omega arith in
    let f : 64 - count ≡ m + (64 - (count + m)) = omega arith in
    let d : y / 2 ^ count ≡ y / 2 ^ (64 - m) * 2 ^ (64 - (count + m))
    = ap (λ (t : ℕ). t / 2 ^ count) (whole y (64 - m) low ∙ ap (λ (j : ℕ). y / 2 ^ (64 - m) * 2 ^ j) e ∙ sym (times_pow (y / 2 ^ (64 - m)) (64 - (count + m)) count)) ∙ shl-shr (y / 2 ^ (64 - m) * 2 ^ (64 - (count + m))) count in
    let c : x / 2 ^ (64 - count) * 2 ^ (64 - count) ≡ x / 2 ^ (64 - count) * 2 ^ m * 2 ^ (64 - (count + m))
    = ap (λ (j : ℕ). x / 2 ^ (64 - count) * 2 ^ j) f ∙ sym (times_pow (x / 2 ^ (64 - count)) m (64 - (count + m))) in
    let sum : bit_or x (y / 2 ^ count) ≡ (x / 2 ^ (64 - count) * 2 ^ m + y / 2 ^ (64 - m)) * 2 ^ (64 - (count + m)) = put_sum x count y k z lt ∙ ap₂ (λ (s t : ℕ). s + t) c d ∙ sym (add-mul (x / 2 ^ (64 - count) * 2 ^ m) (y / 2 ^ (64 - m)) (2 ^ (64 - (count + m)))) in
    ap (λ (t : ℕ). t % 2 ^ (64 - (count + m))) sum ∙ whole_mod (x / 2 ^ (64 - count) * 2 ^ m + y / 2 ^ (64 - m)) (64 - (count + m))

-- a cache that has m more of the bits after it
pub more_in_cache : (x count w m : ℕ) (read after left : Bits) → take (count + m) (bits 64 w) ≡ take count (bits 64 x) ++ take m read → take m read ≡ take m after → left ≡ drop m after
    → take (count + m) (bits 64 w) ++ left ≡ take count (bits 64 x) ++ after
more_in_cache x count w m read after left e f g =
    rw (e, f, g) (append_assoc (take count (bits 64 x)) (take m after) (drop m after) ∙ ap (λ (t : Bits). take count (bits 64 x) ++ t) (take-append-drop m after))

bytes_cut : (j : ℕ) (d : List ℕ) → bits_of d ≡ bits_of (take j d) ++ bits_of (drop j d)
bytes_cut j d = ap bits_of (sym (take-append-drop j d)) ∙ bits_of-append (take j d) (drop j d)

length_bytes : (j : ℕ) (d : List ℕ) → j ≤ length d → length (bits_of (take j d)) ≡ 8 * j
length_bytes j d h = length-bits_of (take j d) ∙ ap (λ (m : ℕ). 8 * m) (length-take-le j d h)

-- bits of the first j bytes
bytes_front : (m j : ℕ) (d : List ℕ) → m ≤ 8 * j → j ≤ length d → take m (bits_of (take j d)) ≡ take m (bits_of d)
bytes_front m j d h k = let len = length_bytes j d k in sym (ap (take m) (bytes_cut j d) ∙ take-append-le m (bits_of (take j d)) (bits_of (drop j d)) (omega arith))

pub bytes_after : (at m j : ℕ) (bytes : List ℕ) → m ≡ 8 * j → at + j ≤ length bytes → bits_of (drop (at + j) bytes) ≡ drop m (bits_of (drop at bytes))
bytes_after at m j bytes e h =
    let k : j ≤ length (drop at bytes) = omega (arith, length-drop at bytes) in
    let len : length (bits_of (take j (drop at bytes))) ≡ m = length_bytes j (drop at bytes) k ∙ sym e in
    ap bits_of (sym (drop-drop j at bytes)) ∙ sym (ap (drop m) (bytes_cut j (drop at bytes)) ∙ drop_at (bits_of (take j (drop at bytes))) (bits_of (drop j (drop at bytes))) m len)

-- ---- numbers of some bytes

one_byte : (bytes : List ℕ) (i n : ℕ) → i < length bytes → take (suc n) (drop i bytes) ≡ get_or bytes i 0 ∷ take n (drop (i + 1) bytes)
one_byte bytes i n h = ap (take (suc n)) (drop_more bytes i 0 h)

pub bits_of_four : (bytes : List ℕ) (i n : ℕ) → i + 4 ≤ length bytes → ((k : ℕ) → get_or bytes k 0 < 256)
    → n ≡ ((get_or bytes i 0 * 256 + get_or bytes (i + 1) 0) * 256 + get_or bytes (i + 2) 0) * 256 + get_or bytes (i + 3) 0 → bits 32 n ≡ bits_of (take 4 (drop i bytes))
unfolding bits_of
bits_of_four bytes i n h small e =
    let p : i + 1 + 1 ≡ i + 2 = omega arith in
    let q : i + 2 + 1 ≡ i + 3 = omega arith in
    let part : take 4 (drop i bytes) ≡ get_or bytes i 0 ∷ get_or bytes (i + 1) 0 ∷ get_or bytes (i + 2) 0 ∷ get_or bytes (i + 3) 0 ∷ []
    = one_byte bytes i 3 (omega arith) ∙ ap (λ (t : List ℕ). get_or bytes i 0 ∷ t) (one_byte bytes (i + 1) 2 (omega arith) ∙ ap (λ (t : List ℕ). get_or bytes (i + 1) 0 ∷ t) (
    ap (λ (j : ℕ). take 2 (drop j bytes)) p ∙ one_byte bytes (i + 2) 1 (omega arith) ∙ ap (λ (t : List ℕ). get_or bytes (i + 2) 0 ∷ t) (
    ap (λ (j : ℕ). take 1 (drop j bytes)) q ∙ one_byte bytes (i + 3) 0 (omega arith)))) in
    let a : ℕ = get_or bytes i 0 in
    let b : ℕ = get_or bytes (i + 1) 0 in
    let c : ℕ = get_or bytes (i + 2) 0 in
    let d : ℕ = get_or bytes (i + 3) 0 in
    rw (e, part, bits-join ((a * 256 + b) * 256 + c) d 24 8 (small (i + 3)), bits-join (a * 256 + b) c 16 8 (small (i + 2)), bits-join a b 8 8 (small (i + 1)))
    (simp (append_assoc, append-nil))

-- eight are four and four
pub bits_of_eight : (bytes : List ℕ) (i n : ℕ) → i + 8 ≤ length bytes → ((k : ℕ) → get_or bytes k 0 < 256)
    → n ≡ (((get_or bytes i 0 * 256 + get_or bytes (i + 1) 0) * 256 + get_or bytes (i + 2) 0) * 256 + get_or bytes (i + 3) 0) * 4294967296 + (((get_or bytes (i + 4) 0 * 256 + get_or bytes (i + 5) 0) * 256 + get_or bytes (i + 6) 0) * 256 + get_or bytes (i + 7) 0)
    → bits 64 n ≡ bits_of (take 8 (drop i bytes))
bits_of_eight bytes i n h small e =
    let p : i + 4 + 1 ≡ i + 5 = omega arith in
    let q : i + 4 + 2 ≡ i + 6 = omega arith in
    let r : i + 4 + 3 ≡ i + 7 = omega arith in
    let a : ℕ = ((get_or bytes i 0 * 256 + get_or bytes (i + 1) 0) * 256 + get_or bytes (i + 2) 0) * 256 + get_or bytes (i + 3) 0 in
    let b : ℕ = ((get_or bytes (i + 4) 0 * 256 + get_or bytes (i + 5) 0) * 256 + get_or bytes (i + 6) 0) * 256 + get_or bytes (i + 7) 0 in
    let lt : ((get_or bytes (i + 4) 0 * 256 + get_or bytes (i + 5) 0) * 256 + get_or bytes (i + 6) 0) * 256 + get_or bytes (i + 7) 0 < 4294967296 = omega (arith, small (i + 4), small (i + 5), small (i + 6), small (i + 7)) in
    let first : bits 32 a ≡ bits_of (take 4 (drop i bytes)) = bits_of_four bytes i a (omega arith) small refl in
    let second : bits 32 b ≡ bits_of (take 4 (drop (i + 4) bytes)) = bits_of_four bytes (i + 4) b (omega arith) small (rw (p, q, r) refl) in
    let parts : take 8 (drop i bytes) ≡ take 4 (drop i bytes) ++ take 4 (drop (i + 4) bytes) = take-add 4 4 (drop i bytes) ∙ ap (λ (t : List ℕ). take 4 (drop i bytes) ++ take 4 t) (drop-drop 4 i bytes) in
    ap (bits 64) e ∙ bits-join a b 32 32 lt ∙ ap₂ (λ (s t : Bits). s ++ t) first second ∙ sym (bits_of-append (take 4 (drop i bytes)) (take 4 (drop (i + 4) bytes))) ∙ ap bits_of (sym parts)

-- the first bits of a number of four bytes, in the high places; of one of eight
pub top_of_four : (n : ℕ) (d : List ℕ) → n < 4294967296 → 4 ≤ length d → bits 32 n ≡ bits_of (take 4 d) → take 32 (bits 64 (n * 4294967296 % 18446744073709551616)) ≡ take 32 (bits_of d)
top_of_four n d lt h e =
    let back : n * 4294967296 % 18446744073709551616 / 4294967296 ≡ n = omega arith in
    top_bits (n * 4294967296 % 18446744073709551616) 32 (omega arith) ∙ ap (bits 32) back ∙ sym (take_all 32 (bits 32 n) (omega (arith, length-bits 32 n))) ∙ ap (take 32) e ∙ bytes_front 32 4 d (omega arith) h

pub top_of_eight : (n m : ℕ) (d : List ℕ) → m ≤ 64 → 8 ≤ length d → bits 64 n ≡ bits_of (take 8 d) → take m (bits 64 n) ≡ take m (bits_of d)
top_of_eight n m d k h e = ap (take m) e ∙ bytes_front m 8 d k h

-- ---- a peek at 64 bits, the last ones of which aren't kept in the cache

low_zeroed : (w s : ℕ) → s < 64 → (take (64 - s) (bits 64 (w - bit_and w (1 * 2 ^ s % 18446744073709551616 - 1))) ≡ take (64 - s) (bits 64 w)) × ((w - bit_and w (1 * 2 ^ s % 18446744073709551616 - 1)) % 2 ^ s ≡ 0)
low_zeroed w s h =
    let g : 64 - (64 - s) ≡ s = omega arith in
    let e : w - bit_and w (1 * 2 ^ s % 18446744073709551616 - 1) ≡ w / 2 ^ s * 2 ^ s = rw (mask w s h) (omega (arith, shr_split w s)) in
    let one = top_bits (w / 2 ^ s * 2 ^ s) (64 - s) (omega arith) in
    let two = top_bits w (64 - s) (omega arith) in
    rw e (
      one ∙ rw (g, shl-shr (w / 2 ^ s) s) refl ∙ sym (two ∙ ap (λ (j : ℕ). bits (64 - s) (w / 2 ^ j)) g),
      whole_mod (w / 2 ^ s) s,
    )

-- the cache and eight bytes have the next 64 bits
pub peek_next : (x count y at : ℕ) (bytes : List ℕ) → count < 64 → x % 2 ^ (64 - count) ≡ 0 → y < 18446744073709551616 → at + 8 ≤ length bytes → bits 64 y ≡ bits_of (take 8 (drop at bytes))
    → take count (bits 64 x) ++ bits_of (drop at bytes) ≡ bits 64 (bit_or x (y / 2 ^ count)) ++ drop (64 - count) (bits_of (drop at bytes))
peek_next x count y at bytes lt fits small h e =
    let some : 8 ≤ length (drop at bytes) = omega (arith, length-drop at bytes) in
    let all : count + (64 - count) ≡ 64 = omega arith in
    let more = more_in_cache x count (bit_or x (y / 2 ^ count)) (64 - count) (bits 64 y) (bits_of (drop at bytes)) (drop (64 - count) (bits_of (drop at bytes)))
    (put_below x count y (64 - count) (omega arith) (omega arith) fits small) (top_of_eight y (64 - count) (drop at bytes) (omega arith) some e) refl in
    sym more ∙ ap (λ (j : ℕ). take j (bits 64 (bit_or x (y / 2 ^ count))) ++ drop (64 - count) (bits_of (drop at bytes))) all
    ∙ ap (λ (t : Bits). t ++ drop (64 - count) (bits_of (drop at bytes))) (take_all 64 (bits 64 (bit_or x (y / 2 ^ count))) (omega (arith, length-bits 64 (bit_or x (y / 2 ^ count)))))

-- whole bytes are kept of it
pub peek_kept : (x count y at w : ℕ) (bytes : List ℕ) → count < 64 → x % 2 ^ (64 - count) ≡ 0 → y < 18446744073709551616 → at + 8 ≤ length bytes → bits 64 y ≡ bits_of (take 8 (drop at bytes)) → w ≡ bit_or x (y / 2 ^ count)
    → take (56 + count % 8) (bits 64 (w - bit_and w (1 * 2 ^ (8 - count % 8) % 18446744073709551616 - 1))) ++ bits_of (drop (at + (56 - (count - count % 8)) / 8) bytes) ≡ take count (bits 64 x) ++ bits_of (drop at bytes)
peek_kept x count y at w bytes lt fits small h e is =
    let some : 8 ≤ length (drop at bytes) = omega (arith, length-drop at bytes) in
    let kept : 64 - (8 - count % 8) ≡ 56 + count % 8 = omega arith in
    let sum : 56 + count % 8 ≡ count + (56 - (count - count % 8)) = omega arith in
    let zeroed = (low_zeroed w (8 - count % 8) (omega arith)).0 in
    let one : take (56 + count % 8) (bits 64 (w - bit_and w (1 * 2 ^ (8 - count % 8) % 18446744073709551616 - 1))) ≡ take (count + (56 - (count - count % 8))) (bits 64 (bit_or x (y / 2 ^ count)))
    = subst (λ (j : ℕ). take j (bits 64 (w - bit_and w (1 * 2 ^ (8 - count % 8) % 18446744073709551616 - 1))) ≡ take j (bits 64 w)) kept zeroed ∙ ap₂ (λ (j v : ℕ). take j (bits 64 v)) sum is in
    ap (λ (t : Bits). t ++ bits_of (drop (at + (56 - (count - count % 8)) / 8) bytes)) one
    ∙ more_in_cache x count (bit_or x (y / 2 ^ count)) (56 - (count - count % 8)) (bits 64 y) (bits_of (drop at bytes)) (bits_of (drop (at + (56 - (count - count % 8)) / 8) bytes))
    (put_below x count y (56 - (count - count % 8)) (omega arith) (omega arith) fits small)
    (top_of_eight y (56 - (count - count % 8)) (drop at bytes) (omega arith) some e)
    (bytes_after at (56 - (count - count % 8)) ((56 - (count - count % 8)) / 8) bytes (omega arith) (omega arith))

pub peek_fits : (w count : ℕ) → (w - bit_and w (1 * 2 ^ (8 - count % 8) % 18446744073709551616 - 1)) % 2 ^ (64 - (56 + count % 8)) ≡ 0
peek_fits w count =
    let kept : 8 - count % 8 ≡ 64 - (56 + count % 8) = omega arith in
    subst (λ (j : ℕ). (w - bit_and w (1 * 2 ^ (8 - count % 8) % 18446744073709551616 - 1)) % 2 ^ j ≡ 0) kept (low_zeroed w (8 - count % 8) (omega arith)).1

-- ---- a cache of the last bits that a `Bitstream` has left over

pub moved_up : (cache count : ℕ) → cache < 2 ^ count → count < 64 → cache * 2 ^ (63 - count) % 18446744073709551616 * 2 % 18446744073709551616 ≡ cache * 2 ^ (64 - count)
moved_up cache count h k =
    let e : count + (63 - count) ≡ 63 = omega arith in
    let f : 63 - count + 1 ≡ 64 - count = omega arith in
    let lt : cache * 2 ^ (63 - count) < 9223372036854775808 = subst (λ (j : ℕ). cache * 2 ^ (63 - count) < 2 ^ j) e (shl_below cache count (63 - count) h) in
    let one : cache * 2 ^ (63 - count) % 18446744073709551616 * 2 % 18446744073709551616 ≡ cache * 2 ^ (63 - count) * 2 ^ 1 = omega arith in
    one ∙ times_pow cache (63 - count) 1 ∙ ap (λ (j : ℕ). cache * 2 ^ j) f

pub moved_bits : (cache count : ℕ) → cache < 2 ^ count → count < 64 → take count (bits 64 (cache * 2 ^ (63 - count) % 18446744073709551616 * 2 % 18446744073709551616)) ≡ bits count cache
moved_bits cache count h k =
    ap (λ (x : ℕ). take count (bits 64 x)) (moved_up cache count h k) ∙ top_bits (cache * 2 ^ (64 - count)) count (omega arith) ∙ ap (bits count) (shl-shr cache (64 - count))

pub moved_fits : (cache count : ℕ) → cache < 2 ^ count → count < 64 → cache * 2 ^ (63 - count) % 18446744073709551616 * 2 % 18446744073709551616 % 2 ^ (64 - count) ≡ 0
moved_fits cache count h k = ap (λ (x : ℕ). x % 2 ^ (64 - count)) (moved_up cache count h k) ∙ whole_mod cache (64 - count)

-- ---- where a count, or what is shifted, is another term of the same value

pub taken_off_as : {k : ℕ} (x count n : ℕ) (m : Bits) → k ≡ n → n ≤ count → count ≤ 64 → take (count - n) (bits 64 (x * 2 ^ k % 18446744073709551616)) ++ m ≡ drop n (take count (bits 64 x) ++ m)
taken_off_as x count n m e h l = rw e (taken_off x count n m h l)

pub taken_fits_as : {k : ℕ} (x count n : ℕ) → k ≡ n → n ≤ count → count ≤ 64 → x % 2 ^ (64 - count) ≡ 0 → x * 2 ^ k % 18446744073709551616 % 2 ^ (64 - (count - n)) ≡ 0
taken_fits_as x count n e h l d = rw e (taken_fits x count n h l d)

pub moved_bits_as : {x : ℕ} (cache count : ℕ) → x ≡ cache → cache < 2 ^ count → count < 64 → take count (bits 64 (x * 2 ^ (63 - count) % 18446744073709551616 * 2 % 18446744073709551616)) ≡ bits count cache
moved_bits_as cache count e h l = rw e (moved_bits cache count h l)

pub done_as : {X A : Type 0} {x y : A} {s t : List X} → x ≡ y → s ≡ t → Done x s ≡ Done y t
done_as e f = rw (e, f) refl
