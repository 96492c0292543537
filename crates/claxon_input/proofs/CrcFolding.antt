-- Folding: words that are XORed into later words, so that the CRC stays.
use Rattle.std.proofs.Common.{◌≡◌, ℕ, zero, suc, append_assoc, ◌+◌, ◌-◌, ◌*◌, ◌/◌, ◌%◌, ◌^◌, ◌<◌, ◌≤◌, bit_xor, List, [], ◌∷◌, ◌++◌, length, get_or, set, take, drop, replicate, refl, sym, ap, ap₂, ◌∙◌, arith, w64}
use Rattle.std.specs.Int.{to_le_bytes}
use Rattle.std.specs.List.{flat_map}
use Rattle.std.specs.Simd.{first_chunks}
use Rattle.std.specs.Int.Bits.{xor_assoc, xor_shifted}
use Rattle.std.proofs.lemmas.Nat.{pow-add, xor_comm, xor_lt, xor_shr, xor_mod}
use Rattle.std.proofs.Math.Nat.{add_comm, pow-le-pow_right}
use Rattle.std.proofs.lemmas.List.{drop_more, length-append, length-set, length-drop, take-take, drop-take, take-append-drop, take_more, take_more_set, append-nil}
use Rattle.std.proofs.lemmas.Grind.{flat_map-append}
use Rattle.claxon_format.specs.Crc.{divide, divide_step}
use Rattle.claxon_format.proofs.Division.{zeros, zeros-add, zeros_swap, same_from_xor}
use Rattle.claxon_input.specs.CrcUpdate.{update_crc, update_crc16, after_zeros}
use Rattle.claxon_input.proofs.CrcUpdate.{update_crc-append, zeros16-xor, zeros16_lt, zeros16-small, byte-xor, update_crc_lt, shares, apart, from_none, none_more, absorbed, piece_at}

-- ---- XOR

xor_last_but_one : (a b c : ℕ) → bit_xor (bit_xor a b) c ≡ bit_xor (bit_xor a c) b
xor_last_but_one a b c = xor_assoc a b c ∙ ap (bit_xor a) (xor_comm b c) ∙ sym (xor_assoc a c b)

xor_of_pairs : (a b c d : ℕ) → bit_xor (bit_xor a b) (bit_xor c d) ≡ bit_xor (bit_xor a c) (bit_xor b d)
xor_of_pairs a b c d =
    sym (xor_assoc (bit_xor a b) c d) ∙ ap (λ z. bit_xor z d) (xor_last_but_one a b c) ∙ xor_assoc (bit_xor a c) b d

-- ---- a CRC that begins with 0

-- the CRC of bytes, and of words
abbrev pub crc_of : List ℕ → ℕ
crc_of = update_crc16 0

abbrev pub word_bytes : List ℕ → List ℕ
word_bytes = flat_map (to_le_bytes w64)

crc_is_shares : (xs : List ℕ) → crc_of xs ≡ shares 0 xs
crc_is_shares xs = sym (none_more (crc_of xs)) ∙ from_none 0 xs

crc_lt : (xs : List ℕ) → crc_of xs < 65536
crc_lt xs = update_crc_lt 16 0x18005 (omega arith) (omega arith) (omega arith) xs 0 (omega arith) (omega arith)

pub crc-append : (xs ys : List ℕ) → crc_of (xs ++ ys) ≡ bit_xor (after_zeros (length ys) (crc_of xs)) (crc_of ys)
crc-append xs ys =
    sym (update_crc-append 16 0x18005 xs ys 0) ∙ sym (none_more (update_crc16 (crc_of xs) ys)) ∙ apart 0 ys (crc_of xs) (crc_lt xs)
    ∙ ap₂ (λ n z. bit_xor (after_zeros n (crc_of xs)) z) (omega arith) (sym (crc_is_shares ys))

after_zeros-add : (j k z : ℕ) → after_zeros (j + k) z ≡ after_zeros k (after_zeros j z)
after_zeros-add j k z =
    let e : 8 * (j + k) ≡ 8 * j + 8 * k = omega arith in
    ap (λ n. zeros 16 0x18005 n z) e ∙ zeros-add 16 0x18005 (8 * j) (8 * k) z

-- ---- words

-- k bytes of a number, from byte j on
unfoldable bytes_from : ℕ → ℕ → ℕ → List ℕ
bytes_from zero j n = []
bytes_from (suc k) j n = n / 2 ^ (8 * j) % 256 ∷ bytes_from k (j + 1) n

length-bytes_from : (k j n : ℕ) → length (bytes_from k j n) ≡ k
unfolding bytes_from
length-bytes_from zero j n = refl
length-bytes_from (suc k) j n = ap suc (length-bytes_from k (j + 1) n)

word_is : (n : ℕ) → to_le_bytes w64 n ≡ bytes_from 8 0 n
unfolding bytes_from
word_is n = let e : n % 256 ≡ n / 1 % 256 = omega arith in ap (λ y. y ∷ bytes_from 7 1 n) e

shares-xor : (k j a b : ℕ) → shares 0 (bytes_from k j (bit_xor a b)) ≡ bit_xor (shares 0 (bytes_from k j a)) (shares 0 (bytes_from k j b))
unfolding bytes_from shares
shares-xor zero j a b = refl
shares-xor (suc k) j a b =
    let byte = λ (n : ℕ). n / 2 ^ (8 * j) % 256 in
    let top = λ (n : ℕ). after_zeros (suc k) (byte n * 256) in
    let head : (n : ℕ) → after_zeros (0 + suc (length (bytes_from k (j + 1) n))) (byte n % 256 * 256) ≡ top n =
    λ n. let e : 0 + suc (length (bytes_from k (j + 1) n)) ≡ suc k = omega (arith, length-bytes_from k (j + 1) n) in
    let m : byte n % 256 ≡ byte n = omega arith in ap₂ (λ i z. after_zeros i (z * 256)) e m in
    let xored : top (bit_xor a b) ≡ bit_xor (top a) (top b) =
    ap (λ z. after_zeros (suc k) (z % 256 * 256)) (xor_shr a b (8 * j))
    ∙ ap (λ z. after_zeros (suc k) (z * 256)) (xor_mod (a / 2 ^ (8 * j)) (b / 2 ^ (8 * j)) 8) ∙ ap (after_zeros (suc k)) (sym (byte-xor (byte a) (byte b)))
    ∙ zeros16-xor (8 * suc k) (byte a * 256) (byte b * 256) (omega arith) (omega arith) in
    ap₂ bit_xor (head (bit_xor a b) ∙ xored) (shares-xor k (j + 1) a b)
    ∙ xor_of_pairs (top a) (top b) (shares 0 (bytes_from k (j + 1) a)) (shares 0 (bytes_from k (j + 1) b))
    ∙ sym (ap₂ bit_xor (ap₂ bit_xor (head a) refl) (ap₂ bit_xor (head b) refl))

-- the CRC of a word
abbrev pub word_crc : ℕ → ℕ
word_crc w = crc_of (to_le_bytes w64 w)

word_crc-xor : (a b : ℕ) → word_crc (bit_xor a b) ≡ bit_xor (word_crc a) (word_crc b)
word_crc-xor a b =
    let is : (w : ℕ) → word_crc w ≡ shares 0 (bytes_from 8 0 w) = λ w. crc_is_shares (to_le_bytes w64 w) ∙ ap (shares 0) (word_is w) in
    is (bit_xor a b) ∙ shares-xor 8 0 a b ∙ sym (ap₂ bit_xor (is a) (is b))

pub length-word_bytes : (ws : List ℕ) → length (word_bytes ws) ≡ 8 * length ws
length-word_bytes [] = refl
length-word_bytes (w ∷ ws) = omega (arith, length-word_bytes ws, length-append (to_le_bytes w64 w) (word_bytes ws))

-- the CRC of words
abbrev pub words_crc : List ℕ → ℕ
words_crc ws = crc_of (word_bytes ws)

words_crc-cons : (w : ℕ) (ws : List ℕ) → words_crc (w ∷ ws) ≡ bit_xor (after_zeros (8 * length ws) (word_crc w)) (words_crc ws)
words_crc-cons w ws =
    crc-append (to_le_bytes w64 w) (word_bytes ws) ∙ ap (λ n. bit_xor (after_zeros n (word_crc w)) (words_crc ws)) (length-word_bytes ws)

-- a word is XORed into one of the words: what it adds is added
xored_into : (ws : List ℕ) (k x : ℕ) → k < length ws → words_crc (set ws k (bit_xor (get_or ws k 0) x)) ≡ bit_xor (words_crc ws) (after_zeros (8 * (length ws - suc k)) (word_crc x))
xored_into [] k x h = absurd (omega arith)
xored_into (w ∷ ws) zero x h =
    let n = 8 * length ws in
    let e : 8 * (length (w ∷ ws) - 1) ≡ n = omega arith in
    words_crc-cons (bit_xor w x) ws
    ∙ ap (λ z. bit_xor z (words_crc ws)) (ap (after_zeros n) (word_crc-xor w x) ∙ zeros16-xor (8 * n) (word_crc w) (word_crc x) (crc_lt (to_le_bytes w64 w)) (crc_lt (to_le_bytes w64 x)))
    ∙ xor_last_but_one (after_zeros n (word_crc w)) (after_zeros n (word_crc x)) (words_crc ws)
    ∙ ap₂ bit_xor (sym (words_crc-cons w ws)) (sym (ap (λ m. after_zeros m (word_crc x)) e))
xored_into (w ∷ ws) (suc k) x h =
    let ws' = set ws k (bit_xor (get_or ws k 0) x) in
    let n = 8 * length ws in
    let e : 8 * (length (w ∷ ws) - suc (suc k)) ≡ 8 * (length ws - suc k) = omega arith in
    words_crc-cons w ws'
    ∙ ap₂ (λ m z. bit_xor (after_zeros (8 * m) (word_crc w)) z) (length-set ws k _) (xored_into ws k x (omega arith))
    ∙ sym (xor_assoc (after_zeros n (word_crc w)) (words_crc ws) (after_zeros (8 * (length ws - suc k)) (word_crc x)))
    ∙ ap₂ bit_xor (sym (words_crc-cons w ws)) (sym (ap (λ m. after_zeros m (word_crc x)) e))

-- the same among the words from an index on
xored_after : (j : ℕ) (ws : List ℕ) (k x : ℕ) → j ≤ k → k < length ws
    → words_crc (drop j (set ws k (bit_xor (get_or ws k 0) x))) ≡ bit_xor (words_crc (drop j ws)) (after_zeros (8 * (length ws - suc k)) (word_crc x))
xored_after zero ws k x h l = xored_into ws k x l
xored_after (suc j) [] k x h l = absurd (omega arith)
xored_after (suc j) (w ∷ ws) zero x h l = absurd (omega arith)
xored_after (suc j) (w ∷ ws) (suc k) x h l =
    let e : 8 * (length ws - suc k) ≡ 8 * (length (w ∷ ws) - suc (suc k)) = omega arith in
    xored_after j ws k x (omega arith) (omega arith) ∙ ap (λ m. bit_xor (words_crc (drop j ws)) (after_zeros m (word_crc x))) e

-- ---- the polynomial divides its 64th power

-- a remainder times the 64th power
power : ℕ → ℕ
power z = bit_xor (bit_xor (bit_xor (after_zeros 128 z) (after_zeros 120 z)) (after_zeros 16 z)) z

power-xor : (a b : ℕ) → a < 65536 → b < 65536 → power (bit_xor a b) ≡ bit_xor (power a) (power b)
unfolding power
power-xor a b h l =
    let at = λ (n : ℕ). zeros16-xor (8 * n) a b h l in
    ap (λ z. bit_xor z (bit_xor a b))
    (ap₂ bit_xor (ap₂ bit_xor (at 128) (at 120) ∙ xor_of_pairs (after_zeros 128 a) (after_zeros 128 b) (after_zeros 120 a) (after_zeros 120 b)) (at 16)
    ∙ xor_of_pairs (bit_xor (after_zeros 128 a) (after_zeros 120 a)) (bit_xor (after_zeros 128 b) (after_zeros 120 b)) (after_zeros 16 a) (after_zeros 16 b))
    ∙ xor_of_pairs (bit_xor (bit_xor (after_zeros 128 a) (after_zeros 120 a)) (after_zeros 16 a)) (bit_xor (bit_xor (after_zeros 128 b) (after_zeros 120 b)) (after_zeros 16 b)) a b

abbrev doubled : ℕ → ℕ
doubled z = zeros 16 0x18005 1 z

power-doubled : (z : ℕ) → z < 65536 → power (doubled z) ≡ doubled (power z)
unfolding power
power-doubled z h =
    let later = λ (n : ℕ). after_zeros n z in
    let small = λ (n : ℕ). zeros16_lt (8 * n) z h in
    let swap = λ (n : ℕ). zeros_swap 16 0x18005 1 (8 * n) z in
    let two = bit_xor (later 128) (later 120) in
    let two_lt : two < 65536 = xor_lt 16 (later 128) (later 120) (small 128) (small 120) in
    let three_lt : bit_xor two (later 16) < 65536 = xor_lt 16 two (later 16) two_lt (small 16) in
    ap (λ y. bit_xor y (zeros 16 0x18005 1 z))
    (ap₂ bit_xor (ap₂ bit_xor (swap 128) (swap 120) ∙ sym (zeros16-xor 1 (later 128) (later 120) (small 128) (small 120))) (swap 16)
    ∙ sym (zeros16-xor 1 two (later 16) two_lt (small 16)))
    ∙ sym (zeros16-xor 1 (bit_xor two (later 16)) z three_lt h)

power_of_bit : (b : ℕ) → b < 2 → power b ≡ 0
unfolding power divide divide_step
power_of_bit zero h = refl
power_of_bit (suc zero) h = refl
power_of_bit (suc (suc b)) h = absurd (omega arith)

power_none : (k z : ℕ) → k ≤ 16 → z < 2 ^ k → power z ≡ 0
unfolding divide divide_step
power_none zero z h l = power_of_bit z (omega arith)
power_none (suc k) z h l =
    let half = z / 2 in
    let b = z % 2 in
    let next : suc k ≡ k + 1 = omega arith in
    let more : 2 ^ suc k ≡ 2 ^ k * 2 = ap (λ m. 2 ^ m) next ∙ pow-add 2 k 1 in
    let most : 2 ^ suc k ≤ 2 ^ 16 = pow-le-pow_right (omega arith) h in
    let half_lt : half < 2 ^ k = omega arith in
    let twice : doubled half ≡ half * 2 = zeros16-small 1 half (omega arith) in
    let whole : half * 2 + b ≡ z = omega arith in
    ap power (sym whole ∙ sym (xor_shifted half 1 b (omega arith)))
    ∙ power-xor (half * 2) b (omega arith) (omega arith)
    ∙ ap₂ bit_xor (ap power (sym twice) ∙ power-doubled half (omega arith) ∙ ap doubled (power_none k half (omega arith) half_lt)) (power_of_bit b (omega arith))

-- what a word adds it adds 8, 112 and 128 bytes later, together
power_law : (m z : ℕ) → z < 65536 → bit_xor (bit_xor (after_zeros (m + 120) z) (after_zeros (m + 16) z)) (after_zeros m z) ≡ after_zeros (m + 128) z
unfolding power
power_law m z h =
    let later = λ (n : ℕ). after_zeros n z in
    let small = λ (n : ℕ). zeros16_lt (8 * n) z h in
    let at = λ (n : ℕ). ap (λ j. after_zeros j z) (add_comm m n) ∙ after_zeros-add n m z in
    let two = bit_xor (later 120) (later 16) in
    let all = bit_xor two z in
    let rest : bit_xor (later 128) all ≡ 0 =
    sym (xor_assoc (later 128) two z) ∙ ap (λ y. bit_xor y z) (sym (xor_assoc (later 128) (later 120) (later 16))) ∙ power_none 16 z (omega arith) h in
    let same : all ≡ later 128 = same_from_xor (later 128) all rest in
    let first : bit_xor (after_zeros m (later 120)) (after_zeros m (later 16)) ≡ after_zeros m two = sym (zeros16-xor (8 * m) (later 120) (later 16) (small 120) (small 16)) in
    let second : bit_xor (after_zeros m two) (after_zeros m z) ≡ after_zeros m all = sym (zeros16-xor (8 * m) two z (xor_lt 16 (later 120) (later 16) (small 120) (small 16)) h) in
    ap (λ y. bit_xor y (after_zeros m z)) (ap₂ bit_xor (at 120) (at 16) ∙ first) ∙ second ∙ ap (after_zeros m) same ∙ sym (at 128)

-- a word is XORed into those 1, 14 and 16 words later
abbrev pub xored_later : List ℕ → ℕ → ℕ → List ℕ
xored_later ws k x = set ws k (bit_xor (get_or ws k 0) x)

pub folded : (ws : List ℕ) (i j k l : ℕ) → j ≡ i + 1 → k ≡ i + 14 → l ≡ i + 16 → i + 16 < length ws
    → let w = get_or ws i 0 in
    words_crc (drop (i + 1) (xored_later (xored_later (xored_later ws j w) k w) l w)) ≡ words_crc (drop i ws)
folded ws i j k l one fourteen sixteen h =
    let n = length ws in
    let x = get_or ws i 0 in
    let a = xored_later ws j x in
    let b = xored_later a k x in
    let a_length : length a ≡ n = length-set ws j _ in
    let b_length : length b ≡ n = length-set a k _ ∙ a_length in
    let m = 8 * (n - suc (i + 16)) in
    let rest = drop (i + 1) ws in
    let later = λ (k : ℕ). after_zeros k (word_crc x) in
    let at_1 : 8 * (n - suc j) ≡ m + 120 = omega arith in
    let at_14 : 8 * (length a - suc k) ≡ m + 16 = omega arith in
    let at_16 : 8 * (length b - suc l) ≡ m = omega arith in
    let at_0 : 8 * length rest ≡ m + 128 = omega (arith, length-drop (i + 1) ws) in
    let first : words_crc (drop (i + 1) a) ≡ bit_xor (words_crc rest) (later (m + 120)) =
    xored_after (i + 1) ws j x (omega arith) (omega arith) ∙ ap (λ k. bit_xor (words_crc rest) (later k)) at_1 in
    let second : words_crc (drop (i + 1) b) ≡ bit_xor (bit_xor (words_crc rest) (later (m + 120))) (later (m + 16)) =
    xored_after (i + 1) a k x (omega arith) (omega arith) ∙ ap₂ (λ y k. bit_xor y (later k)) first at_14 in
    let law = power_law m (word_crc x) (crc_lt (to_le_bytes w64 x)) in
    xored_after (i + 1) b l x (omega arith) (omega arith) ∙ ap₂ (λ y k. bit_xor y (later k)) second at_16
    ∙ ap (λ y. bit_xor y (later m)) (xor_assoc (words_crc rest) (later (m + 120)) (later (m + 16)))
    ∙ xor_assoc (words_crc rest) (bit_xor (later (m + 120)) (later (m + 16))) (later m)
    ∙ ap (bit_xor (words_crc rest)) law ∙ xor_comm (words_crc rest) (later (m + 128))
    ∙ ap (λ k. bit_xor (later k) (words_crc rest)) (sym at_0) ∙ sym (words_crc-cons x rest) ∙ ap words_crc (sym (drop_more ws i 0 (omega arith)))

-- ---- bytes and words

take-next : (xs : List ℕ) (j n : ℕ) → take j xs ++ take n (drop j xs) ≡ take (j + n) xs
take-next xs j n =
    ap₂ (λ u v. u ++ v) (sym (take-take j (j + n) xs (omega arith))) (sym (drop-take j n xs)) ∙ take-append-drop j (take (j + n) xs)

-- one more word, at index i of the last 16, has the next eight bytes
pub word_put : (ws before bs : List ℕ) (eights : List (List ℕ)) (n i j v : ℕ) → i + 16 < length ws → word_bytes (take (i + 16) ws) ≡ before ++ take (8 * i) bs
    → to_le_bytes w64 v ≡ get_or eights j [] → eights ≡ first_chunks 8 n bs → j ≡ i → i < n
    → word_bytes (take (i + 1 + 16) (set ws (i + 16) v)) ≡ before ++ take (8 * (i + 1)) bs
word_put ws before bs eights n i j v h e word chunks same l =
    let next : i + 1 + 16 ≡ i + 16 + 1 = omega arith in
    let at : 8 * i + 8 ≡ 8 * (i + 1) = omega arith in
    let eight : get_or eights j [] ≡ take 8 (drop (8 * i) bs) = ap₂ (λ xss k. get_or xss k []) chunks same ∙ piece_at 8 n i (8 * i) bs [] l refl in
    ap (λ m. word_bytes (take m (set ws (i + 16) v))) next ∙ ap word_bytes (take_more_set ws (i + 16) v h)
    ∙ flat_map-append (to_le_bytes w64) (take (i + 16) ws) (v ∷ [])
    ∙ ap₂ (λ x y. x ++ y) e (append-nil (to_le_bytes w64 v) ∙ word ∙ eight)
    ∙ append_assoc before (take (8 * i) bs) (take 8 (drop (8 * i) bs))
    ∙ ap (λ y. before ++ y) (take-next bs (8 * i) 8 ∙ ap (λ m. take m bs) at)

pub word_taken : (ws : List ℕ) (i j : ℕ) → j ≡ i → i < length ws → word_bytes (take (i + 1) ws) ≡ word_bytes (take i ws) ++ to_le_bytes w64 (get_or ws j 0)
word_taken ws i j same h =
    let w = get_or ws i 0 in
    ap word_bytes (take_more ws i 0 h) ∙ flat_map-append (to_le_bytes w64) (take i ws) (w ∷ [])
    ∙ ap (λ y. word_bytes (take i ws) ++ y) (append-nil (to_le_bytes w64 w))
    ∙ ap (λ k. word_bytes (take i ws) ++ to_le_bytes w64 (get_or ws k 0)) (sym same)

zero_words : crc_of (word_bytes (replicate 16 0)) ≡ 0
unfolding update_crc divide divide_step
zero_words = refl

-- bytes after 16 words that are zero
pub after_zero_words : (xs : List ℕ) → crc_of (word_bytes (replicate 16 0) ++ xs) ≡ crc_of xs
after_zero_words xs =
    sym (update_crc-append 16 0x18005 (word_bytes (replicate 16 0)) xs 0) ∙ ap (λ c. update_crc16 c xs) zero_words

-- ---- the state

pub state_xored : (c high low : ℕ) (bs : List ℕ) → c < 65536 → high ≡ c / 256 → low ≡ c % 256 → 2 ≤ length bs → get_or bs 0 0 < 256 → get_or bs 1 0 < 256
    → let one = set bs 0 (bit_xor (get_or bs 0 0) high) in
    crc_of (set one 1 (bit_xor (get_or one 1 0) low)) ≡ update_crc16 c bs
state_xored c high low [] small top rest h a b = absurd (omega arith)
state_xored c high low (y0 ∷ []) small top rest h a b = absurd (omega arith)
state_xored c high low (y0 ∷ y1 ∷ ys) small top rest h a b =
    ap₂ (λ u v. crc_of (u ∷ v ∷ ys)) (ap (bit_xor y0) top ∙ xor_comm y0 (c / 256)) (ap (bit_xor y1) rest ∙ xor_comm y1 (c % 256))
    ∙ sym (absorbed c y0 y1 ys small a b)
