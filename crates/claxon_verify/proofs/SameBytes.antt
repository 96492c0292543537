-- Bytes that have the same bits.
use Rattle.std.proofs.Common.{◌≡◌, ℕ, ◌+◌, ◌*◌, ◌%◌, ◌^◌, ◌<◌, ◌≤◌, List, [], ◌∷◌, ◌++◌, length, take, drop, get_or, refl, sym, ap, ap₂, ◌∙◌, arith, append-nil}
use Rattle.std.proofs.lemmas.List.{drop_at, length-take, take_all, take_at}
use Rattle.std.proofs.lemmas.List.Elements.{All-from_get_or, All-head, All-tail, All-take}
use Rattle.claxon.specs.Bits.{bits, bits_of, number}
use Rattle.claxon.proofs.Bytes.{length-bits_of}
use Rattle.claxon.proofs.Numbers.{bits-number, length-bits, number-bits}
use Rattle.claxon_blocks.specs.FirstBytes.{kept_of, kept_with, number_of_bytes}
use Rattle.claxon_blocks.specs.declared.frames.first_bytes.FirstBytes.{FirstBytes}
use Rattle.claxon_recovery.specs.Passed.{AreFirstOf}
use Rattle.claxon_verify.specs.Trailing.{AreBytes}

abbrev pub Byte : ℕ → Type 0
Byte y = y < 256

-- ---- bytes of the same bits

byte_same : (x y : ℕ) → x < 256 → y < 256 → bits 8 x ≡ bits 8 y → x ≡ y
byte_same x y a b e = let k : x % 2 ^ 8 ≡ y % 2 ^ 8 = sym (number-bits 8 x) ∙ ap number e ∙ number-bits 8 y in omega (arith, a, b, k)

pub bytes_same : (xs ys : List ℕ) → AreBytes xs → AreBytes ys → bits_of xs ≡ bits_of ys → xs ≡ ys
unfolding bits_of
bytes_same [] [] a b e = refl
bytes_same [] (y ∷ ys) a b e = absurd (let n : 0 ≡ 8 * length (y ∷ ys) = ap length e ∙ length-bits_of (y ∷ ys) in omega (arith, n))
bytes_same (x ∷ xs) [] a b e = absurd (let n : 8 * length (x ∷ xs) ≡ 0 = sym (length-bits_of (x ∷ xs)) ∙ ap length e in omega (arith, n))
bytes_same (x ∷ xs) (y ∷ ys) a b e =
    let front : bits 8 x ≡ bits 8 y = sym (take_at (bits 8 x) (bits_of xs) 8 (length-bits 8 x)) ∙ ap (take 8) e ∙ take_at (bits 8 y) (bits_of ys) 8 (length-bits 8 y) in
    let back : bits_of xs ≡ bits_of ys = sym (drop_at (bits 8 x) (bits_of xs) 8 (length-bits 8 x)) ∙ ap (drop 8) e ∙ drop_at (bits 8 y) (bits_of ys) 8 (length-bits 8 y) in
    ap₂ (λ (z : ℕ) (l : List ℕ). z ∷ l) (byte_same x y (All-head Byte x xs a) (All-head Byte y ys b) front) (bytes_same xs ys (All-tail Byte x xs a) (All-tail Byte y ys b) back)

-- each element fits
pub are_bytes : (xs : List ℕ) → ((i : ℕ) → get_or xs i 0 < 256) → AreBytes xs
are_bytes xs h = All-from_get_or Byte xs 0 (λ i lt. h i)

-- ---- the first 16

same_number : (xs ys : List ℕ) → length xs ≤ 16 → length ys ≤ 16 → number_of_bytes xs ≡ number_of_bytes ys → bits_of xs ≡ bits_of ys
same_number xs ys few most e =
    let len : length xs ≡ length ys = omega (arith, few, most, e) in
    let same : number (bits_of xs) ≡ number (bits_of ys) = omega (arith, few, most, e) in
    let long : length (bits_of xs) ≡ length (bits_of ys) = length-bits_of xs ∙ ap (λ (n : ℕ). 8 * n) len ∙ sym (length-bits_of ys) in
    sym (bits-number (bits_of xs)) ∙ ap₂ bits long same ∙ bits-number (bits_of ys)

split_number : (p q m n : ℕ) → p * 2 ^ 64 + m % 2 ^ 64 ≡ q * 2 ^ 64 + n % 2 ^ 64 → p ≡ q
split_number p q m n e = omega (arith, e)

-- The bytes that are kept are the first 16, where each is a byte.
pub first_bytes : (first : FirstBytes) (t : List ℕ) → length first.bytes ≡ 16 → AreFirstOf first t → AreBytes (kept_of first) → AreBytes t → kept_of first ≡ take 16 t
first_bytes first t len h kept bytes =
    let few : length (kept_of first) ≤ 16 = omega (arith, length-take first.seen first.bytes, len) in
    let all : kept_with first [] ≡ kept_of first = ap (take 16) (append-nil (kept_of first)) ∙ take_all 16 (kept_of first) few in
    let front : take 16 (t ++ []) ≡ take 16 t = ap (take 16) (append-nil t) in
    let e : number_of_bytes (kept_with first []) ≡ number_of_bytes (take 16 (t ++ [])) = split_number _ _ _ _ (h []) in
    let same : number_of_bytes (kept_of first) ≡ number_of_bytes (take 16 t) = sym (ap number_of_bytes all) ∙ e ∙ ap number_of_bytes front in
    bytes_same (kept_of first) (take 16 t) kept (All-take Byte 16 t bytes) (same_number (kept_of first) (take 16 t) few (omega (arith, length-take 16 t)) same)
