-- Samples in the fewest whole bytes, which are packed in a buffer, and hashed from there.
use Rattle.std.proofs.Common.{◌≡◌, ℕ, ℤ, ◌+◌, ◌<◌, ◌≤◌, List, [], ◌∷◌, ◌++◌, length, take}
use Rattle.std.proofs.Common.{drop, get_or, refl, sym, ap, ap₂, ◌∙◌, subst, arith, append_assoc}
use Rattle.std.proofs.lemmas.List.{append-nil, take-take, take_more}
use Rattle.std.proofs.lemmas.List.{length-append, length-drop, length-take-le}
use Rattle.std.proofs.lemmas.List.Concat.{flat_map-append}
use Rattle.std.proofs.lemmas.Slice.{take-put_mid}
use Rattle.std.proofs.Math.Seq.{take-append-add}
use borrow.Rule.Slice.PartMut.{put_mid}
use Rattle.std.specs.Int.{w32, cast_unsigned, to_le_bytes}
use Rattle.claxon_md5.specs.HasHashed.{HasHashed}
use Rattle.claxon_md5.specs.HasherCalls.{HashesSamples}
use Rattle.claxon_md5.specs.WholeBytes.{sample_width, whole_bytes_of_sample, whole_bytes_of_samples}
use Rattle.claxon_md5.specs.declared.Md5.{Md5}

-- ---- laws of the definition

pub whole_bytes_of_samples-append : (n : ℕ) (xs ys : List ℤ)
    → whole_bytes_of_samples n (xs ++ ys)
    ≡ whole_bytes_of_samples n xs ++ whole_bytes_of_samples n ys
unfolding whole_bytes_of_samples
whole_bytes_of_samples-append n xs ys = flat_map-append (whole_bytes_of_sample n) xs ys

pub whole_bytes_of_samples-none : (n : ℕ) → whole_bytes_of_samples n [] ≡ []
unfolding whole_bytes_of_samples
whole_bytes_of_samples-none n = refl

whole_bytes_of_samples-one : (n : ℕ) (x : ℤ)
    → whole_bytes_of_samples n (x ∷ []) ≡ whole_bytes_of_sample n x
unfolding whole_bytes_of_samples
whole_bytes_of_samples-one n x = append-nil (whole_bytes_of_sample n x)

-- one more sample
pub whole_bytes_of_samples-more : (n : ℕ) (xs : List ℤ) (i : ℕ) (d : ℤ) → i < length xs
    → whole_bytes_of_samples n (take (i + 1) xs)
    ≡ whole_bytes_of_samples n (take i xs) ++ whole_bytes_of_sample n (get_or xs i d)
whole_bytes_of_samples-more n xs i d h =
    let x = get_or xs i d in
    ap (whole_bytes_of_samples n) (take_more xs i d h)
    ∙ whole_bytes_of_samples-append n (take i xs) (x ∷ [])
    ∙ ap (λ bytes. whole_bytes_of_samples n (take i xs) ++ bytes) (whole_bytes_of_samples-one n x)

-- ---- the buffer

-- four bytes are put there
pub same_size : (buffer bytes : List ℕ) (at k : ℕ)
    → at + 4 ≤ length buffer → length bytes ≡ 4 → k ≡ 4
    → length (put_mid at k buffer bytes) ≡ length buffer
same_size buffer bytes at k within size four =
    let rest = drop k (drop at buffer) in
    let first = take at buffer in
    let place : at ≤ length buffer = omega arith in
    omega (
      arith,
      length-append first (bytes ++ rest),
      length-append bytes rest,
      length-drop k (drop at buffer),
      length-drop at buffer,
      length-take-le at buffer place,
    )

-- The bytes of one more sample are put there, with others after them.
pub put : (n : ℕ) (xs : List ℤ) (i : ℕ) (d : ℤ) (buffer bytes : List ℕ) (at k end : ℕ)
    → i < length xs
    → at ≤ length buffer
    → sample_width n ≤ 4
    → end ≡ at + sample_width n
    → bytes ≡ to_le_bytes w32 (cast_unsigned w32 (get_or xs i d))
    → take at buffer ≡ whole_bytes_of_samples n (take i xs)
    → take end (put_mid at k buffer bytes) ≡ whole_bytes_of_samples n (take (i + 1) xs)
put n xs i d buffer bytes at k end h within narrow ends four before =
    let width = sample_width n in
    let first = take at buffer in
    let size : length bytes ≡ 4 = ap length four in
    let place : at ≡ length first = sym (length-take-le at buffer within) in
    let all : at + 4 ≡ at + length bytes = omega (arith, size) in
    sym (take-take end (at + 4) (put_mid at k buffer bytes) (omega arith))
    ∙ ap (take end) (take-put_mid at k buffer bytes (at + 4) all within)
    ∙ ap (λ m. take m (first ++ bytes)) (ends ∙ ap (λ m. m + width) place)
    ∙ take-append-add first bytes width
    ∙ ap₂ (λ ys zs. ys ++ take width zs) before four
    ∙ sym (whole_bytes_of_samples-more n xs i d h)

-- ---- samples that are hashed one after another

pub hashes_none : (n : ℕ) (hasher : Md5) → HashesSamples n [] hasher hasher
hashes_none n hasher xs h =
    let none = ap (λ ys. xs ++ ys) (whole_bytes_of_samples-none n) ∙ append-nil xs in
    subst (HasHashed hasher) (sym none) h

pub hashes_more : (n : ℕ) (first second all : List ℤ) (old mid new : Md5)
    → all ≡ first ++ second
    → HashesSamples n first old mid
    → HashesSamples n second mid new
    → HashesSamples n all old new
hashes_more n first second all old mid new whole before after xs h =
    let bytes = whole_bytes_of_samples n first in
    let more = whole_bytes_of_samples n second in
    let both = ap (whole_bytes_of_samples n) whole ∙ whole_bytes_of_samples-append n first second in
    let appended = append_assoc xs bytes more ∙ ap (λ ys. xs ++ ys) (sym both) in
    subst (HasHashed new) appended (after _ (before xs h))
