-- The buffered bytes of a reader.
use Rattle.std.proofs.Common.{take-add, ◌≡◌, ℕ, ◌+◌, ◌-◌, ◌<◌, ◌≤◌, List, [], ◌∷◌, ◌++◌, length, get_or, take, drop, Option, None, Some, refl, sym, ap, ◌∙◌, append_assoc, arith}
use Rattle.std.specs.Prelude.{slice_range}
use Rattle.std.specs.Io.KnownBytes.{prepend_known}
use Rattle.std.proofs.lemmas.List.{drop-drop, take-append-drop, drop_more, drop_at, take-append-le, take_at}
use Rattle.std.proofs.lemmas.Grind.{common_steps}
use borrow.Rule.Slice.PartMut.{put_mid}
use Rattle.claxon_input.specs.Source.{TakesFront}

cut : (buf : List ℕ) (i n j : ℕ) → i + n ≤ j → take (j - i) (drop i buf) ≡ take n (drop i buf) ++ take (j - (i + n)) (drop (i + n) buf)
cut buf i n j h =
    let e : j - i ≡ n + (j - (i + n)) = omega arith in
    rw (e, take-add n (j - (i + n)) (drop i buf), drop-drop n i buf) refl

prepended : (o : Option (List ℕ)) (xs ys zs : List ℕ) → xs ≡ zs ++ ys → TakesFront (prepend_known xs o) (prepend_known ys o) zs
prepended None xs ys zs e = tt
prepended (Some left) xs ys zs e = ap (λ l. l ++ left) e ∙ append_assoc zs ys left

-- n of the bytes from i up to j are consumed
pub advances : (o : Option (List ℕ)) (buf : List ℕ) (i n j : ℕ) (zs : List ℕ) → zs ≡ take n (drop i buf) → i + n ≤ j
    → TakesFront (prepend_known (slice_range buf i j) o) (prepend_known (slice_range buf (i + n) j) o) zs
advances o buf i n j zs e h = prepended o (slice_range buf i j) (slice_range buf (i + n) j) zs (cut buf i n j h ∙ ap (λ l. l ++ take (j - (i + n)) (drop (i + n) buf)) (sym e))

pub first_of_drop : (buf : List ℕ) (i b : ℕ) → i < length buf → b ≡ get_or buf i b → b ∷ [] ≡ take 1 (drop i buf)
first_of_drop buf i b h e = rw (drop_more buf i b h) (ap (λ x. x ∷ []) e)

pub length-part : (buf : List ℕ) (i n : ℕ) → i + n ≤ length buf → length (take n (drop i buf)) ≡ n
length-part buf i n h = grind (arith, common_steps)

pub length-rest : (buf : List ℕ) (i n : ℕ) → n ≤ length buf - i → length (take n (drop i buf)) ≡ n
length-rest buf i n h = grind (arith, common_steps)

pub length-front : (a : ℕ) (xs : List ℕ) → a ≤ length xs → length (take a xs) ≡ a
length-front a xs h = grind (arith, common_steps)

-- what was filled before, and then the first n that were written
pub written : (a n k : ℕ) (xs ys : List ℕ) → a ≤ length xs → n ≤ length ys → take (a + n) (put_mid a k xs ys) ≡ take a xs ++ take n ys
written a n k xs ys h l =
    let e : length (take a xs) ≡ a = length-front a xs h in
    take-add a n (put_mid a k xs ys) ∙ (rw (take_at (take a xs) _ a e, drop_at (take a xs) _ a e, take-append-le n ys _ l) refl)

pub copied : (n m : ℕ) (part s b : List ℕ) → part ≡ s → length s ≡ n → take n (part ++ b) ≡ s
copied n m part s b e l = rw (e, take_at s b n l) refl

pub cut_at : (items : List ℕ) (at to n : ℕ) (now : List ℕ) → to ≡ at + n → now ≡ items → drop at items ≡ take n (drop at items) ++ drop to now
cut_at items at to n now e f = rw (e, f, ← drop-drop n at items) (sym (take-append-drop n (drop at items)))
