-- Bytes written one after another.
use Rattle.std.proofs.Math.Seq.{take-add}
use Rattle.std.proofs.lemmas.List.{take_all}
use Rattle.std.proofs.Common.{arith, length-drop, ◌-◌, ◌≤◌, Option, None, Some, ◌≡◌, ℕ, ◌+◌, ◌++◌, List, length, take, drop, ap, sym, ◌∙◌, append_assoc}
use Rattle.std.specs.Io.KnownBytes.{Appends}

pub appends_more : (a b c : Option (List ℕ)) (xs ys : List ℕ) → Appends a b xs → Appends b c ys → Appends a c (xs ++ ys)
appends_more None b c xs ys h k = tt
appends_more (Some x) None c xs ys h k = absurd h
appends_more (Some x) (Some y) None xs ys h k = absurd k
appends_more (Some x) (Some y) (Some z) xs ys h k = k ∙ (ap (λ t. t ++ ys) h ∙ append_assoc x xs ys)

pub take_piece : (at n : ℕ) (l : List ℕ) → at ≤ length l → take (at + n) l ≡ take at l ++ take n (take (length l - at) (drop at l))
take_piece at n l h = let e : take (length l - at) (drop at l) ≡ drop at l = take_all (length l - at) (drop at l) (omega (arith, length-drop at l)) in take-add at n l ∙ ap (λ t. take at l ++ take n t) (sym e)
