-- Whether all elements so far satisfy a predicate.
use Rattle.std.proofs.Common.{◌≡◌, ℕ, ◌+◌, ◌<◌, Bool, true, false, List, length, take, get_or, refl, subst, arith}
use Rattle.std.specs.Prelude.{All, IsTrue, ◌&&◌, ◌↔◌}
use Rattle.std.proofs.lemmas.Bool.{false≢true}
use Rattle.std.proofs.lemmas.List.{get_or-take, length-take, take-take}
use Rattle.std.proofs.lemmas.List.Elements.{All-more, All-take}

-- an answer that is right both ways
pub decided : (P : Type 0) (b : Bool) → (b ≡ true → P) → (b ≡ false → P → ⊥) → (IsTrue b ↔ P)
decided P true fits misfits = (λ e. fits refl, λ p. refl)
decided P false fits misfits = (λ e. absurd (false≢true e), λ p. absurd (misfits refl p))

module _ {X : Type 0} (P : X → Type 0) (xs : List X) (i : ℕ) (d : X) (inside : i < length xs) where
  before : All P (take (i + 1) xs) → All P (take i xs)
  before h = subst (All P) (take-take i (i + 1) xs (omega arith)) (All-take P i (take (i + 1) xs) h)

  the_last : All P (take (i + 1) xs) → P (get_or xs i d)
  the_last h = subst P (get_or-take (i + 1) xs i d (omega arith)) (h i d (omega (arith, length-take (i + 1) xs, inside)))

  -- one element more
  pub all_more : (all one : Bool) → (IsTrue all ↔ All P (take i xs)) → (IsTrue one ↔ P (get_or xs i d)) → (IsTrue (all && one) ↔ All P (take (i + 1) xs))
  all_more true true h p = (λ e. All-more P xs i d inside (h.0 refl) (p.0 refl), λ k. refl)
  all_more true false h p = (λ e. absurd (false≢true e), λ k. p.1 (the_last k))
  all_more false one h p = (λ e. absurd (false≢true e), λ k. absurd (false≢true (h.1 (before k))))
