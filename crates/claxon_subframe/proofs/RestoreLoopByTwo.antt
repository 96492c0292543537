-- A loop that restores samples two at a time, with the newest five in variables.
use Rattle.std.proofs.Common.{◌≡◌, ℕ, ◌+◌, ◌<◌, List, [], ◌∷◌, ◌++◌, length, take, drop, reverse, get_or, set, refl, sym, ap, ◌∙◌, arith, ℤ, pos, ◌+ℤ◌, to_z, of_z, w32, w64, FitsSigned}
use Rattle.std.proofs.lemmas.Int.{to_z-of_z, int_wrap_fits, SFits-int_wrap}
use Rattle.std.proofs.lemmas.List.{take_more, take_more_set, get_or-set_other, length-set, take-append-drop, take-take, drop-take, reverse-append}
use Rattle.claxon_format.specs.Predict.{wrap, linear}
use Rattle.claxon_format.specs.read.Predict.{restored}
use Rattle.claxon_subframe.specs.PendingSums.{four_pending, five_before, AreNewest, IsScaledUp, IsFollowedByTwo}
use Rattle.claxon_subframe.specs.declared.subframe.predictor.lanes.NewestFive.{NewestFive}
use Rattle.claxon_subframe.proofs.Predictors.{restored_more, abs_32}
use Rattle.claxon_subframe.proofs.Lanes.{small_fits}

-- one more sample
past_more : (xs : List ℤ) (i j : ℕ) (x : ℤ) → j ≡ i + 1 → i < length xs → reverse (take j (set xs i x)) ≡ x ∷ reverse (take i xs)
past_more xs i j x e lt = ap (λ (n : ℕ). reverse (take n (set xs i x))) e ∙ ap reverse (take_more_set xs i x lt) ∙ reverse-append (take i xs) (x ∷ [])

past_read : (xs : List ℤ) (i j : ℕ) → j ≡ i + 1 → i < length xs → reverse (take j xs) ≡ get_or xs i (pos 0) ∷ reverse (take i xs)
past_read xs i j e lt = ap (λ (n : ℕ). reverse (take n xs)) e ∙ ap reverse (take_more xs i (pos 0) lt) ∙ reverse-append (take i xs) (get_or xs i (pos 0) ∷ [])

-- two samples that were read
past_both : (xs : List ℤ) (i j k : ℕ) → j ≡ i + 1 → k ≡ j + 1 → j < length xs → reverse (take k xs) ≡ get_or xs j (pos 0) ∷ get_or xs i (pos 0) ∷ reverse (take i xs)
past_both xs i j k ej ek lt = past_read xs j k ek lt ∙ ap (λ (l : List ℤ). get_or xs j (pos 0) ∷ l) (past_read xs i j ej (omega arith))

pub both_read : (xs : List ℤ) (i j k : ℕ) (x y : ℤ) → x ≡ get_or xs i (pos 0) → y ≡ get_or xs j (pos 0) → j ≡ i + 1 → k ≡ j + 1 → j < length xs → y ∷ x ∷ reverse (take i xs) ≡ reverse (take k xs)
both_read xs i j k x y ex ey ej ek lt =
    ap (λ (v : ℤ). v ∷ x ∷ reverse (take i xs)) ey ∙ ap (λ (v : ℤ). get_or xs j (pos 0) ∷ v ∷ reverse (take i xs)) ex ∙ sym (past_both xs i j k ej ek lt)

-- the residual samples at i and i + 1 are replaced by their samples
two_restored : (p : List ℤ → ℤ) (xs : List ℤ) (i j k : ℕ) (x y : ℤ) → j ≡ i + 1 → k ≡ j + 1 → j < length xs
    → x ≡ wrap (p (reverse (take i xs)) +ℤ get_or xs i (pos 0)) → y ≡ wrap (p (x ∷ reverse (take i xs)) +ℤ get_or xs j (pos 0))
    → restored p k (set (set xs i x) j y) ≡ restored p i xs
two_restored p xs i j k x y ej ek lt ex ey =
    let there : get_or (set xs i x) j (pos 0) ≡ get_or xs j (pos 0) = get_or-set_other xs i j x (pos 0) (omega arith) in
    let past : reverse (take j (set xs i x)) ≡ x ∷ reverse (take i xs) = past_more xs i j x ej (omega arith) in
    let value : y ≡ wrap (p (reverse (take j (set xs i x))) +ℤ get_or (set xs i x) j (pos 0)) = rw (past, there) ey in
    let second : restored p (j + 1) (set (set xs i x) j y) ≡ restored p j (set xs i x) = restored_more p (set xs i x) j y (omega (arith, length-set xs i x)) value in
    let first : restored p (i + 1) (set xs i x) ≡ restored p i xs = restored_more p xs i x (omega arith) ex in
    ap (λ (n : ℕ). restored p n (set (set xs i x) j y)) ek ∙ second ∙ ap (λ (n : ℕ). restored p n (set xs i x)) ej ∙ first

past_two : (xs : List ℤ) (i j k : ℕ) (x y : ℤ) → j ≡ i + 1 → k ≡ j + 1 → j < length xs → reverse (take k (set (set xs i x) j y)) ≡ y ∷ x ∷ reverse (take i xs)
past_two xs i j k x y ej ek lt = past_more (set xs i x) j k y ek (omega (arith, length-set xs i x)) ∙ ap (λ (l : List ℤ). y ∷ l) (past_more xs i j x ej (omega arith))

-- five samples that were read
pub record AreRead (xs : List ℤ) (s : NewestFive) : Type 0 where
  pub fifth : s.fifth ≡ get_or xs 0 (pos 0)
  pub fourth : s.fourth ≡ get_or xs 1 (pos 0)
  pub third : s.third ≡ get_or xs 2 (pos 0)
  pub second : s.second ≡ get_or xs 3 (pos 0)
  pub newest : s.newest ≡ get_or xs 4 (pos 0)

pub newest_read : (xs : List ℤ) (s : NewestFive) → length xs ≡ 5 → AreRead xs s → AreNewest (reverse xs) s
newest_read (a ∷ b ∷ c ∷ d ∷ e ∷ []) s long h = record { rest = []; is = rw (h.fifth, h.fourth, h.third, h.second, h.newest) refl }
newest_read xs s long h = absurd (omega arith)

-- the newest five of some samples are those of all, where the others are older
pub newest_after : (some others all : List ℤ) (s : NewestFive) → some ++ others ≡ all → AreNewest some s → AreNewest all s
newest_after some others all s e h = record { rest = h.rest ++ others; is = sym e ∙ ap (λ (l : List ℤ). l ++ others) h.is }

-- a sample as a number of 64 bits
pub as_i64 : (x : ℤ) → FitsSigned w32 x → to_z w64 (of_z w64 x) ≡ x
as_i64 x f = to_z-of_z w64 x (small_fits 2147483648 x (omega arith) (abs_32 x f))

pub widened : (x y : ℤ) → FitsSigned w32 x → y ≡ to_z w32 (of_z w32 x) → to_z w64 (of_z w64 y) ≡ x
widened x y f e = ap (λ (v : ℤ). to_z w64 (of_z w64 v)) (e ∙ to_z-of_z w32 x f) ∙ as_i64 x f

-- a scaled up number, passed to a call
pub passed_scaled_up : (w r e : ℤ) (t : ℕ) → IsScaledUp w r t e → IsScaledUp w r t (to_z w64 (of_z w64 e))
passed_scaled_up w r e t up = λ sum h. ap (λ (v : ℤ). to_z w64 (of_z w64 v)) (up sum h) ∙ to_z-of_z w64 _ (SFits-int_wrap w64 _)

-- and back
pub narrowed : (x low : ℤ) → FitsSigned w32 x → low ≡ wrap (to_z w64 (of_z w64 x)) → to_z w32 (of_z w32 low) ≡ x
narrowed x low f e = ap (λ (v : ℤ). to_z w32 (of_z w32 v)) (e ∙ ap wrap (as_i64 x f) ∙ int_wrap_fits w32 x f) ∙ to_z-of_z w32 x f

-- the newest m of the first n samples, and those before them
pub past_split : (xs : List ℤ) (k m n : ℕ) → k + m ≡ n → reverse (take m (drop k xs)) ++ reverse (take k xs) ≡ reverse (take n xs)
past_split xs k m n there =
    let split : take n xs ≡ take k xs ++ take m (drop k xs)
    = sym (take-append-drop k (take n xs)) ∙ ap (λ (l : List ℤ). l ++ drop k (take n xs)) (take-take k n xs (omega arith)) ∙ ap (λ (l : List ℤ). take k xs ++ l) (ap (λ (i : ℕ). drop k (take i xs)) (sym there) ∙ drop-take k m xs) in
    sym (ap reverse split ∙ reverse-append (take k xs) (take m (drop k xs)))

-- the newest five of the first n samples, read from place k on
pub newest_of : (xs : List ℤ) (n k m : ℕ) (s : NewestFive) → AreNewest (reverse (take m (drop k xs))) s → k + m ≡ n → AreNewest (reverse (take n xs)) s
newest_of xs n k m s h e = newest_after (reverse (take m (drop k xs))) (reverse (take k xs)) (reverse (take n xs)) s (past_split xs k m n e) h

-- ---- the sample at i and the one after it

-- the two samples of the residual samples at i and j, and the five newest after them
pub record TwoMade (ks : List ℤ) (t : ℕ) (xs rest : List ℤ) (i j : ℕ) (s n : NewestFive) : Type 0 where
  pub second : n.second ≡ wrap (linear ks t (reverse (take i xs)) +ℤ get_or xs i (pos 0))
  pub newest : n.newest ≡ wrap (linear ks t (n.second ∷ reverse (take i xs)) +ℤ get_or xs j (pos 0))
  pub past : n.newest ∷ n.second ∷ five_before s rest ≡ five_before n (s.fourth ∷ s.fifth ∷ rest)

pub two_made : (ks xs pending ws : List ℤ) (i j : ℕ) (x y : ℤ) (last s n : NewestFive) (t : ℕ) → AreNewest ks last → (past : AreNewest (reverse (take i xs)) s) → pending ≡ four_pending ks (reverse (take i xs)) 0
    → ws ≡ pending → x ≡ get_or xs i (pos 0) → y ≡ get_or xs j (pos 0) → IsFollowedByTwo s last ws x y t n → TwoMade ks t xs past.rest i j s n
two_made ks xs pending ws i j x y last s n t new past pending_is ew ex ey two =
    let next = two ks past.rest new (ew ∙ pending_is ∙ ap (λ (l : List ℤ). four_pending ks l 0) past.is) in
    record {
      second = next.second ∙ ap (λ (l : List ℤ). wrap (linear ks t l +ℤ x)) (sym past.is) ∙ ap (λ (v : ℤ). wrap (linear ks t (reverse (take i xs)) +ℤ v)) ex;
      newest = next.newest ∙ ap (λ (l : List ℤ). wrap (linear ks t (n.second ∷ l) +ℤ y)) (sym past.is) ∙ ap (λ (v : ℤ). wrap (linear ks t (n.second ∷ reverse (take i xs)) +ℤ v)) ey;
      past = next.past;
    }

-- the buffer with both samples
pub made_restored : (ks xs rest : List ℤ) (t i j k : ℕ) (x y : ℤ) (s n : NewestFive) → j ≡ i + 1 → k ≡ j + 1 → j < length xs → x ≡ n.second → y ≡ n.newest → TwoMade ks t xs rest i j s n → restored (linear ks t) k (set (set xs i x) j y) ≡ restored (linear ks t) i xs
made_restored ks xs rest t i j k x y s n ej ek lt ex ey made =
    two_restored (linear ks t) xs i j k x y ej ek lt (ex ∙ made.second) (ey ∙ made.newest ∙ ap (λ (v : ℤ). wrap (linear ks t (v ∷ reverse (take i xs)) +ℤ get_or xs j (pos 0))) (sym ex))

-- the samples before the next one
pub made_past : (xs : List ℤ) (i j k : ℕ) (x y second newest : ℤ) → j ≡ i + 1 → k ≡ j + 1 → j < length xs → x ≡ second → y ≡ newest → newest ∷ second ∷ reverse (take i xs) ≡ reverse (take k (set (set xs i x) j y))
made_past xs i j k x y second newest ej ek lt ex ey =
    sym (past_two xs i j k x y ej ek lt ∙ ap (λ (v : ℤ). v ∷ x ∷ reverse (take i xs)) ey ∙ ap (λ (v : ℤ). newest ∷ v ∷ reverse (take i xs)) ex)

pub made_newest : (ks xs : List ℤ) (t i j k : ℕ) (x y : ℤ) (s n : NewestFive) (past : AreNewest (reverse (take i xs)) s) → j ≡ i + 1 → k ≡ j + 1 → j < length xs → x ≡ n.second → y ≡ n.newest → TwoMade ks t xs past.rest i j s n → AreNewest (reverse (take k (set (set xs i x) j y))) n
made_newest ks xs t i j k x y s n past ej ek lt ex ey made = record {
  rest = s.fourth ∷ s.fifth ∷ past.rest;
  is = sym (made_past xs i j k x y n.second n.newest ej ek lt ex ey) ∙ ap (λ (l : List ℤ). n.newest ∷ n.second ∷ l) past.is ∙ made.past;
}
