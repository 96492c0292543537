-- A loop that restores samples in place, with the newest ones in variables.
use Rattle.std.proofs.Common.{◌≡◌, ℕ, ◌+◌, ◌-◌, ◌<◌, ◌≤◌, List, [], ◌∷◌, ◌++◌, length, take, drop, reverse, get_or, set, refl, sym, ap, ◌∙◌, append_assoc, arith, ℤ, pos, ◌+ℤ◌, w32, FitsSigned, to_z, of_z}
use Rattle.std.proofs.lemmas.List.{take_more_set, drop_more, drop-set-lt, reverse-append, drop_all, take_all, append-nil, length-drop}
use Rattle.std.proofs.lemmas.Int.{to_z-of_z}
use borrow.Rule.Slice.PartMut.{put_mid}
use Rattle.claxon_format.specs.Predict.{wrap}
use Rattle.claxon_format.specs.read.Predict.{restore, restored}

-- i of the items were restored; whole are all restored samples, and newest those in variables
pub record Restoring (p : List ℤ → ℤ) (start whole items : List ℤ) (i : ℕ) (newest : List ℤ) : Type 0 where
  pub so_far : take i items ++ restore p (reverse (take i items) ++ start) (drop i items) ≡ whole
  pub older : List ℤ
  pub past : reverse (take i items) ++ start ≡ newest ++ older

pub restoring_next : {p : List ℤ → ℤ} {start whole items : List ℤ} {i : ℕ} {newest : List ℤ} (later : List ℤ) (x : ℤ) → i < length items → Restoring p start whole items i newest
    → ((older : List ℤ) → x ≡ wrap (p (newest ++ older) +ℤ get_or items i (pos 0))) → ((older : List ℤ) → (oldest : List ℤ) × (x ∷ (newest ++ older) ≡ later ++ oldest)) → Restoring p start whole (set items i x) (i + 1) later
restoring_next {p} {start} {whole} {items} {i} {newest} later x lt h is shifted =
    let front : take (i + 1) (set items i x) ≡ take i items ++ x ∷ [] = take_more_set items i x lt in
    let back : reverse (take (i + 1) (set items i x)) ≡ x ∷ reverse (take i items) = ap reverse front ∙ reverse-append (take i items) (x ∷ []) in
    let rest : drop (i + 1) (set items i x) ≡ drop (i + 1) items = drop-set-lt (i + 1) items i x (omega arith) in
    let past : List ℤ = reverse (take i items) ++ start in
    let value : x ≡ wrap (p (reverse (take i items) ++ start) +ℤ get_or items i (pos 0)) = is h.older ∙ ap (λ (t : List ℤ). wrap (p t +ℤ get_or items i (pos 0))) (sym h.past) in
    let one : take (i + 1) (set items i x) ++ restore p (reverse (take (i + 1) (set items i x)) ++ start) (drop (i + 1) (set items i x)) ≡ (take i items ++ x ∷ []) ++ restore p (x ∷ (reverse (take i items) ++ start)) (drop (i + 1) items)
    = ap (λ (t : List ℤ). t ++ restore p (reverse t ++ start) (drop (i + 1) (set items i x))) front
    ∙ ap (λ (t : List ℤ). (take i items ++ x ∷ []) ++ restore p (t ++ start) (drop (i + 1) (set items i x))) (reverse-append (take i items) (x ∷ []))
    ∙ ap (λ (t : List ℤ). (take i items ++ x ∷ []) ++ restore p (x ∷ (reverse (take i items) ++ start)) t) rest in
    let two : take i items ++ restore p (reverse (take i items) ++ start) (drop i items) ≡ take i items ++ x ∷ restore p (x ∷ (reverse (take i items) ++ start)) (drop (i + 1) items)
    = ap (λ (t : List ℤ). take i items ++ restore p (reverse (take i items) ++ start) t) (drop_more items i (pos 0) lt)
    ∙ ap (λ (y : ℤ). take i items ++ y ∷ restore p (y ∷ (reverse (take i items) ++ start)) (drop (i + 1) items)) (sym value) in
    let s = shifted h.older in
    record {
      so_far = one ∙ append_assoc (take i items) (x ∷ []) (restore p (x ∷ (reverse (take i items) ++ start)) (drop (i + 1) items)) ∙ sym two ∙ h.so_far;
      older = s.0;
      past = ap (λ (t : List ℤ). t ++ start) back ∙ ap (λ (t : List ℤ). x ∷ t) h.past ∙ s.1;
    }

pub restoring_end : {p : List ℤ → ℤ} {start whole items : List ℤ} {i : ℕ} {newest : List ℤ} → length items ≤ i → Restoring p start whole items i newest → items ≡ whole
restoring_end {p} {start} {whole} {items} {i} le h =
    sym (ap (λ (t : List ℤ). take i items ++ restore p (reverse (take i items) ++ start) t) (drop_all i items le) ∙ append-nil (take i items) ∙ take_all i items le) ∙ h.so_far

-- ---- the warm-up samples

-- the sample at k fits 32 bits
abbrev Fit : List ℤ → ℕ → Type 0
Fit xs k = FitsSigned w32 (get_or xs k (pos 0))

-- the sample at k, as a variable holds it
abbrev sample_at : List ℤ → ℕ → ℤ
sample_at xs k = to_z w32 (of_z w32 (get_or xs k (pos 0)))

pub front_3 : (xs : List ℤ) → Fit xs 0 → Fit xs 1 → Fit xs 2 → 3 ≤ length xs → reverse (take 3 xs) ≡ sample_at xs 2 ∷ sample_at xs 1 ∷ sample_at xs 0 ∷ []
front_3 [] f g k h = absurd (omega arith)
front_3 (a ∷ []) f g k h = absurd (omega arith)
front_3 (a ∷ b ∷ []) f g k h = absurd (omega arith)
front_3 (a ∷ b ∷ d ∷ xs) f g k h = rw (to_z-of_z w32 a f, to_z-of_z w32 b g, to_z-of_z w32 d k) refl

pub front_4 : (xs : List ℤ) → Fit xs 0 → Fit xs 1 → Fit xs 2 → Fit xs 3 → 4 ≤ length xs → reverse (take 4 xs) ≡ sample_at xs 3 ∷ sample_at xs 2 ∷ sample_at xs 1 ∷ sample_at xs 0 ∷ []
front_4 [] f g k l h = absurd (omega arith)
front_4 (a ∷ []) f g k l h = absurd (omega arith)
front_4 (a ∷ b ∷ []) f g k l h = absurd (omega arith)
front_4 (a ∷ b ∷ d ∷ []) f g k l h = absurd (omega arith)
front_4 (a ∷ b ∷ d ∷ e ∷ xs) f g k l h = rw (to_z-of_z w32 a f, to_z-of_z w32 b g, to_z-of_z w32 d k, to_z-of_z w32 e l) refl

-- all items after the warm-up samples
after_first : (order : ℕ) (xs : List ℤ) → take (length xs - order) (drop order xs) ≡ drop order xs
after_first order xs = take_all (length xs - order) (drop order xs) (omega (arith, length-drop order xs))

pub restoring_from : (p : List ℤ → ℤ) (order : ℕ) (xs newest : List ℤ) → reverse (take order xs) ≡ newest
    → Restoring p (reverse (take order xs)) (restore p (reverse (take order xs)) (drop order xs)) (take (length xs - order) (drop order xs)) 0 newest
restoring_from p order xs newest e = record {
  so_far = ap (restore p (reverse (take order xs))) (after_first order xs);
  older = [];
  past = e ∙ sym (append-nil newest);
}

pub restored_into : (p : List ℤ → ℤ) (order : ℕ) (xs items : List ℤ) → items ≡ restore p (reverse (take order xs)) (drop order xs) → put_mid order (length xs - order) xs items ≡ restored p order xs
restored_into p order xs items e =
    ap (λ (t : List ℤ). take order xs ++ (items ++ t)) (drop_all (length xs - order) (drop order xs) (omega (arith, length-drop order xs))) ∙ ap (λ (t : List ℤ). take order xs ++ t) (append-nil items ∙ e)
