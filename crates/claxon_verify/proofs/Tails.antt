-- What is kept of bytes that are no frame.
use Rattle.std.proofs.Common.{◌≡◌, inl, inr, ℕ, zero, suc, ◌+◌, ◌-◌, ◌<◌, ◌≤◌, Bool, true, false, eqb, ltb, min, ◌&&◌, List, [], ◌∷◌, ◌++◌, length, take, drop, get_or, set, refl, sym, ap, ap₂, subst, ◌∙◌, arith, append_assoc, length-append}
use Rattle.std.specs.Prelude.{IsTrue, codes, ◌↔◌}
use Rattle.std.proofs.lemmas.Bool.{cases_lt, eqb-true, ltb-true}
use Rattle.std.proofs.lemmas.List.{drop_at, length-take, take-append-drop, take-append-le, take-take, take_all, take_at, take_more_set}
use Rattle.std.proofs.Math.Seq.{take-append-add}
use Rattle.std.proofs.lemmas.List.Elements.{All-append, All-cons, All-nil, All-drop, All-head, All-take}
use Rattle.claxon_blocks.specs.FirstBytes.{AreZeros}
use Rattle.claxon_verify.specs.declared.trailing.BytesAfter.{BytesAfter}
use Rattle.claxon_verify.specs.Trailing.{AreKeptOf, IsApe, IsId3v1, IsOfTail, IsSecondStream}

-- ---- the first bytes

-- of fewer than eight all are kept
all_kept : (t kept : List ℕ) → kept ≡ take 8 t → length kept < 8 → t ≡ kept
all_kept t kept e few = sym (e ∙ take_all 8 t (let n = ap length e in omega (arith, n, few, length-take 8 t)))

-- there is room for one more
one_more : (t kept : List ℕ) (y : ℕ) → AreKeptOf t kept → length kept < 8 → AreKeptOf (t ++ y ∷ []) (kept ++ y ∷ [])
one_more t kept y (inl e) few =
    inl (sym (ap (λ (s : List ℕ). take 8 (s ++ y ∷ [])) (all_kept t kept e few) ∙ take_all 8 (kept ++ y ∷ []) (omega (arith, few, length-append kept (y ∷ [])))))
one_more t kept y (inr (before, after, others, is, e)) few = inr (
  before,
  after ++ y ∷ [],
  others ++ y ∷ [],
  ap (λ (s : List ℕ). s ++ y ∷ []) is ∙ append_assoc before (255 ∷ after) (y ∷ []),
  ap (λ (s : List ℕ). s ++ y ∷ []) e ∙ append_assoc before (255 ∷ others) (y ∷ []),
)

-- there is none
no_more : (t kept more : List ℕ) → AreKeptOf t kept → 8 ≤ length kept → AreKeptOf (t ++ more) kept
no_more t kept more (inl e) most = inl (e ∙ sym (take-append-le 8 t more (let n = ap length e in omega (arith, n, most, length-take 8 t))))
no_more t kept more (inr (before, after, others, is, e)) most =
    inr (before, after ++ more, others, ap (λ (s : List ℕ). s ++ more) is ∙ append_assoc before (255 ∷ after) more, e)

-- the first of two bytes of 255
first_closes : (r others after more t before : List ℕ) → t ++ 255 ∷ r ≡ before ++ 255 ∷ after → (front : List ℕ) × (x : List ℕ) × (y : List ℕ) × (t ++ 255 ∷ others ≡ front ++ 255 ∷ x) × (before ++ 255 ∷ more ≡ front ++ 255 ∷ y)
first_closes r others after more [] [] e = ([], others, more, refl, refl)
first_closes r others after more [] (y ∷ before) e = ([], others, before ++ 255 ∷ more, refl, (let same : y ≡ 255 = cc in ap (λ (z : ℕ). z ∷ (before ++ 255 ∷ more)) same))
first_closes r others after more (x ∷ t) [] e = ([], t ++ 255 ∷ others, more, (let same : x ≡ 255 = cc in ap (λ (z : ℕ). z ∷ (t ++ 255 ∷ others)) same), refl)
first_closes r others after more (x ∷ t) (y ∷ before) e =
    let same : x ≡ y = cc in
    let rest : t ++ 255 ∷ r ≡ before ++ 255 ∷ after = cc in
    let k = first_closes r others after more t before rest in
    (y ∷ k.0, k.1, k.2, ap₂ (λ (z : ℕ) (l : List ℕ). z ∷ l) same k.3, ap (λ (l : List ℕ). y ∷ l) k.4)

-- after a byte of 255 any may follow
any_kept : (t r others kept : List ℕ) → AreKeptOf (t ++ 255 ∷ r) kept → AreKeptOf (t ++ 255 ∷ others) kept
any_kept t r others kept (inl e) = elim (cases_lt (length t) 8) [
  | inl lt ↦ (
      let n : ℕ = 7 - length t in
      let eight : length t + suc n ≡ 8 = omega (arith, lt) in
      inr (t, others, take n r, refl, e ∙ ap (λ (k : ℕ). take k (t ++ 255 ∷ r)) (sym eight) ∙ take-append-add t (255 ∷ r) (suc n))
      )
  | inr le ↦ inl (e ∙ take-append-le 8 t (255 ∷ r) le ∙ sym (take-append-le 8 t (255 ∷ others) le))
]
any_kept t r others kept (inr (before, after, more, is, e)) =
    let k = first_closes r others after more t before is in
    inr (k.0, k.1, k.2, k.3, e ∙ k.4)

-- the first 16 of m stand for it
pub whole_kept : (t m kept : List ℕ) → AreKeptOf (t ++ take 16 m) kept → AreKeptOf (t ++ m) kept
whole_kept t m kept (inl e) = inl (e ∙ go t 8 16 m (omega arith))
  where
    go : (s : List ℕ) (i j : ℕ) (m : List ℕ) → i ≤ j → take i (s ++ take j m) ≡ take i (s ++ m)
    go [] i j m le = take-take i j m le
    go (x ∷ s) zero j m le = refl
    go (x ∷ s) (suc i) j m le = ap (λ (r : List ℕ). x ∷ r) (go s i j m (omega arith))
whole_kept t m kept (inr (before, after, others, is, e)) =
    let all : t ++ m ≡ (t ++ take 16 m) ++ drop 16 m = ap (λ (s : List ℕ). t ++ s) (sym (take-append-drop 16 m)) ∙ sym (append_assoc t (take 16 m) (drop 16 m)) in
    inr (before, after ++ drop 16 m, others, all ∙ ap (λ (s : List ℕ). s ++ drop 16 m) is ∙ append_assoc before (255 ∷ after) (drop 16 m), e)

-- ---- one byte more

module _ (t first : List ℕ) (seen y : ℕ) (len : length first ≡ 8) (h : AreKeptOf t (take seen first)) where
  kept_length : seen ≤ 8 → length (take seen first) ≡ seen
  kept_length most = omega (arith, length-take seen first, len, most)

  -- there is no room for it
  pub byte_passed : (more : List ℕ) → seen ≤ 8 → 8 ≤ seen → AreKeptOf (t ++ more) (take seen first)
  byte_passed more most le = no_more t (take seen first) more h (let n = kept_length most in omega (arith, n, le))

  module _ (lt : seen < 8) where
    kept_now : take (seen + 1) (set first seen y) ≡ take seen first ++ y ∷ []
    kept_now = take_more_set first seen y (omega (arith, len, lt))

    few_kept : length (take seen first) < 8
    few_kept = let n = kept_length (omega (arith, lt)) in omega (arith, n, lt)

    pub byte_pushed : (now : ℕ) → now ≡ seen + 1 → AreKeptOf (t ++ y ∷ []) (take now (set first seen y))
    byte_pushed now is = subst (AreKeptOf (t ++ y ∷ [])) (sym (ap (λ (n : ℕ). take n (set first seen y)) is ∙ kept_now)) (one_more t (take seen first) y h few_kept)

-- ---- zeros

abbrev Zero : ℕ → Type 0
Zero y = y ≡ 0

left : (t more : List ℕ) → AreZeros (t ++ more) → AreZeros t
left t more h = subst AreZeros (take_at t more (length t) refl) (All-take Zero (length t) (t ++ more) h)

right : (t more : List ℕ) → AreZeros (t ++ more) → AreZeros more
right t more h = subst AreZeros (drop_at t more (length t) refl) (All-drop Zero (length t) (t ++ more) h)

not_zeros : (t others : List ℕ) → AreZeros (t ++ 255 ∷ others) → ⊥
not_zeros t others all = let z : 255 ≡ 0 = All-head Zero 255 others (right t (255 ∷ others) all) in absurd (omega (arith, z))

pub zeros_more : (t : List ℕ) (y : ℕ) (a b : Bool) → (IsTrue a ↔ AreZeros t) → (IsTrue b ↔ (IsTrue a × IsTrue (eqb y 0))) → IsTrue b ↔ AreZeros (t ++ y ∷ [])
zeros_more t y a b h k = (
  λ e. let p = k.0 e in All-append Zero t (y ∷ []) (h.0 p.0) (All-cons Zero y [] (eqb-true y 0 p.1) (All-nil Zero)),
  λ all. k.1 (h.1 (left t (y ∷ []) all), (let zero : y ≡ 0 = All-head Zero y [] (right t (y ∷ []) all) in rw zero refl)),
)

pub zeros_all : (t m : List ℕ) (a b c : Bool) → (IsTrue a ↔ AreZeros (t ++ take 16 m)) → (IsTrue b ↔ AreZeros m) → (IsTrue c ↔ (IsTrue a × IsTrue b)) → IsTrue c ↔ AreZeros (t ++ m)
zeros_all t m a b c h k is = (
  λ e. let p = is.0 e in All-append Zero t m (left t (take 16 m) (h.0 p.0)) (k.0 p.1),
  λ all.
      let z = right t m all in
      is.1 (h.1 (All-append Zero t (take 16 m) (left t m all) (All-take Zero 16 m z)), k.1 z),
)

-- after a byte of 255 any may follow
pub any_after : (t r others : List ℕ) (after : BytesAfter) → IsOfTail (t ++ 255 ∷ r) after → IsOfTail (t ++ 255 ∷ others) after
any_after t r others after tail = record {
  few = tail.few;
  first = any_kept t r others (take after.seen after.first) tail.first;
  zeros = (λ e. absurd (not_zeros t r (tail.zeros.0 e)), λ all. absurd (not_zeros t others all));
}

-- ---- what bytes are

-- whether each is below 255
abbrev are_below : List ℕ → Bool
are_below [] = true
are_below (x ∷ p) = ltb x 255 && are_below p

both : (a b : Bool) → (a && b) ≡ true → (a ≡ true) × (b ≡ true)
both true b e = (refl, e)
both false b e = absurd cc

front_same : (before after others p : List ℕ) → are_below p ≡ true → take (length p) (before ++ 255 ∷ after) ≡ p → take (length p) (before ++ 255 ∷ others) ≡ p
front_same before after others [] below e = refl
front_same [] after others (x ∷ p) below e =
    let same : 255 ≡ x = cc in
    let lt : x < 255 = ltb-true x 255 (both (ltb x 255) (are_below p) below).0 in
    absurd (omega (arith, same, lt))
front_same (y ∷ before) after others (x ∷ p) below e =
    let first : y ≡ x = cc in
    let more : take (length p) (before ++ 255 ∷ after) ≡ p = cc in
    ap₂ (λ (z : ℕ) (s : List ℕ). z ∷ s) first (front_same before after others p (both (ltb x 255) (are_below p) below).1 more)

same_begin : (p t kept : List ℕ) → are_below p ≡ true → length p ≤ 8 → AreKeptOf t kept → (take (length p) kept ≡ p) ↔ (take (length p) t ≡ p)
same_begin p t kept below few (inl e) =
    let same : take (length p) kept ≡ take (length p) t = ap (take (length p)) e ∙ take-take (length p) 8 t few in
    (λ k. sym same ∙ k, λ k. same ∙ k)
same_begin p t kept below few (inr (before, after, others, is, e)) = (
  λ k. ap (take (length p)) is ∙ front_same before others after p below (sym (ap (take (length p)) e) ∙ k),
  λ k. ap (take (length p)) e ∙ front_same before after others p below (sym (ap (take (length p)) is) ∙ k),
)

module _ (t first : List ℕ) (seen n : ℕ) (few : seen ≤ 8) (n_is : n ≡ min seen 8) (h : AreKeptOf t (take seen first)) where
  kept_first : AreKeptOf t (take n first)
  kept_first = let e : seen ≡ n = omega (arith, few, n_is) in subst (λ (k : ℕ). AreKeptOf t (take k first)) e h

  pub tag_begins : (count : ℕ) → IsId3v1 count (take n first) ↔ IsId3v1 count t
  tag_begins count = let k = same_begin (codes "TAG") t (take n first) refl (omega arith) kept_first in (λ is. (is.0, k.0 is.1), λ is. (is.0, k.1 is.1))

  pub ape_begins : IsApe (take n first) ↔ IsApe t
  ape_begins = same_begin (codes "APETAGEX") t (take n first) refl (omega arith) kept_first

  pub stream_begins : IsSecondStream (take n first) ↔ IsSecondStream t
  stream_begins =
      let j = same_begin (codes "fLaC" ++ (0 ∷ 0 ∷ 0 ∷ 34 ∷ [])) t (take n first) refl (omega arith) kept_first in
      let k = same_begin (codes "fLaC" ++ (0x80 ∷ 0 ∷ 0 ∷ 34 ∷ [])) t (take n first) refl (omega arith) kept_first in
      (λ is. elim is [ inl a ↦ inl (j.0 a) | inr b ↦ inr (k.0 b) ], λ is. elim is [ inl a ↦ inl (j.1 a) | inr b ↦ inr (k.1 b) ])

-- ---- the first two

pub first_two : (xs : List ℕ) → 2 ≤ length xs → take 2 xs ≡ get_or xs 0 0 ∷ get_or xs 1 0 ∷ []
first_two (x ∷ y ∷ xs) two = refl
first_two (x ∷ []) two = absurd (omega (arith, two))
first_two [] two = absurd (omega (arith, two))
