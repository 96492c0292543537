-- Where frames begin in time, and which frame comes after another.
use Rattle.std.proofs.Common.{◌≡◌, inl, inr, ℕ, zero, suc, ◌+◌, ◌-◌, ◌*◌, ◌<◌, ◌≤◌, true, List, [], ◌∷◌, length, refl, sym, ap, subst, ◌∙◌, add-one, arith}
use Rattle.std.specs.Prelude.{Option, ◌⊎◌}
use Rattle.std.proofs.lemmas.Bool.{cases_lt, false≢true}
use Rattle.std.proofs.lemmas.Option.{slice_get_cases, slice_get_within}
use Rattle.claxon.specs.StreamInfos.{StreamInfo}
use Rattle.claxon_stream_seek.specs.Timeline.{IsFixed, IsFrame, IsSteady, IsTimeline, Placed, begins_at}

begins_suc : (frames : List Placed) (i : ℕ) (x : Placed) → IsFrame frames i x → begins_at frames (suc i) ≡ begins_at frames i + x.info.duration
begins_suc [] i x e = absurd cc
begins_suc (y ∷ ys) zero x e = let same : y ≡ x = cc in omega (arith, ap (λ (z : Placed). z.info.duration) same)
begins_suc (y ∷ ys) (suc i) x e = omega (arith, begins_suc ys i x e)

-- the frame after another begins as many samples later as that has
pub begins_next : (frames : List Placed) (i : ℕ) (x : Placed) → IsFrame frames i x → begins_at frames (i + 1) ≡ begins_at frames i + x.info.duration
begins_next frames i x e = rw add-one (begins_suc frames i x e)

-- where blocks have one size
pub begins_by_size : (size : ℕ) (frames : List Placed) (n : ℕ) → ((i : ℕ) (x : Placed) → IsFrame frames i x → i < n → x.info.duration ≡ size) → n ≤ length frames → begins_at frames n ≡ n * size
begins_by_size size frames zero same le = omega arith
begins_by_size size [] (suc n) same le = absurd (omega (arith, le))
begins_by_size size (y ∷ ys) (suc n) same le =
    let first : y.info.duration ≡ size = same zero y refl (omega arith) in
    let rest = begins_by_size size ys n (λ i x e lt. same (suc i) x e (omega (arith, lt))) (omega (arith, le)) in
    omega (arith, first, rest)

module _ (frames : List Placed) (t : IsTimeline frames) where
  one_frame : (i : ℕ) (x y : Placed) → IsFrame frames i x → IsFrame frames i y → x ≡ y
  one_frame i x y e f = cc

  -- a frame that begins where another ends is the next one
  pub next_frame : (i k : ℕ) (x y : Placed) → IsFrame frames i x → IsFrame frames k y → x.end ≡ y.at → k ≡ i + 1
  next_frame i k x y e f joined = elim (cases_lt k i) [
    | inl lt ↦ absurd (omega (arith, t.ascend k i y x f e lt, t.bytes i x e, t.bytes k y f, joined))
    | inr le ↦ elim (cases_lt i k) [
      | inl lt ↦ elim (cases_lt (i + 1) k) [
        | inl far ↦ elim ((slice_get_cases frames (i + 1)).1) [
          | inl z ↦ absurd (omega (arith, t.ascend i (i + 1) x z.0 e z.2 (omega arith), t.ascend (i + 1) k z.0 y z.2 f far, t.bytes (i + 1) z.0 z.2, joined))
          | inr past ↦ absurd (omega (arith, past.0, slice_get_within frames k y f, far))
        ]
        | inr near ↦ omega (arith, lt, near)
      ]
      | inr ge ↦ (let same : i ≡ k = omega (arith, le, ge) in
          let y_is : IsFrame frames i y = subst (λ (n : ℕ). IsFrame frames n y) (sym same) f in
          let one = one_frame i x y e y_is in
          absurd (omega (arith, t.bytes i x e, joined, ap (λ (z : Placed). z.at) one)))
    ]
  ]

  module _ (i : ℕ) (x : Placed) (e : IsFrame frames i x) where
    -- by a number of samples
    pub variable_number : x.info.is_variable ≡ true → x.info.number ≡ begins_at frames i
    variable_number is = elim t.numbers [
      | inl v ↦ (v i x e).1
      | inr other ↦ elim other [
        | inl o ↦ (o i x e).1
        | inr f ↦ absurd (false≢true (sym ((f i x e).0) ∙ is))
      ]
    ]

    pub first_number : x.info.number ≡ 0 → begins_at frames i ≡ 0
    first_number is = elim t.numbers [
      | inl v ↦ omega (arith, (v i x e).1, is)
      | inr other ↦ elim other [
        | inl o ↦ omega (arith, (o i x e).1, is)
        | inr f ↦ (let none : i ≡ 0 = omega (arith, (f i x e).1, is) in ap (begins_at frames) none)
      ]
    ]

    -- the first frame has the number 0
    pub first_is_zero : i ≡ 0 → x.info.number ≡ 0
    first_is_zero none = elim t.numbers [
      | inl v ↦ (v i x e).1 ∙ ap (begins_at frames) none
      | inr other ↦ elim other [
        | inl o ↦ (o i x e).1 ∙ ap (begins_at frames) none
        | inr f ↦ (f i x e).1 ∙ none
      ]
    ]

    module _ (y : Placed) (f : IsFrame frames (i + 1) y) where
      -- numbers of samples, or of frames
      pub next_number : ((y.info.number - x.info.number ≡ x.info.duration) × ((k : ℕ) (z : Placed) → IsFrame frames k z → z.info.number ≡ begins_at frames k)) ⊎ ((y.info.number - x.info.number ≡ 1) × IsFixed frames)
      next_number = elim t.numbers [
        | inl v ↦ inl (omega (arith, (v i x e).1, (v (i + 1) y f).1, begins_next frames i x e), λ k z g. (v k z g).1)
        | inr other ↦ elim other [
          | inl o ↦ inl (omega (arith, (o i x e).1, (o (i + 1) y f).1, begins_next frames i x e), λ k z g. (o k z g).1)
          | inr g ↦ inr (omega (arith, (g i x e).1, (g (i + 1) y f).1), g)
        ]
      ]

  -- by a number of frames
  pub fixed_time : (known : Option StreamInfo) (steady : IsSteady frames known) → (i : ℕ) (x : Placed) → IsFrame frames i x → begins_at frames i ≡ i * steady.size
  fixed_time known steady i x e =
      let within = slice_get_within frames i x e in
      begins_by_size steady.size frames i (λ k y f lt. steady.same k y f (omega (arith, within, lt))) (omega (arith, within))
