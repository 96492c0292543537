-- What a clock tells of a stream, and what it learns.
use Rattle.std.proofs.Common.{◌≡◌, ◌≢◌, inl, inr, ℕ, ◌+◌, ◌-◌, ◌*◌, ◌^◌, ◌<◌, Bool, true, false, List, refl, sym, ap, subst, ◌∙◌, arith}
use Rattle.std.specs.Prelude.{◌⊎◌, ◌||◌, ◌==◌, Option, Some, None, IfSome, is_some, nat_lt, unwrap_or}
use Rattle.std.proofs.lemmas.Bool.{and_from, and_parts, cases_eq, cases_lt, cond-true, cond-false, eq-eqb, eqb-true, false≢true, le-ltb, lt-ltb}
use Rattle.std.proofs.lemmas.Option.{slice_get_within}
use Rattle.claxon.specs.BlockInfos.{BlockInfo}
use Rattle.claxon.specs.StreamInfos.{StreamInfo}
use Rattle.claxon_stream_seek.specs.Clock.{CountsRight, HasLast, HasSeen, IsLast, IsLearnt, IsLearntBy, IsRightOf, KnowsUnit, counted_after, follows, time_after, time_by_number}
use Rattle.claxon_stream_seek.specs.Timeline.{AreTogether, IsFixed, IsFrame, IsSteady, IsTimeline, IsVariable, Placed, begins_at}
use Rattle.claxon_stream_seek.specs.declared.clock.Clock.{Clock}
use Rattle.claxon_stream_seek.specs.declared.clock.Counted.{Counted}
use Rattle.claxon_stream_seek.specs.declared.clock.Counted.TheVariants.{Blocks, NotKnown, Samples, VariableBlocks, VaryingBlocks}
use Rattle.claxon_stream_seek.proofs.Timelines.{begins_next, first_is_zero, fixed_time, next_frame, next_number}

-- what it is that a frame follows the last one
follows_parts : (s : Clock) (at : ℕ) (info : BlockInfo) → follows s at info ≡ true → (s.has_frame ≡ true) × (at ≡ s.end)
follows_parts s at info f =
    let p = and_parts _ _ f in
    let q = and_parts _ _ p.0 in
    (q.0, eqb-true at s.end q.1)

or_left : (x y : Bool) → x ≡ true → (x || y) ≡ true
or_left true y e = refl
or_left false y e = absurd (false≢true e)

or_right : (x y : Bool) → y ≡ true → (x || y) ≡ true
or_right true y e = refl
or_right false y e = e

follows_from : (s : Clock) (at : ℕ) (info : BlockInfo) → s.has_frame ≡ true → at ≡ s.end → (info.number - s.number ≡ 1) ⊎ (info.number - s.number ≡ s.duration) → follows s at info ≡ true
follows_from s at info h e step = and_from _ _ (and_from _ _ h (eq-eqb at s.end e)) (elim step [
  | inl one ↦ or_left (info.number - s.number == 1) (info.number - s.number == s.duration) (eq-eqb _ _ one)
  | inr all ↦ or_right (info.number - s.number == 1) (info.number - s.number == s.duration) (eq-eqb _ _ all)
])

module _ (frames : List Placed) (t : IsTimeline frames) where
  -- the frame after the last one follows it
  pub next_follows : (s : Clock) (i : ℕ) (y x : Placed) → IsLast frames i y s → s.has_frame ≡ true → y.end ≡ x.at → IsFrame frames (i + 1) x → follows s x.at x.info ≡ true
  next_follows s i y x l has joined e = follows_from s x.at x.info has (sym joined ∙ sym l.end) (elim (next_number frames t i y l.is x e) [
    | inl k ↦ inr (omega (arith, k.0, l.number, l.duration))
    | inr k ↦ inl (omega (arith, k.0, l.number))
  ])

  module _ (together : AreTogether frames) (s : Clock) (i : ℕ) (x : Placed) (e : IsFrame frames i x) (seen : HasSeen frames i s) where
    -- in order
    pub seen_next : 0 < i → (follows s x.at x.info ≡ true) × (s.has_time ≡ true) × (s.time ≡ begins_at frames i)
    seen_next some =
        let k = seen some in
        let e' = subst (λ (n : ℕ). IsFrame frames n x) k.2 e in
        (next_follows s k.0 k.1 x k.3 k.4 (together k.0 k.1 x k.3.is e') e', k.5, k.6)

  module _ (known : Option StreamInfo) (steady : IsSteady frames known) (s : Clock) (r : IsRightOf known frames steady s) (i : ℕ) (x : Placed) (e : IsFrame frames i x) where
    -- the frame that follows the last one
    pub follower : follows s x.at x.info ≡ true → (j : ℕ) × (y : Placed) × (i ≡ j + 1) × IsLast frames j y s × (s.has_time ≡ true → s.time ≡ begins_at frames i)
    follower f =
        let p = follows_parts s x.at x.info f in
        let l = r.last p.0 in
        let k = next_frame frames t l.0 i l.1 x l.2.is e (sym l.2.end ∙ sym p.1) in
        (l.0, l.1, k, l.2, λ h. l.3 h ∙ ap (begins_at frames) (sym k))

    fixed_product : IsFixed frames → (size : ℕ) → ((k : ℕ) (y : Placed) → IsFrame frames k y → 0 < k → size ≡ steady.size) → x.info.number ≢ 0 → x.info.number * size ≡ begins_at frames i
    fixed_product fixed size same some =
        let n : x.info.number ≡ i = (fixed i x e).1 in
        let is : size ≡ steady.size = same i x e (omega (arith, n, some)) in
        ap (λ (k : ℕ). k * size) n ∙ ap (λ (k : ℕ). i * k) is ∙ sym (fixed_time frames t known steady i x e)

    by_number : (counted : Counted) (size : ℕ) → CountsRight known frames steady counted size → x.info.is_variable ≡ false → x.info.number ≢ 0 → (counted ≡ Samples) ⊎ ((counted ≡ Blocks) ⊎ (counted ≡ VariableBlocks)) → time_by_number counted x.info.number size ≡ Some (begins_at frames i)
    by_number NotKnown size c v some k = elim k [ inl a ↦ absurd cc | inr b ↦ elim b [ inl a ↦ absurd cc | inr d ↦ absurd cc ] ]
    by_number VaryingBlocks size c v some k = absurd c
    by_number VariableBlocks size c v some k = absurd (false≢true (sym v ∙ (c i x e).0))
    by_number Samples size c v some k = ap (λ (n : ℕ). Some n) (c i x e)
    by_number Blocks size c v some k = elim c [
      | inl var ↦ absurd (false≢true (sym v ∙ (var i x e).0))
      | inr p ↦ (let product = fixed_product p.0 size p.1 some in
          cond-true (nat_lt (x.info.number * size) (2 ^ 64)) (Some (x.info.number * size)) None (lt-ltb _ _ (omega (arith, product, t.total i))) ∙ ap (λ (n : ℕ). Some n) product)
    ]

    pub known_by_number : x.info.is_variable ≡ false → x.info.number ≢ 0 → KnowsUnit s → time_by_number s.counted x.info.number s.block_size ≡ Some (begins_at frames i)
    known_by_number v some k = by_number s.counted s.block_size r.counts v some k

    exact_of : (o : Option ℕ) → o ≡ Some (begins_at frames i) → IfSome o (λ time. time ≡ begins_at frames i)
    exact_of o is = subst (λ (p : Option ℕ). IfSome p (λ time. time ≡ begins_at frames i)) (sym is) refl

    exact_by : (counted : Counted) (size : ℕ) → CountsRight known frames steady counted size → x.info.is_variable ≡ false → x.info.number ≢ 0 → IfSome (time_by_number counted x.info.number size) (λ time. time ≡ begins_at frames i)
    exact_by NotKnown size c v some = tt
    exact_by VaryingBlocks size c v some = tt
    exact_by VariableBlocks size c v some = tt
    exact_by Samples size c v some = exact_of _ (by_number Samples size c v some (inl refl))
    exact_by Blocks size c v some = exact_of _ (by_number Blocks size c v some (inr (inl refl)))

    pub exact_by_number : x.info.is_variable ≡ false → x.info.number ≢ 0 → IfSome (time_by_number s.counted x.info.number s.block_size) (λ time. time ≡ begins_at frames i)
    exact_by_number v some = exact_by s.counted s.block_size r.counts v some

    -- what is learnt is right
    module _ (between : Clock) (variable : x.info.is_variable ≡ false) (f : follows s x.at x.info ≡ true) (l : IsLearnt x.info.number s between) (more : s.duration ≢ 1) where
      frames_counted : (counted : Counted) (size : ℕ) → CountsRight known frames steady counted size → 0 < i → s.duration ≡ steady.size → IsFixed frames
          → CountsRight known frames steady (counted_after counted size s.duration) s.duration × ((counted_after counted size s.duration) ≡ Blocks)
      frames_counted NotKnown size c some is fixed = (inr (fixed, λ k y g lt. is), refl)
      frames_counted Samples size c some is fixed = (inr (fixed, λ k y g lt. is), refl)
      frames_counted VaryingBlocks size c some is fixed = absurd c
      frames_counted VariableBlocks size c some is fixed = absurd (false≢true (sym variable ∙ (c i x e).0))
      frames_counted Blocks size c some is fixed =
          let same : size ≡ s.duration = elim c [
            | inl var ↦ absurd (false≢true (sym variable ∙ (var i x e).0))
            | inr p ↦ p.1 i x e some ∙ sym is
          ] in
          let blocks : counted_after Blocks size s.duration ≡ Blocks = cond-true (size == s.duration) Blocks VaryingBlocks (eq-eqb _ _ same) in
          (subst (λ (d : Counted). CountsRight known frames steady d s.duration) (sym blocks) (inr (fixed, λ k y g lt. is)), blocks)

      as_learnt : (c : Clock) → between ≡ c → CountsRight known frames steady c.counted c.block_size × KnowsUnit c → CountsRight known frames steady between.counted between.block_size × KnowsUnit between
      as_learnt c is h = subst (λ (d : Clock). CountsRight known frames steady d.counted d.block_size × KnowsUnit d) (sym is) h

      pub learnt_counts : CountsRight known frames steady between.counted between.block_size × KnowsUnit between
      learnt_counts =
          let k = follower f in
          let e' = subst (λ (n : ℕ). IsFrame frames n x) k.2 e in
          let last = k.3 in
          let y = k.1 in
          elim (next_number frames t k.0 y last.is x e') [
            | inl q ↦ (let step : x.info.number - s.number ≢ 1 = λ one. more (omega (arith, q.0, last.number, last.duration, one)) in
                as_learnt _ (l.samples more step) (q.1, inl refl))
            | inr q ↦ (let step : x.info.number - s.number ≡ 1 = omega (arith, q.0, last.number) in
                let within = slice_get_within frames i x e in
                let is : s.duration ≡ steady.size = last.duration ∙ steady.same k.0 y last.is (omega (arith, within, k.2)) in
                let c = frames_counted s.counted s.block_size r.counts (omega (arith, k.2)) is q.1 in
                as_learnt _ (l.blocks more step) (c.0, inr (inl c.1)))
          ]

-- ---- the sample after a frame

after_is : (o : Option ℕ) (h : Bool) (n : ℕ) → h ≡ is_some o → n ≡ unwrap_or o 0 → h ≡ true → o ≡ Some n
after_is None h n a b c = absurd (false≢true (sym a ∙ c))
after_is (Some v) h n a b c = ap (λ (k : ℕ). Some k) (sym b)

after_parts : (o : Option ℕ) (d n : ℕ) → time_after o d ≡ Some n → (v : ℕ) × (o ≡ Some v) × (n ≡ v + d)
after_parts None d n e = absurd cc
after_parts (Some v) d n e = elim (cases_lt (v + d) (2 ^ 64)) [
  | inl lt ↦ (let is : time_after (Some v) d ≡ Some (v + d) = cond-true (nat_lt (v + d) (2 ^ 64)) (Some (v + d)) None (lt-ltb _ _ lt) in (v, refl, cc))
  | inr le ↦ (let is : time_after (Some v) d ≡ None = cond-false (nat_lt (v + d) (2 ^ 64)) (Some (v + d)) None (le-ltb _ _ le) in absurd cc)
]

after_fits : (v d : ℕ) → v + d < 2 ^ 64 → time_after (Some v) d ≡ Some (v + d)
after_fits v d lt = cond-true (nat_lt (v + d) (2 ^ 64)) (Some (v + d)) None (lt-ltb _ _ lt)

-- ---- a frame is noted

unit_kept : (between new : Clock) → new.counted ≡ between.counted → KnowsUnit between → KnowsUnit new
unit_kept between new is k = elim k [ inl a ↦ inl (is ∙ a) | inr b ↦ inr (elim b [ inl a ↦ inl (is ∙ a) | inr d ↦ inr (is ∙ d) ]) ]

unit_of_variable : (old between : Clock) → between ≡ record old { counted = VariableBlocks } → KnowsUnit between
unit_of_variable old between is = subst KnowsUnit (sym is) (inr (inr refl))

pub knows_variable : (at : ℕ) (info : BlockInfo) (old between new : Clock) → IsLearntBy at info old between → new.counted ≡ between.counted → info.is_variable ≡ true → KnowsUnit new
knows_variable at info old between new learns is v = elim learns [
  | inl p ↦ unit_kept between new is (unit_of_variable old between p.1)
  | inr p ↦ absurd (false≢true (sym p.0 ∙ v))
]

abbrev placed : ℕ → ℕ → BlockInfo → Placed
placed at end info = record { at = at; end = end; info = info }

module _ {at end : ℕ} {info : BlockInfo} {old between new : Clock} (time : Option ℕ) (learns : IsLearntBy at info old between) (last : HasLast end info (time_after time info.duration) between new) where
  module _ (frames : List Placed) (t : IsTimeline frames) where
    is_last : (i : ℕ) → IsFrame frames i (placed at end info) → IsLast frames i (placed at end info) new
    is_last i e = record { is = e; end = last.ends; number = last.numbered; duration = last.lasts }

    pub keeps_order : (i : ℕ) → IsFrame frames i (placed at end info) → time ≡ Some (begins_at frames i) → HasSeen frames (i + 1) new
    keeps_order i e is some =
        let next = begins_next frames i (placed at end info) e in
        let after : time_after time info.duration ≡ Some (begins_at frames i + info.duration) =
        ap (λ (o : Option ℕ). time_after o info.duration) is ∙ after_fits (begins_at frames i) info.duration (omega (arith, next, t.total (i + 1))) in
        (i, placed at end info, refl, is_last i e, last.has, last.has_after ∙ ap (λ (o : Option ℕ). is_some o) after, last.after_is ∙ ap (λ (o : Option ℕ). unwrap_or o 0) after ∙ sym next)

    module _ (known : Option StreamInfo) (steady : IsSteady frames known) (r : IsRightOf known frames steady old) (i : ℕ) (e : IsFrame frames i (placed at end info)) where
      counts_as : CountsRight known frames steady between.counted between.block_size → CountsRight known frames steady new.counted new.block_size
      counts_as h =
          subst (λ (n : ℕ). CountsRight known frames steady new.counted n) (sym last.sized)
          (subst (λ (c : Counted). CountsRight known frames steady c between.block_size) (sym last.counts) h)

      stays : between ≡ old → CountsRight known frames steady between.counted between.block_size
      stays is = subst (λ (c : Clock). CountsRight known frames steady c.counted c.block_size) (sym is) r.counts

      sizes_vary : info.is_variable ≡ true → IsVariable frames
      sizes_vary is = elim t.numbers [
        | inl v ↦ v
        | inr other ↦ elim other [
          | inl o ↦ absurd (false≢true (sym ((o i (placed at end info) e).0) ∙ is))
          | inr n ↦ absurd (false≢true (sym ((n i (placed at end info) e).0) ∙ is))
        ]
      ]

      of_variable : info.is_variable ≡ true → between ≡ record old { counted = VariableBlocks } → CountsRight known frames steady between.counted between.block_size
      of_variable is e = subst (λ (c : Clock). CountsRight known frames steady c.counted c.block_size) (sym e) (sizes_vary is)

      counts : CountsRight known frames steady between.counted between.block_size
      counts = elim learns [
        | inl p ↦ of_variable p.0 p.1
        | inr p ↦ elim p.1 [
          | inl q ↦ stays q.1
          | inr q ↦ elim (cases_eq old.duration 1) [
            | inl one ↦ stays (q.1.one one)
            | inr more ↦ (learnt_counts frames t known steady old r i (placed at end info) e between p.0 q.0 q.1 more).0
          ]
        ]
      ]

      pub keeps_right : IfSome time (λ v. v ≡ begins_at frames i) → IsRightOf known frames steady new
      keeps_right exact = record {
        last = λ has. (
          i,
          placed at end info,
          is_last i e,
          λ h.
              let after = after_is (time_after time info.duration) new.has_time new.time last.has_after last.after_is h in
              let p = after_parts time info.duration new.time after in
              let is = subst (λ (o : Option ℕ). IfSome o (λ v. v ≡ begins_at frames i)) p.1 exact in
              omega (arith, p.2, is, begins_next frames i (placed at end info) e),
        );
        counts = counts_as counts;
      }

      pub keeps_unit : KnowsUnit old → KnowsUnit new
      keeps_unit k = unit_kept between new last.counts (elim learns [
        | inl p ↦ unit_of_variable old between p.1
        | inr p ↦ elim p.1 [
          | inl q ↦ subst KnowsUnit (sym q.1) k
          | inr q ↦ elim (cases_eq old.duration 1) [
            | inl one ↦ subst KnowsUnit (sym (q.1.one one)) k
            | inr more ↦ (learnt_counts frames t known steady old r i (placed at end info) e between p.0 q.0 q.1 more).1
          ]
        ]
      ])

      pub learns_unit : info.is_variable ≡ false → follows old at info ≡ true → old.duration ≢ 1 → KnowsUnit new
      learns_unit v f more = unit_kept between new last.counts (elim learns [
        | inl p ↦ absurd (false≢true (sym v ∙ p.0))
        | inr p ↦ elim p.1 [
          | inl q ↦ absurd (false≢true (sym q.0 ∙ f))
          | inr q ↦ (learnt_counts frames t known steady old r i (placed at end info) e between p.0 q.0 q.1 more).1
        ]
      ])

-- ---- what is told of a frame of a stream

module _ (frames : List Placed) (t : IsTimeline frames) (i : ℕ) (x : Placed) (e : IsFrame frames i x) (at : ℕ) (info : BlockInfo) (p : at ≡ x.at) (q : info ≡ x.info) (s : Clock) where
  follows_there : follows s at info ≡ follows s x.at x.info
  follows_there = ap (λ (a : ℕ). follows s a info) p ∙ ap (λ (b : BlockInfo). follows s x.at b) q

  fixed_there : info.is_variable ≡ false → x.info.is_variable ≡ false
  fixed_there v = sym (ap (λ (b : BlockInfo). b.is_variable) q) ∙ v

  some_there : (info.number ≡ 0 → ⊥) → x.info.number ≢ 0
  some_there some none = some (ap (λ (b : BlockInfo). b.number) q ∙ none)

  same_time : time_by_number s.counted info.number s.block_size ≡ time_by_number s.counted x.info.number s.block_size
  same_time = ap (λ (b : BlockInfo). time_by_number s.counted b.number s.block_size) q

  module _ (known : Option StreamInfo) (steady : IsSteady frames known) (r : IsRightOf known frames steady s) where
    pub time_next : follows s at info ≡ true → s.has_time ≡ true → s.time ≡ begins_at frames i
    time_next f h = (follower frames t known steady s r i x e (sym follows_there ∙ f)).4 h

    pub time_numbered : info.is_variable ≡ false → (info.number ≡ 0 → ⊥) → (o : Option ℕ) → o ≡ time_by_number s.counted info.number s.block_size → IfSome o (λ time. time ≡ begins_at frames i)
    time_numbered v some o is = subst (λ (o : Option ℕ). IfSome o (λ time. time ≡ begins_at frames i)) (sym (is ∙ same_time))
        (exact_by_number frames t known steady s r i x e (fixed_there v) (some_there some))

    pub known_numbered : info.is_variable ≡ false → (info.number ≡ 0 → ⊥) → (o : Option ℕ) → o ≡ time_by_number s.counted info.number s.block_size → KnowsUnit s → o ≡ Some (begins_at frames i)
    known_numbered v some o is k = is ∙ same_time ∙ known_by_number frames t known steady s r i x e (fixed_there v) (some_there some) k

  pub not_in_order : AreTogether frames → HasSeen frames i s → (info.number ≡ 0 → ⊥) → (s.has_time ≡ false) ⊎ (follows s at info ≡ false) → ⊥
  not_in_order together seen some other =
      let later : 0 < i = elim (cases_lt 0 i) [ inl lt ↦ lt | inr le ↦ absurd (some_there some (first_is_zero frames t i x e (omega (arith, le)))) ] in
      let k = seen_next frames t together s i x e seen later in
      elim other [
        | inl u ↦ false≢true (sym u ∙ k.1)
        | inr u ↦ false≢true (sym u ∙ follows_there ∙ k.0)
      ]
