-- The bytes of a stream that are held.
use Rattle.std.proofs.Common.{◌≡◌, inl, inr, ℕ, ◌+◌, ◌-◌, ◌<◌, ◌≤◌, min, Bool, true, false, ltb, List, [], ◌++◌, length, take, drop, refl, sym, ap, ◌∙◌, arith}
use Rattle.std.proofs.lemmas.Bool.{cases_lt, cond-false, cond-true, false≢true, le-ltb, lt-ltb}
use Rattle.std.proofs.lemmas.List.{drop-append-le, drop-drop, drop_all, drop_at, length-drop, take_all}
use Rattle.claxon_stream.specs.Held.{StandsIn, ends_there, held_from}

module _ (at position : ℕ) (bytes : List ℕ) where
  pub held_before : position < at → held_from at position bytes ≡ []
  held_before h = cond-true (ltb position at) [] (drop (position - at) bytes) (lt-ltb position at h)

  pub held_after : at ≤ position → held_from at position bytes ≡ drop (position - at) bytes
  held_after h = cond-false (ltb position at) [] (drop (position - at) bytes) (le-ltb position at h)

  -- the bytes that are passed are at most all
  pub held_is : (passed : ℕ) → passed ≡ min (position - at) (length bytes) → at ≤ position → take (length bytes - passed) (drop passed bytes) ≡ held_from at position bytes
  held_is passed e h =
      let whole : take (length bytes - passed) (drop passed bytes) ≡ drop passed bytes = take_all (length bytes - passed) (drop passed bytes) (omega (arith, length-drop passed bytes)) in
      whole ∙ least ∙ sym (held_after h)
    where
      least : drop passed bytes ≡ drop (position - at) bytes
      least = elim (cases_lt (length bytes) (position - at)) [
        | inl lt ↦ drop_all passed bytes (omega (arith, e, lt)) ∙ sym (drop_all (position - at) bytes (omega (arith, lt)))
        | inr le ↦ (let same : passed ≡ position - at = omega (arith, e, le) in ap (λ (n : ℕ). drop n bytes) same)
      ]

  pub not_known : (is_end : Bool) → position < at → ends_there at position is_end ≡ false
  not_known is_end h = cond-true (ltb position at) false is_end (lt-ltb position at h)

  pub known : (is_end : Bool) → at ≤ position → ends_there at position is_end ≡ is_end
  known is_end h = cond-false (ltb position at) false is_end (le-ltb position at h)

-- what is left of two parts
parts_from : (n : ℕ) (front back : List ℕ) → (more : List ℕ) × (drop n (front ++ back) ≡ drop n front ++ more) × (back ≡ [] → more ≡ [])
parts_from n front back = elim (cases_lt (length front) n) [
  | inl lt ↦ (let after = n - length front in
      let whole : n ≡ length front + after = omega (arith, lt) in (
        drop after back,
        ap (λ (k : ℕ). drop k (front ++ back)) whole ∙ sym (drop-drop after (length front) (front ++ back)) ∙ ap (drop after) (drop_at front back (length front) refl) ∙ sym (ap (λ (s : List ℕ). s ++ drop after back) (drop_all n front (omega (arith, lt)))),
        λ none. ap (drop after) none ∙ drop_all after [] (omega arith),
      ))
  | inr le ↦ (back, drop-append-le n front back le, λ none. none)
]

-- what is held from a position on stands there in the stream
pub held_stands : (stream : List ℕ) (at position : ℕ) (bytes : List ℕ) (is_end : Bool) → StandsIn stream at bytes is_end → (more : List ℕ) × (drop position stream ≡ held_from at position bytes ++ more) × (ends_there at position is_end ≡ true → more ≡ [])
held_stands stream at position bytes is_end h = elim (cases_lt position at) [
  | inl lt ↦ (
    drop position stream,
    ap (λ (s : List ℕ). s ++ drop position stream) (sym (held_before at position bytes lt)),
    λ e. absurd (false≢true (sym (not_known at position bytes is_end lt) ∙ e)),
  )
  | inr le ↦ (let k = parts_from (position - at) bytes h.after in
      let there : position ≡ at + (position - at) = omega (arith, le) in (
        k.0,
        ap (λ (n : ℕ). drop n stream) there ∙ sym (drop-drop (position - at) at stream) ∙ ap (drop (position - at)) h.are ∙ k.1 ∙ ap (λ (s : List ℕ). s ++ k.0) (sym (held_after at position bytes le)),
        λ e. k.2 (h.last (sym (known at position bytes is_end le) ∙ e)),
      ))
]
