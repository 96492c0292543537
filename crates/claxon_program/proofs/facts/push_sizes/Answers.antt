use Rattle.std.proofs.Common.{◌≡◌, ℕ, None, Option, Some, ap, append-nil, append_assoc}
use Rattle.std.specs.Prelude.{IsSomeAnd}
use Rattle.std.specs.Option.{MatchOption}
use Rattle.claxon_program.proofs.facts.push_sizes.Goals as goal

-- the same number with more bits
widened : (size wide : Option ℕ) → MatchOption size (wide ≡ None) (λ x. IsSomeAnd wide (λ y. y ≡ x)) → wide ≡ size
widened None wide h = h
widened (Some x) None h = absurd h
widened (Some x) (Some y) h = ap (λ (z : ℕ). Some z) h

pub returns : goal.returns
returns g c =
    let min = widened _ _ c.map.ensures.cases in
    let max = widened _ _ c.map-2.ensures.cases in
    let numbers = simp (c.from.ensures, c.from-2.ensures, min, max) at c.in_ok-push_numbers.ensures.adds in
    let all = simp (c.as_str.ensures.value, c.in_ok-md5_text.ensures.is_text, numbers, append_assoc, append-nil) at c.push_line.ensures.adds in
    record { adds = simp (append_assoc) all }
