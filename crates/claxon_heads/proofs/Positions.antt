-- How far a reader that counts bytes moved.
use Rattle.std.proofs.Common.{◌≡◌, ◌<◌, ◌+◌, ◌*◌, ◌%◌, ◌^◌, ℕ, List, [], ◌∷◌, ◌++◌, length, refl, sym, ap, arith, ◌∙◌, length-append, zero-add}
use Rattle.std.specs.Prelude.{Option, None, Some}
use Rattle.std.proofs.lemmas.List.{append-nil}
use Rattle.claxon.specs.Gives.{Consumes, IsRest}
use Rattle.claxon.specs.Source.{IsKnown, Source}
use Rattle.claxon.specs.State.{bytes_in, values_at_eof, remaining_as, RemainingIsKnown, final_values}
use Rattle.claxon.specs.RunningReader.{running_inner, running_value}
use Rattle.claxon.specs.RunningReaders.{RunningReader}
use Rattle.claxon_heads.specs.BytesRead.{counted_bytes, last_of, last_read, position_of, update_position}
use Rattle.claxon_heads.specs.declared.bytes_read.BytesRead.{BytesRead}

end_of : (p q : Option (List ℕ)) (f g : List ℕ → ℕ) (u v : List ℕ → List ℕ) → IsKnown p → IsKnown q → values_at_eof q (λ xs. g xs ∷ v xs) ≡ values_at_eof p (λ xs. f xs ∷ u xs) → g (remaining_as (λ all. all) q) ≡ f (remaining_as (λ all. all) p)
end_of None q f g u v k l e = absurd k
end_of (Some all) None f g u v k l e = absurd l
end_of (Some all) (Some rest) f g u v k l e =
    let o : g (rest ++ []) ∷ v (rest ++ []) ≡ f (all ++ []) ∷ u (all ++ []) = ap (λ (h : List ℕ → List ℕ). h []) e in
    let i : g (rest ++ []) ≡ f (all ++ []) = cc in
    sym (ap g (append-nil rest)) ∙ i ∙ ap f (append-nil all)

-- a position and a byte as one number
both_of : (a b c d : ℕ) → a % 2 ^ 64 + 2 ^ 64 * b ≡ c % 2 ^ 64 + 2 ^ 64 * d → (a % 2 ^ 64 ≡ c % 2 ^ 64) × (b ≡ d)
both_of a b c d e = (omega (arith, e), omega (arith, e))

-- after these bytes
after_bytes : (m n x y z : ℕ) → (n + y) % 2 ^ 64 ≡ (m + x) % 2 ^ 64 → x ≡ z + y → n % 2 ^ 64 ≡ (m + z) % 2 ^ 64
after_bytes m n x y z e f = omega arith

module _ {R : Type 0} (source : R → Source ℕ) (x y : RunningReader R BytesRead) (k : RemainingIsKnown (counted_bytes source x)) (l : RemainingIsKnown (counted_bytes source y)) (values : final_values (counted_bytes source y) ≡ final_values (counted_bytes source x)) where
  -- the position, and the last byte
  pub read_after : ((position_of y + length (counted_bytes source y).remaining) % 2 ^ 64 ≡ (position_of x + length (counted_bytes source x).remaining) % 2 ^ 64)
      × (last_of (last_read y) (counted_bytes source y).remaining ≡ last_of (last_read x) (counted_bytes source x).remaining)
  unfolding bytes_in
  read_after =
      let a = source (running_inner x) in
      let b = source (running_inner y) in
      both_of _ _ _ _ (end_of a.remaining b.remaining (update_position (running_value x)) (update_position (running_value y)) a.values b.values k l values)

  pub position_modulo : (front : List ℕ) → (counted_bytes source x).remaining ≡ front ++ (counted_bytes source y).remaining → position_of y % 2 ^ 64 ≡ (position_of x + length front) % 2 ^ 64
  position_modulo front e =
      let rest : List ℕ = (counted_bytes source y).remaining in
      let f : length (counted_bytes source x).remaining ≡ length front + length rest = ap length e ∙ length-append front rest in
      after_bytes (position_of x) (position_of y) _ (length rest) (length front) read_after.0 f

  pub position_after : position_of y < 2 ^ 64 → (front : List ℕ) → (counted_bytes source x).remaining ≡ front ++ (counted_bytes source y).remaining → position_of y ≡ (position_of x + length front) % 2 ^ 64
  position_after small front e = let p = position_modulo front e in omega (arith, p)

-- what was consumed, and how far the position moved
pub front_of : {R : Type 0} {P : List ℕ → List ℕ → Type 0} (source : R → Source ℕ) (x y : RunningReader R BytesRead) → Consumes (counted_bytes source x) (counted_bytes source y) P → RemainingIsKnown (counted_bytes source x)
    → (front : List ℕ) × ((counted_bytes source x).remaining ≡ front ++ (counted_bytes source y).remaining) × (position_of y % 2 ^ 64 ≡ (position_of x + length front) % 2 ^ 64)
unfolding bytes_in IsRest
front_of source x y h known =
    let k = h.known known in
    let rest = k.rest (counted_bytes source x).remaining ([], refl) in
    (rest.0, rest.1, position_modulo source x y known k.known k.values rest.0 rest.1)

-- from the start on
pub front_from_start : {R : Type 0} {P : List ℕ → List ℕ → Type 0} (source : R → Source ℕ) (x y : RunningReader R BytesRead) → position_of x ≡ 0 → Consumes (counted_bytes source x) (counted_bytes source y) P → RemainingIsKnown (counted_bytes source x)
    → (front : List ℕ) × ((counted_bytes source x).remaining ≡ front ++ (counted_bytes source y).remaining) × (position_of y % 2 ^ 64 ≡ length front % 2 ^ 64)
front_from_start source x y start h known =
    let f = front_of source x y h known in
    (f.0, f.1, f.2 ∙ ap (λ (n : ℕ). (n + length f.0) % 2 ^ 64) start ∙ ap (λ (n : ℕ). n % 2 ^ 64) (zero-add (length f.0)))
