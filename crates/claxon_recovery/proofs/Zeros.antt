-- Bytes of which each is 0, joined.
use Rattle.std.proofs.Common.{◌≡◌, ◌+◌, ℕ, Bool, true, false, List, ◌++◌, arith, length, length-append}
use Rattle.std.specs.Prelude.{IsTrue, ◌↔◌}
use Rattle.std.proofs.lemmas.Grind.{common_steps}
use Rattle.std.proofs.lemmas.List.Elements.{All-append}
use Rattle.claxon_blocks.specs.FirstBytes.{AreZeros}

left : (t more : List ℕ) → AreZeros (t ++ more) → AreZeros t
left t more h k d lt = let e = h k d (omega (arith, lt, length-append t more)) in grind (arith, common_steps, e)

right : (t more : List ℕ) → AreZeros (t ++ more) → AreZeros more
right t more h k d lt = let e = h (length t + k) d (omega (arith, lt, length-append t more)) in grind (arith, common_steps, e)

-- the first ones are zeros, so the others tell
pub zeros_then : (t more : List ℕ) (a b : Bool) → a ≡ true → (IsTrue a ↔ AreZeros t) → (IsTrue b ↔ AreZeros more) → IsTrue b ↔ AreZeros (t ++ more)
zeros_then t more a b e h k = (λ is. All-append (λ (x : ℕ). x ≡ 0) t more (h.0 e) (k.0 is), λ all. k.1 (right t more all))

-- the first ones aren't
pub zeros_else : (t more : List ℕ) (a : Bool) → a ≡ false → (IsTrue a ↔ AreZeros t) → IsTrue a ↔ AreZeros (t ++ more)
zeros_else t more a e h = (λ is. absurd cc, λ all. h.1 (left t more all))
