-- A code and its faults are unambiguous: a list begins with at most one of them.
use Rattle.std.specs.Prelude.{◌≡◌, List, ◌++◌}
use Rattle.claxon_format.specs.Fault.{Fault}

-- no list begins with two codes, with a code and a fault, or with two faults
pub record IsUnambiguous {X A : Type 0} (Code : A → List X → Type 0) (Bad : Fault → List X → Type 0)
    : Type 0 where
  pub one_code : (a b : A) (t u x y : List X) → Code a t → Code b u → t ++ x ≡ u ++ y
      → (a ≡ b) × (t ≡ u)
  pub no_fault : (a : A) (f : Fault) (t u x y : List X) → Code a t → Bad f u → t ++ x ≡ u ++ y → ⊥
  pub one_fault : (f g : Fault) (t u x y : List X) → Bad f t → Bad g u → t ++ x ≡ u ++ y
      → (f ≡ g) × (t ≡ u)
