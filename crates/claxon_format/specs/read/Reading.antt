-- What reading a field gives, and how readers are put together. And the law that joins a reader,
-- a code and its faults.
use Rattle.std.specs.Prelude.{
  ◌≡◌,
  ◌-◌,
  Bool,
  List,
  [],
  ◌∷◌,
  ◌++◌,
  length,
  take,
  ℕ,
  replicate,
  if◌then◌else◌,
}
use Rattle.claxon_format.specs.Fault.{Fault}

-- a value and what is left after it; a fault and what is left after the field that has it; or
-- the list ends inside a field
pub data Reading (X A : Type 0) : Type 0 where
  Done : A → List X → Reading X A
  Faulty : Fault → List X → Reading X A
  Incomplete : Reading X A

-- ---- how readers are put together

-- what is read after a value
abbrev pub bind : {X A B : Type 0} → Reading X A → (A → List X → Reading X B) → Reading X B
bind (Done a rest) f = f a rest
bind (Faulty f rest) g = Faulty f rest
bind Incomplete g = Incomplete

-- a field, and then one that depends on its value
abbrev pub and_then : {X A B : Type 0} → (List X → Reading X A) → (A → List X → Reading X B)
    → List X → Reading X B
and_then r f s = bind (r s) f

-- a value that consumes nothing
abbrev pub done : {X A : Type 0} → A → List X → Reading X A
done x s = Done x s

-- a field for each entry of a list
unfoldable pub each_at : {X I A : Type 0} → (I → List X → Reading X A) → List I → List X
    → Reading X (List A)
each_at r [] s = Done [] s
each_at r (x ∷ xs) s =
    bind (r x s) (λ a m. bind (each_at r xs m) (λ others rest. Done (a ∷ others) rest))

-- n fields, one after another
unfoldable pub times_at : {X A : Type 0} → ℕ → (List X → Reading X A) → List X → Reading X (List A)
times_at n r = each_at (λ (_ : ℕ). r) (replicate n 0)

-- a fault that consumes nothing
abbrev pub fails : {X A : Type 0} → Fault → List X → Reading X A
fails f s = Faulty f s

-- this fault where the test is true, or else what is read next
abbrev pub test : {X A : Type 0} → Bool → Fault → (List X → Reading X A) → List X → Reading X A
test b f r s = if b then Faulty f s else r s

-- a field whose value must not be bad
abbrev pub checked_at : {X A : Type 0} → (A → Bool) → Fault → (List X → Reading X A) → List X
    → Reading X A
checked_at bad f r = and_then r (λ a. test (bad a) f (done a))

-- what was consumed, where rest is left
abbrev pub taken : {X : Type 0} → List X → List X → List X
taken s rest = take (length s - length rest) s

-- a field, and then one that depends on its value and on its code
abbrev pub and_with : {X A B : Type 0} → (List X → Reading X A)
    → (A → List X → List X → Reading X B) → List X → Reading X B
and_with r f s = bind (r s) (λ a m. f a (taken s m) m)

-- ---- a reader that accepts exactly the codes, and reports exactly the faults

pub record Reads (X A : Type 0) (read : List X → Reading X A) (Code : A → List X → Type 0)
    (Bad : Fault → List X → Type 0) : Type 0 where
  pub takes : (s : List X) (a : A) (rest : List X) → read s ≡ Done a rest
      → (t : List X) × Code a t × (s ≡ t ++ rest)
  pub again : (a : A) (t rest : List X) → Code a t → read (t ++ rest) ≡ Done a rest
  pub bad : (s : List X) (f : Fault) (rest : List X) → read s ≡ Faulty f rest
      → (t : List X) × Bad f t × (s ≡ t ++ rest)
  pub bad_again : (f : Fault) (t rest : List X) → Bad f t → read (t ++ rest) ≡ Faulty f rest
