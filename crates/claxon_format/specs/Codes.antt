-- How codes, and faults, are put together from those of fields: of bits, where X is Bool, or of
-- bytes, where it is ℕ.
use Rattle.std.specs.Prelude.{◌≡◌, Bool, true, false, cond, List, [], ◌∷◌, ◌++◌, ◌⊎◌}
use Rattle.claxon_format.specs.Fault.{Fault}

-- one of two codes, faults or statements, where `if .. then .. else ..` is one of two values
infix 5 when◌then◌else◌
abbrev pub when◌then◌else◌ : {A : Type 1} → Bool → A → A → A
when b then x else y = cond b x y

-- the first field has the fault, or the first is a code and the second has the fault
abbrev pub ThenFault : {X A : Type 0} → (A → List X → Type 0) → (Fault → List X → Type 0)
    → (A → Fault → List X → Type 0) → Fault → List X → Type 0
ThenFault {X} {A} C F G f s =
    F f s ⊎ ((a : A) × (t : List X) × (u : List X) × C a t × G a f u × (s ≡ t ++ u))

-- the same, where the fault of the second depends also on the bits of the first
abbrev pub ThenWithFault : {X A : Type 0} → (A → List X → Type 0) → (Fault → List X → Type 0)
    → (A → List X → Fault → List X → Type 0) → Fault → List X → Type 0
ThenWithFault {X} {A} C F G f s =
    F f s ⊎ ((a : A) × (t : List X) × (u : List X) × C a t × G a t f u × (s ≡ t ++ u))

-- the codes of values, one after another
abbrev pub Each : {X A : Type 0} → (A → List X → Type 0) → List A → List X → Type 0
Each C [] s = s ≡ []
Each {X} C (a ∷ others) s = (t : List X) × (u : List X) × C a t × Each C others u × (s ≡ t ++ u)

-- the same, where the field of each value depends on an entry of another list
abbrev pub EachWith : {X I A : Type 0} → (I → A → List X → Type 0) → List I → List A → List X
    → Type 0
EachWith C [] [] s = s ≡ []
EachWith {X} C (x ∷ xs) (a ∷ others) s =
    (t : List X) × (u : List X) × C x a t × EachWith C xs others u × (s ≡ t ++ u)
EachWith C _ _ s = ⊥

-- some of these fields are codes, and the next has the fault
abbrev pub SomeFault : {X I A : Type 0} → (I → A → List X → Type 0) → (I → Fault → List X → Type 0)
    → List I → Fault → List X → Type 0
SomeFault C F [] f s = ⊥
SomeFault C F (x ∷ xs) f s = ThenFault (C x) (F x) (λ a. SomeFault C F xs) f s

-- nothing has this fault
abbrev pub Never : {X : Type 0} → Fault → List X → Type 0
Never f t = ⊥

-- this fault, which consumes nothing
abbrev pub Met : {X : Type 0} → Fault → Fault → List X → Type 0
Met f g t = (g ≡ f) × (t ≡ [])

-- this fault where the test is true, or else a later one
abbrev pub MeetsOr : {X : Type 0} → Bool → Fault → (Fault → List X → Type 0) → Fault → List X
    → Type 0
MeetsOr b f F g t = ((b ≡ true) × (g ≡ f) × (t ≡ [])) ⊎ ((b ≡ false) × F g t)

-- a field whose value is not bad
abbrev pub Checked : {X A : Type 0} → (A → Bool) → (A → List X → Type 0) → A → List X → Type 0
Checked bad C a t = (bad a ≡ false) × C a t

-- a fault of the field, or a bad value
abbrev pub CheckedFault : {X A : Type 0} → (A → Bool) → Fault → (A → List X → Type 0)
    → (Fault → List X → Type 0) → Fault → List X → Type 0
CheckedFault bad f C F = ThenFault C F (λ a. MeetsOr (bad a) f Never)

-- this value, in no bits
abbrev pub Is : {X A : Type 0} → A → A → List X → Type 0
Is x a t = (a ≡ x) × (t ≡ [])

-- a function of what is read
abbrev pub Mapped : {X A B : Type 0} → (A → B) → (A → List X → Type 0) → B → List X → Type 0
Mapped {X} {A} f C b t = (a : A) × C a t × (b ≡ f a)
