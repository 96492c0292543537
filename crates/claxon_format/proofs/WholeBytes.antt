-- Readers of bits whose fields are whole bytes, and the readers of bytes that give the same.
use Rattle.std.proofs.Common.{◌≡◌, ℕ, ◌-◌, ◌/◌, Bool, true, false, List, [], ◌++◌, length, drop, refl, sym, ap, subst, ◌∙◌, append_assoc, arith}
use Rattle.claxon_format.specs.Bits.{Bits, bits_of}
use Rattle.claxon_format.specs.Fault.{Fault}
use Rattle.claxon_format.specs.read.Bytes.{by_bytes, whole}
use Rattle.claxon_format.specs.read.Reading.{Reading, Done, Faulty, Incomplete, bind, and_then, and_with, done, taken, test}
use Rattle.claxon_format.proofs.Bytes.{bits_of-append, left_again}
use Rattle.claxon_format.proofs.Laws.{taken_is}

-- the same reading, with what is left in bits
abbrev pub in_bits : {A : Type 0} → Reading ℕ A → Reading Bool A
in_bits (Done a m) = Done a (bits_of m)
in_bits (Faulty f m) = Faulty f (bits_of m)
in_bits Incomplete = Incomplete

-- what is left is the end of the list
abbrev pub Leaves : {A : Type 0} → List ℕ → Reading ℕ A → Type 0
Leaves s (Done a m) = (t : List ℕ) × (s ≡ t ++ m)
Leaves s (Faulty f m) = (t : List ℕ) × (s ≡ t ++ m)
Leaves s Incomplete = Unit {0}

pub record Whole (A : Type 0) (r : Bits → Reading Bool A) (q : List ℕ → Reading ℕ A) : Type 0 where
  pub same : (s : List ℕ) → r (bits_of s) ≡ in_bits (q s)
  pub rest : (s : List ℕ) → Leaves s (q s)

-- a reader of bytes leaves whole bytes
pub whole_again : {A : Type 0} (s : List ℕ) (x : Reading ℕ A) → Leaves s x → whole s (in_bits x) ≡ x
whole_again {A = A} s x l = go x l
  where
    back : (t m : List ℕ) → s ≡ t ++ m → drop (length s - length (bits_of m) / 8) s ≡ m
    back t m e = subst (λ (z : List ℕ). drop (length z - length (bits_of m) / 8) z ≡ m) (sym e) (left_again t m [] (omega arith))

    go : (x : Reading ℕ A) → Leaves s x → whole s (in_bits x) ≡ x
    go (Done a m) l = ap (λ (z : List ℕ). Done a z) (back l.0 m l.1)
    go (Faulty f m) l = ap (λ (z : List ℕ). Faulty f z) (back l.0 m l.1)
    go Incomplete l = refl

-- the reader of bits, on bytes, gives what the reader of bytes gives
pub whole_is : {A : Type 0} {r : Bits → Reading Bool A} {q : List ℕ → Reading ℕ A} → Whole A r q → (s : List ℕ) → by_bytes r s ≡ q s
whole_is {A = A} {r = r} {q = q} h s = ap (whole s) (h.same s) ∙ whole_again s (q s) (h.rest s)

-- ---- readers put together

in_bits_then : {A B : Type 0} (x : Reading ℕ A) {f : A → Bits → Reading Bool B} {g : A → List ℕ → Reading ℕ B} → ((a : A) → Whole B (f a) (g a)) → bind (in_bits x) f ≡ in_bits (bind x g)
in_bits_then (Done a m) k = (k a).same m
in_bits_then (Faulty f m) k = refl
in_bits_then Incomplete k = refl

pub leaves_later : {A : Type 0} (s t m : List ℕ) (x : Reading ℕ A) → s ≡ t ++ m → Leaves m x → Leaves s x
leaves_later s t m (Done a k) e l = (t ++ l.0, e ∙ ap (λ (z : List ℕ). t ++ z) l.1 ∙ sym (append_assoc t l.0 k))
leaves_later s t m (Faulty f k) e l = (t ++ l.0, e ∙ ap (λ (z : List ℕ). t ++ z) l.1 ∙ sym (append_assoc t l.0 k))
leaves_later s t m Incomplete e l = tt

leaves_then : {A B : Type 0} (s : List ℕ) (x : Reading ℕ A) (g : A → List ℕ → Reading ℕ B) → Leaves s x → ((a : A) (m : List ℕ) → Leaves m (g a m)) → Leaves s (bind x g)
leaves_then s (Done a m) g l k = leaves_later s l.0 m (g a m) l.1 (k a m)
leaves_then s (Faulty f m) g l k = l
leaves_then s Incomplete g l k = tt

pub Whole-then : {A B : Type 0} {r : Bits → Reading Bool A} {q : List ℕ → Reading ℕ A} {f : A → Bits → Reading Bool B} {g : A → List ℕ → Reading ℕ B}
    → Whole A r q → ((a : A) → Whole B (f a) (g a)) → Whole B (and_then r f) (and_then q g)
Whole-then {q = q} {f = f} {g = g} h k = record {
  same = λ s. ap (λ (x : Reading Bool _). bind x f) (h.same s) ∙ in_bits_then (q s) k;
  rest = λ s. leaves_then s (q s) g (h.rest s) (λ a m. (k a).rest m);
}

pub Whole-test : {A : Type 0} {r : Bits → Reading Bool A} {q : List ℕ → Reading ℕ A} (b : Bool) (f : Fault) → Whole A r q → Whole A (test b f r) (test b f q)
Whole-test true f h = record { same = λ s. refl; rest = λ s. ([], refl) }
Whole-test false f h = record { same = λ s. h.same s; rest = λ s. h.rest s }

pub Whole-done : {A : Type 0} (a : A) → Whole A (done a) (done a)
Whole-done a = record { same = λ s. refl; rest = λ s. ([], refl) }

-- ---- a field that depends on the bits of the field before it

with_bits : {A B : Type 0} (s : List ℕ) (x : Reading ℕ A) (f : A → Bits → Bits → Reading Bool B) (g : A → List ℕ → List ℕ → Reading ℕ B) → Leaves s x → ((a : A) (t : List ℕ) → Whole B (f a (bits_of t)) (g a t))
    → bind (in_bits x) (λ a m. f a (taken (bits_of s) m) m) ≡ in_bits (bind x (λ a m. g a (taken s m) m))
with_bits s (Done a m) f g l k =
    let taken_bits : taken (bits_of s) (bits_of m) ≡ bits_of (taken s m) =
    taken_is (bits_of s) (bits_of l.0) (bits_of m) (ap bits_of l.1 ∙ bits_of-append l.0 m) ∙ ap bits_of (sym (taken_is s l.0 m l.1)) in
    ap (λ (z : Bits). f a z (bits_of m)) taken_bits ∙ (k a (taken s m)).same m
with_bits s (Faulty e m) f g l k = refl
with_bits s Incomplete f g l k = refl

leaves_with : {A B : Type 0} (s : List ℕ) (x : Reading ℕ A) (g : A → List ℕ → List ℕ → Reading ℕ B) → Leaves s x → ((a : A) (t m : List ℕ) → Leaves m (g a t m)) → Leaves s (bind x (λ a m. g a (taken s m) m))
leaves_with s (Done a m) g l k = leaves_later s l.0 m (g a (taken s m) m) l.1 (k a (taken s m) m)
leaves_with s (Faulty f m) g l k = l
leaves_with s Incomplete g l k = tt

pub Whole-with : {A B : Type 0} {r : Bits → Reading Bool A} {q : List ℕ → Reading ℕ A} (f : A → Bits → Bits → Reading Bool B) (g : A → List ℕ → List ℕ → Reading ℕ B)
    → Whole A r q → ((a : A) (t : List ℕ) → Whole B (f a (bits_of t)) (g a t)) → Whole B (and_with r f) (and_with q g)
Whole-with {q = q} f g h k = record {
  same = λ s. ap (λ (x : Reading Bool _). bind x (λ a m. f a (taken (bits_of s) m) m)) (h.same s) ∙ with_bits s (q s) f g (h.rest s) k;
  rest = λ s. leaves_with s (q s) g (h.rest s) (λ a t m. (k a t).rest m);
}
