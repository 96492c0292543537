-- Fields that depend on the bits before them: padding up to a byte boundary, and CRCs.
use Rattle.std.proofs.Common.{◌≡◌, ℕ, ◌^◌, ◌<◌, Bool, false, not, eqb, [], ◌++◌, length, refl, sym, ap, subst, ◌∙◌, arith, inl, inr}
use Rattle.std.proofs.lemmas.List.{append-nil}
use Rattle.std.proofs.lemmas.Bool.Decides.{nat_tests}
use Rattle.claxon_format.specs.Fault.{Fault}
use Rattle.claxon_format.specs.Bits.{Bits, bits, number, Number}
use Rattle.claxon_format.specs.read.Reading.{Reads, Reading}
use Rattle.claxon_format.proofs.Laws.{Then, ThenWith, Reads-then, Reads-with, Reads-same, Reads-test, Reads-done, Reads-map}
use Rattle.claxon_format.specs.Codes.{ThenWithFault, Never, Is, Mapped}
use Rattle.claxon_format.specs.Crc.{WithCrc, WithCrcFault, padding_length, ByteAligned}
use Rattle.claxon_format.specs.read.Crc.{with_crc_at, byte_aligned_at}
use Rattle.claxon_format.proofs.Numbers.{Reads-number, length-bits, number-lt, bits-number}

-- ---- a CRC of w bits after the field that it covers

same_crc : (n g : ℕ) → not (eqb n g) ≡ false → n ≡ g
same_crc n g h = grind (arith, nat_tests)

crc_same : (n g : ℕ) → n ≡ g → not (eqb n g) ≡ false
crc_same n g h = grind (arith, nat_tests)

with_crc_to : {A : Type 0} (w : ℕ) (crc : Bits → ℕ) (C : A → Bits → Type 0) (a : A) (t : Bits) → ThenWith C (λ x y. Then (Number w) (λ n u v. (not (eqb n (crc y)) ≡ false) × Is x u v)) a t → WithCrc w crc C a t
with_crc_to w crc C a t (x, y, u, code, (n, v, z, (lt, v-is), (same, (a-is, z-is)), u-is), t-is) =
    let k : n ≡ crc y = same_crc n (crc y) same in
    (y, rw a-is code, t-is ∙ ap (λ (q : Bits). y ++ q) (u-is ∙ rw (z-is, v-is) (append-nil (bits w n)) ∙ ap (bits w) k))

with_crc_from : {A : Type 0} (w : ℕ) (crc : Bits → ℕ) → ((x : Bits) → crc x < 2 ^ w) → (C : A → Bits → Type 0) (a : A) (t : Bits) → WithCrc w crc C a t → ThenWith C (λ x y. Then (Number w) (λ n u v. (not (eqb n (crc y)) ≡ false) × Is x u v)) a t
with_crc_from w crc small C a t (y, code, t-is) =
    (a, y, bits w (crc y), code, (crc y, bits w (crc y), [], (small y, refl), (crc_same (crc y) (crc y) refl, (refl, refl)), sym (append-nil (bits w (crc y)))), t-is)

pub Reads-with_crc : {A : Type 0} {r : Bits → Reading Bool A} {C : A → Bits → Type 0} {F : Fault → Bits → Type 0} (w : ℕ) (crc : Bits → ℕ) (f : Fault) → ((x : Bits) → crc x < 2 ^ w) → Reads Bool A r C F → Reads Bool A (with_crc_at w crc f r) (WithCrc w crc C) (WithCrcFault w crc f C F)
unfolding with_crc_at
Reads-with_crc {C = C} w crc f small h =
    Reads-same (Reads-with h (λ a x c. Reads-then (Reads-number w) (λ n t d. Reads-test (not (eqb n (crc x))) f (λ same. Reads-done _ a))))
    (with_crc_to w crc C) (with_crc_from w crc small C) (λ f t c. c) (λ f t c. c)

-- ---- padding of any value up to a byte boundary

byte_aligned_to : {A : Type 0} (C : A → Bits → Type 0) (a : A) (t : Bits) → ThenWith C (λ x y. Mapped (λ n. x) (Number (padding_length y))) a t → ByteAligned C a t
byte_aligned_to C a t (x, y, u, code, (n, (lt, u-is), a-is), t-is) = (y, u, rw a-is code, ap length u-is ∙ length-bits (padding_length y) n, t-is)

byte_aligned_from : {A : Type 0} (C : A → Bits → Type 0) (a : A) (t : Bits) → ByteAligned C a t → ThenWith C (λ x y. Mapped (λ n. x) (Number (padding_length y))) a t
byte_aligned_from C a t (y, u, code, len, t-is) =
    (a, y, u, code, (number u, (subst (λ (k : ℕ). number u < 2 ^ k) len (number-lt u), subst (λ (k : ℕ). u ≡ bits k (number u)) len (sym (bits-number u))), refl), t-is)

byte_aligned_fault : {A : Type 0} (C : A → Bits → Type 0) (F : Fault → Bits → Type 0) (f : Fault) (t : Bits) → ThenWithFault C F (λ a x. Never) f t → F f t
byte_aligned_fault C F f t (inl p) = p
byte_aligned_fault C F f t (inr p) = absurd p.4

pub Reads-byte_aligned : {A : Type 0} {r : Bits → Reading Bool A} {C : A → Bits → Type 0} {F : Fault → Bits → Type 0} → Reads Bool A r C F → Reads Bool A (byte_aligned_at r) (ByteAligned C) F
unfolding byte_aligned_at
Reads-byte_aligned {C = C} {F = F} h =
    Reads-same (Reads-with h (λ a x c. Reads-map (λ n. a) (Reads-number (padding_length x)))) (byte_aligned_to C) (byte_aligned_from C) (byte_aligned_fault C F) (λ f t c. inl c)
