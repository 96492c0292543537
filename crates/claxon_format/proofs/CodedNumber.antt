-- Coded numbers, and their reader.
use Rattle.std.proofs.Common.{◌≡◌, ℕ, zero, suc, ◌+◌, ◌-◌, ◌*◌, ◌/◌, ◌%◌, ◌^◌, ◌<◌, ◌≤◌, Bool, true, false, cond, [], ◌∷◌, ◌++◌, replicate, refl, sym, ap, subst, ◌∙◌, append_assoc, arith, inl, inr, ◌↔◌}
use Rattle.std.proofs.lemmas.Bool.{le-ltb, cases_lt}
use Rattle.std.proofs.lemmas.Bool.Decides.{nat_tests}
use Rattle.std.proofs.lemmas.List.{append-nil}
use Rattle.std.proofs.lemmas.Nat.{pow-add, pow_pos, mod_below, mod_low, shr-shr, shr_high}
use Rattle.std.proofs.Math.Nat.{div-lt_iff_lt-mul}
use Rattle.claxon_format.specs.Fault.{NumberFirst, NumberContinuation}
use Rattle.claxon_format.specs.Bits.{Bits, bits, Number}
use Rattle.claxon_format.specs.read.Reading.{Reads, done}
use Rattle.claxon_format.proofs.Laws.{Then, Reads-then, Reads-same, Reads-test, Reads-done, Reads-assoc, Reads-test-then}
use Rattle.claxon_format.specs.Codes.{Is}
use Rattle.claxon_format.specs.CodedNumber.{continuation_bytes, CodedNumber, bad_first, continuation_count, bad_continuation, ContinuationBytesFault, CodedNumberFault}
use Rattle.claxon_format.specs.read.CodedNumber.{lead, continuation_byte_at, continuation_bytes_at, in_bits, coded_number_at, coded_number_bits_at}
use Rattle.claxon_format.proofs.Numbers.{Reads-number, bits-same, mod_small}

-- the bits of a number, split in two
pub bits-add : (a b x : ℕ) → bits (a + b) x ≡ bits a (x / 2 ^ b) ++ bits b x
unfolding bits
bits-add zero b x = ap (λ (n : ℕ). bits n x) (omega arith)
bits-add (suc a) b x =
    let k : suc a + b ≡ suc (a + b) = omega arith in
    let e : x / 2 ^ (a + b) ≡ x / 2 ^ b / 2 ^ a = ap (λ (n : ℕ). x / 2 ^ n) (omega arith) ∙ sym (shr-shr x b a) in
    rw k (rw (e, bits-add a b x) refl)

-- ---- continuation bytes

Continuation : ℕ → ℕ → ℕ → Bits → Type 0
Continuation zero a = Is a
Continuation (suc k) a = Then (Number 8) (λ c x t. (bad_continuation c ≡ false) × Continuation k (a * 64 + c % 64) x t)

continuation_top_bits : (c : ℕ) → bad_continuation c ≡ false → c / 64 ≡ 2
continuation_top_bits c h = grind (arith, nat_tests)

top_bits_continuation : (c : ℕ) → c / 64 ≡ 2 → bad_continuation c ≡ false
top_bits_continuation c h = rw h refl

bits-continuation_byte : (c : ℕ) → c / 64 ≡ 2 → bits 8 c ≡ true ∷ false ∷ bits 6 c
unfolding bits
bits-continuation_byte c h = bits-add 2 6 c ∙ rw h refl

six : (a c : ℕ) → bits 6 (a * 64 + c % 64) ≡ bits 6 c
six a c = bits-same 6 (a * 64 + c % 64) c (omega arith)

shift_more : (x k : ℕ) → x / 2 ^ (6 * suc k) ≡ x / 2 ^ (6 * k) / 64
shift_more x k =
    let e : 6 * suc k ≡ 6 * k + 6 = omega arith in
    ap (λ (n : ℕ). x / 2 ^ n) e ∙ sym (shr-shr x (6 * k) 6)

continuation_to : (k a x : ℕ) (t : Bits) → Continuation k a x t → (x / 2 ^ (6 * k) ≡ a) × (t ≡ continuation_bytes k x)
unfolding Continuation
continuation_to zero a x t c = (rw c.0 (omega arith), c.1)
continuation_to (suc k) a x t (c, u, v, (lt, u-is), (good, rest), s) =
    let p = continuation_to k (a * 64 + c % 64) x v rest in
    let top = continuation_top_bits c good in
    let up : x / 2 ^ (6 * suc k) ≡ a = shift_more x k ∙ ap (λ (n : ℕ). n / 64) p.0 ∙ omega arith in
    let low : bits 6 (x / 2 ^ (6 * k)) ≡ bits 6 c = ap (bits 6) p.0 ∙ six a c in
    (up, s ∙ rw (u-is, bits-continuation_byte c top, p.1, low) refl)

continuation_from : (k a x : ℕ) (t : Bits) → x / 2 ^ (6 * k) ≡ a → t ≡ continuation_bytes k x → Continuation k a x t
unfolding Continuation
continuation_from zero a x t e s = (sym (omega arith), s)
continuation_from (suc k) a x t e s =
    let y = x / 2 ^ (6 * k) in
    let c : ℕ = 128 + x / 2 ^ (6 * k) % 64 in
    let top : c / 64 ≡ 2 = omega arith in
    let low : c % 64 ≡ x / 2 ^ (6 * k) % 64 = omega arith in
    let up : x / 2 ^ (6 * k) / 64 ≡ a = sym (shift_more x k) ∙ e in
    let whole : x / 2 ^ (6 * k) ≡ a * 64 + c % 64 = omega arith in
    let six' : bits 6 (x / 2 ^ (6 * k)) ≡ bits 6 c = ap (bits 6) whole ∙ six a c in (
      c,
      bits 8 c,
      continuation_bytes k x,
      (omega arith, refl),
      (top_bits_continuation c top, continuation_from k (a * 64 + c % 64) x (continuation_bytes k x) whole refl),
      s ∙ rw (bits-continuation_byte c top, six') refl,
    )

Reads-continuation_bytes : (k a : ℕ) → Reads Bool ℕ (continuation_bytes_at in_bits k a) (Continuation k a) (ContinuationBytesFault k)
unfolding continuation_byte_at continuation_bytes_at Continuation
Reads-continuation_bytes zero a = Reads-done ℕ a
Reads-continuation_bytes (suc k) a =
    Reads-assoc (in_bits 1) _ _ (Reads-then (Reads-number 8) (λ c t d. Reads-test-then (bad_continuation c) NumberContinuation (done (c % 64)) _ (λ good. Reads-continuation_bytes k (a * 64 + c % 64))))

-- ---- the first byte

-- a first byte before k continuation bytes
record Lead (b k : ℕ) : Type 0 where
  below : b < 2 ^ 8
  good : bad_first b ≡ false
  count : continuation_count b ≡ k
  value : lead b ≡ b % 2 ^ (6 - k)
  bits_are : bits 8 b ≡ replicate (k + 1) true ++ (false ∷ bits (6 - k) b)

-- a first byte that begins with k + 1 ones and a zero is before k continuation bytes
leading_ones : (b k : ℕ) → 0 < k → k ≤ 6 → b / 2 ^ (6 - k) ≡ 2 ^ (k + 2) - 2
    → (192 ≤ b) × (b < 255) × (continuation_count b ≡ k) × (bits (k + 2) (2 ^ (k + 2) - 2) ≡ replicate (k + 1) true ++ (false ∷ []))
unfolding bits
leading_ones b zero some few top = absurd (omega arith)
leading_ones b (suc zero) some few top = (omega arith, omega arith, grind (arith, nat_tests), refl)
leading_ones b (suc (suc zero)) some few top = (omega arith, omega arith, grind (arith, nat_tests), refl)
leading_ones b (suc (suc (suc zero))) some few top = (omega arith, omega arith, grind (arith, nat_tests), refl)
leading_ones b (suc (suc (suc (suc zero)))) some few top = (omega arith, omega arith, grind (arith, nat_tests), refl)
leading_ones b (suc (suc (suc (suc (suc zero))))) some few top = (omega arith, omega arith, grind (arith, nat_tests), refl)
leading_ones b (suc (suc (suc (suc (suc (suc zero)))))) some few top = (omega arith, omega arith, grind (arith, nat_tests), refl)
leading_ones b (suc (suc (suc (suc (suc (suc (suc k))))))) some few top = absurd (omega arith)

lead_of : (b k : ℕ) → 0 < k → k ≤ 6 → b / 2 ^ (6 - k) ≡ 2 ^ (k + 2) - 2 → Lead b k
lead_of b k some few top =
    let r = leading_ones b k some few top in
    let lo = r.0 in
    let hi = r.1 in
    let eight : 8 ≡ (k + 2) + (6 - k) = omega arith in
    record {
      below = omega arith;
      good = grind (arith, nat_tests);
      count = r.2;
      value = ap (λ (q : Bool). cond q b (b % 2 ^ (6 - continuation_count b))) (le-ltb b 128 (omega arith)) ∙ ap (λ (n : ℕ). b % 2 ^ (6 - n)) r.2;
      bits_are = ap (λ (n : ℕ). bits n b) eight
          ∙ bits-add (k + 2) (6 - k) b
          ∙ ap (λ (z : Bits). z ++ bits (6 - k) b) (ap (bits (k + 2)) top ∙ r.3)
          ∙ append_assoc (replicate (k + 1) true) (false ∷ []) (bits (6 - k) b);
    }

lead_0 : (b : ℕ) → b < 128 → (bad_first b ≡ false) × ((continuation_count b ≡ 0) × (lead b ≡ b))
lead_0 b h = (grind (arith, nat_tests), (grind (arith, nat_tests), grind (arith, nat_tests)))

leads : (b : ℕ) → bad_first b ≡ false → b < 256 → 128 ≤ b → (0 < continuation_count b) × (continuation_count b ≤ 6) × Lead b (continuation_count b)
leads b good lt high =
    let lo : 192 ≤ b = grind (arith, nat_tests) in
    let hi : b < 255 = grind (arith, nat_tests) in
    let p = upper b lo hi in
    (p.0, p.1, lead_of b (continuation_count b) p.0 p.1 p.2)
  where
    upper : (b : ℕ) → 192 ≤ b → b < 255 → (0 < continuation_count b) × (continuation_count b ≤ 6) × (b / 2 ^ (6 - continuation_count b) ≡ 2 ^ (continuation_count b + 2) - 2)
    upper b lo hi = (grind (arith, nat_tests), grind (arith, nat_tests), grind (arith, nat_tests))

First : ℕ → Bits → Type 0
First = Then (Number 8) (λ b x t. (bad_first b ≡ false) × Continuation (continuation_count b) (lead b) x t)

SomeCodedNumber : ℕ → Bits → Type 0
SomeCodedNumber x t = (k : ℕ) × CodedNumber k x t

-- a first byte and k continuation bytes hold the numbers of 5 * k + 6 bits
coded_range : (k x : ℕ) → k ≤ 6 → (x / 2 ^ (6 * k) < 2 ^ (6 - k)) ↔ (x < 2 ^ (5 * k + 6))
coded_range k x few =
    let e : (6 - k) + 6 * k ≡ 5 * k + 6 = omega arith in
    subst (λ (n : ℕ). (x / 2 ^ (6 * k) < 2 ^ (6 - k)) ↔ (x < n)) (sym (pow-add 2 (6 - k) (6 * k)) ∙ ap (λ (n : ℕ). 2 ^ n) e) (div-lt_iff_lt-mul (pow_pos (6 * k)))

-- ---- numbers in more than one byte

large_to : (b k x : ℕ) (t v : Bits) → 0 < k → k ≤ 6 → Lead b k → Continuation k (b % 2 ^ (6 - k)) x v → t ≡ bits 8 b ++ v → CodedNumber k x t
large_to b zero x t v some few l r s = absurd (omega arith)
large_to b (suc j) x t v some few l r s =
    let k = suc j in
    let w = 6 - k in
    let p = continuation_to k (b % 2 ^ w) x v r in
    let small : b % 2 ^ w < 2 ^ w = mod_below b (2 ^ w) (pow_pos w) in
    let low : bits w (x / 2 ^ (6 * k)) ≡ bits w b = ap (bits w) p.0 ∙ bits-same w (b % 2 ^ w) b (mod_small _ _ small) in
    (few, (coded_range k x few).0 (rw p.0 small), s ∙ rw (l.bits_are, p.1, low) (append_assoc (replicate (k + 1) true) (false ∷ bits w b) (continuation_bytes k x)))

large_from : (j x : ℕ) (t : Bits) → CodedNumber (suc j) x t → First x t
unfolding First
large_from j x t (few, lt, s) =
    let k = suc j in
    let w = 6 - k in
    let y = x / 2 ^ (6 * k) in
    let small : y < 2 ^ w = (coded_range k x few).1 lt in
    let b = (2 ^ (k + 2) - 2) * 2 ^ w + y in
    let l : Lead b k = lead_of b k (omega arith) few (shr_high (2 ^ (k + 2) - 2) w y small) in
    let value : b % 2 ^ w ≡ y = mod_low (2 ^ (k + 2) - 2) w y small in
    let low : bits w b ≡ bits w y = bits-same w b y (value ∙ sym (mod_small y (2 ^ w) small)) in (
      b,
      bits 8 b,
      continuation_bytes k x,
      (l.below, refl),
      (l.good, rw (l.value, l.count) (continuation_from k (b % 2 ^ w) x (continuation_bytes k x) (sym value) refl)),
      s ∙ sym (rw (l.bits_are, low) (append_assoc (replicate (k + 1) true) (false ∷ bits w y) (continuation_bytes k x))),
    )

-- ---- all numbers

first_to : (x : ℕ) (t : Bits) → First x t → SomeCodedNumber x t
unfolding First SomeCodedNumber Continuation
first_to x t (b, u, v, (lt, u-is), (good, rest), s) =
    elim (cases_lt b 128) [
      | inl low ↦
          (let l = lead_0 b low in
          let r : Continuation 0 b x v = rw (l.1.1, l.1.0) at rest in
          (0, (rw r.0 low, s ∙ rw (u-is, r.1, r.0) (append-nil (bits 8 b)))))
      | inr high ↦
          (let k = continuation_count b in
          let p = leads b good lt high in
          (k, large_to b k x t v p.0 p.1 p.2 (rw p.2.value at rest) (s ∙ ap (λ (z : Bits). z ++ v) u-is)))
    ]

first_from : (x : ℕ) (t : Bits) → SomeCodedNumber x t → First x t
unfolding First SomeCodedNumber Continuation
first_from x t (zero, (low, s)) =
    let l = lead_0 x low in
    (x, bits 8 x, [], (omega arith, refl), (l.0, rw (l.1.1, l.1.0) (refl, refl)), s ∙ sym (append-nil (bits 8 x)))
first_from x t (suc j, c) = large_from j x t c

pub Reads-coded_number_bits : Reads Bool ℕ coded_number_bits_at (λ x t. (k : ℕ) × CodedNumber k x t) CodedNumberFault
unfolding coded_number_at First SomeCodedNumber
Reads-coded_number_bits =
    Reads-same (Reads-then (Reads-number 8) (λ b t c. Reads-test (bad_first b) NumberFirst (λ good. Reads-continuation_bytes (continuation_count b) (lead b))))
    first_to first_from (λ f t c. c) (λ f t c. c)
