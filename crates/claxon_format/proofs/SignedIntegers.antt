-- Integers in two's complement, and their reader.
use Rattle.std.proofs.Common.{◌≡◌, ℕ, suc, ◌-◌, ◌*◌, ◌^◌, ◌<◌, Bool, true, false, ltb, refl, sym, ap, ◌∙◌, arith, inl, inr, ℤ, pos, negsuc}
use Rattle.std.proofs.lemmas.Bool.{cases_lt, le-ltb, lt-ltb}
use Rattle.std.proofs.Math.Nat.{pow-suc}
use Rattle.std.proofs.lemmas.Nat.{pow_pos, mod_below}
use Rattle.claxon_format.specs.Bits.{bits, residue, FitsIn, Signed}
use Rattle.claxon_format.specs.read.Bits.{twos_complement, signed_at}
use Rattle.claxon_format.specs.read.Reading.{Reads}
use Rattle.claxon_format.specs.Codes.{Never}
use Rattle.claxon_format.proofs.Laws.{Reads-same, Reads-map}
use Rattle.claxon_format.proofs.Numbers.{Reads-number, mod_small}

doubled : (w : ℕ) → 0 < w → 2 ^ w ≡ 2 * 2 ^ (w - 1)
doubled w h = let k : w ≡ suc (w - 1) = omega arith in ap (λ (n : ℕ). 2 ^ n) k ∙ pow-suc 2 (w - 1) ∙ omega arith

residue_pos : (w n : ℕ) → n < 2 ^ w → residue w (pos n) ≡ n
unfolding residue
residue_pos w n h = mod_small n (2 ^ w) h

residue_neg : (w n : ℕ) → n < 2 ^ w → residue w (negsuc n) ≡ 2 ^ w - 1 - n
unfolding residue
residue_neg w n h = ap (λ (m : ℕ). 2 ^ w - 1 - m) (mod_small n (2 ^ w) h)

pub twos_complement-residue : (w : ℕ) (z : ℤ) → 0 < w → FitsIn w z → twos_complement w (residue w z) ≡ z
unfolding twos_complement
twos_complement-residue w (pos n) h f =
    let d = doubled w h in
    let lt : ltb n (2 ^ (w - 1)) ≡ true = lt-ltb _ _ f in
    rw (residue_pos w n (omega arith), lt) refl
twos_complement-residue w (negsuc n) h f =
    let d = doubled w h in
    let high : ltb (2 ^ w - 1 - n) (2 ^ (w - 1)) ≡ false = le-ltb _ _ (omega arith) in
    rw (residue_neg w n (omega arith), high) (ap negsuc (omega arith))

pub twos_complement_cases : (w n : ℕ) → 0 < w → n < 2 ^ w → FitsIn w (twos_complement w n) × (residue w (twos_complement w n) ≡ n)
unfolding twos_complement
twos_complement_cases w n h lt =
    let d = doubled w h in
    elim (cases_lt n (2 ^ (w - 1))) [
      | inl low ↦ (let b : ltb n (2 ^ (w - 1)) ≡ true = lt-ltb _ _ low in rw b (low, residue_pos w n lt))
      | inr high ↦ (let b : ltb n (2 ^ (w - 1)) ≡ false = le-ltb _ _ high in rw b (omega arith, residue_neg w (2 ^ w - 1 - n) (omega arith) ∙ omega arith))
    ]

residue_lt : (w : ℕ) (z : ℤ) → residue w z < 2 ^ w
unfolding residue
residue_lt w (pos n) = mod_below n (2 ^ w) (pow_pos w)
residue_lt w (negsuc n) = let p : 0 < 2 ^ w = pow_pos w in omega arith

pub Reads-signed : (w : ℕ) → 0 < w → Reads Bool ℤ (signed_at w) (Signed w) Never
unfolding signed_at
Reads-signed w h =
    Reads-same (Reads-map (twos_complement w) (Reads-number w))
    (λ z t c. let p = twos_complement_cases w c.0 h c.1.0 in (rw c.2 p.0, c.1.1 ∙ ap (bits w) (sym p.1 ∙ ap (residue w) (sym c.2))))
    (λ z t c. (residue w z, (residue_lt w z, c.1), sym (twos_complement-residue w z h c.0)))
    (λ f t c. c) (λ f t c. c)
