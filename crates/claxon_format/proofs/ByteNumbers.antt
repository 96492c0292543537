-- Numbers of whole bytes, as bytes and as bits.
use Rattle.std.proofs.Common.{◌≡◌, ℕ, zero, suc, ◌+◌, ◌*◌, ◌^◌, ◌<◌, ◌≤◌, Bool, true, false, cond, ltb, List, [], ◌∷◌, ◌++◌, length, take, drop, refl, sym, ap, ◌∙◌, arith}
use Rattle.std.proofs.lemmas.Bool.{ltb-false, ltb-true, le-ltb, lt-ltb}
use Rattle.std.proofs.lemmas.List.{take_at, drop_at, take-append-drop, length-append, length-take}
use Rattle.std.proofs.lemmas.Nat.{pow-add}
use Rattle.std.proofs.Math.Nat.{pow-suc, mul_comm, add-mul}
use Rattle.claxon_format.specs.Bits.{Bits, bits, bits_of, number}
use Rattle.claxon_format.specs.read.Bits.{number_at}
use Rattle.claxon_format.specs.read.Bytes.{bytes_at, big_at, big_endian}
use Rattle.claxon_format.proofs.Numbers.{number-bits}
use Rattle.claxon_format.specs.read.Reading.{Done, Incomplete, bind, done}
use Rattle.claxon_format.proofs.Bytes.{bits_of-append, length-bits_of}
use Rattle.claxon_format.proofs.WholeBytes.{Leaves, Whole, in_bits}

number-append : (s t : Bits) → number (s ++ t) ≡ number s * 2 ^ length t + number t
unfolding number
number-append [] t = omega arith
number-append (b ∷ s) t =
    let p : 2 ^ length (s ++ t) ≡ 2 ^ length s * 2 ^ length t = ap (λ (n : ℕ). 2 ^ n) (length-append s t) ∙ pow-add 2 (length s) (length t) in
    rw (p, number-append s t) (joined b (2 ^ length s) (number s) (2 ^ length t) (number t))
  where
    joined : (b : Bool) (p n q m : ℕ) → cond b (p * q) 0 + (n * q + m) ≡ (cond b p 0 + n) * q + m
    joined true p n q m = omega (arith, add-mul p n q)
    joined false p n q m = omega arith

pub bytes_pow : (k : ℕ) → 256 ^ k ≡ 2 ^ (8 * k)
bytes_pow zero = refl
bytes_pow (suc k) =
    let e : 8 * suc k ≡ 8 + 8 * k = omega arith in
    pow-suc 256 k ∙ ap (λ (m : ℕ). m * 256) (bytes_pow k) ∙ mul_comm (2 ^ (8 * k)) 256 ∙ sym (ap (λ (m : ℕ). 2 ^ m) e ∙ pow-add 2 8 (8 * k))

-- the number of the bits of bytes is the big-endian number of the bytes
pub number-bits_of : (s : List ℕ) → number (bits_of s) ≡ big_endian s
unfolding bits_of number big_endian
number-bits_of [] = refl
number-bits_of (y ∷ s) =
    number-append (bits 8 y) (bits_of s) ∙ rw (number-bits 8 y, length-bits_of s, number-bits_of s, bytes_pow (length s)) refl

-- a number in k bytes is a number in 8 * k bits
pub Whole-number : (k : ℕ) → Whole ℕ (number_at (8 * k)) (big_at k)
unfolding number_at big_at bytes_at
Whole-number k = record { same = λ s. go s (ltb (length s) k) refl; rest = λ s. left s (ltb (length s) k) }
  where
    go : (s : List ℕ) (b : Bool) → ltb (length s) k ≡ b → number_at (8 * k) (bits_of s) ≡ in_bits (big_at k s)
    go s true e =
        let l : length s < k = ltb-true _ _ e in
        let n = length-bits_of s in
        let f : ltb (length (bits_of s)) (8 * k) ≡ true = lt-ltb _ _ (omega arith) in
        rw (f, e) refl
    go s false e =
        let l : k ≤ length s = ltb-false _ _ e in
        let n = length-bits_of s in
        let f : ltb (length (bits_of s)) (8 * k) ≡ false = le-ltb _ _ (omega arith) in
        let parts : bits_of s ≡ bits_of (take k s) ++ bits_of (drop k s) = ap bits_of (sym (take-append-drop k s)) ∙ bits_of-append (take k s) (drop k s) in
        let len : length (bits_of (take k s)) ≡ 8 * k = length-bits_of (take k s) ∙ ap (λ (m : ℕ). 8 * m) (omega (arith, length-take k s)) in
        let front : take (8 * k) (bits_of s) ≡ bits_of (take k s) = ap (take (8 * k)) parts ∙ take_at (bits_of (take k s)) (bits_of (drop k s)) (8 * k) len in
        let back : drop (8 * k) (bits_of s) ≡ bits_of (drop k s) = ap (drop (8 * k)) parts ∙ drop_at (bits_of (take k s)) (bits_of (drop k s)) (8 * k) len in
        rw (f, e, front, back, number-bits_of (take k s)) refl

    left : (s : List ℕ) (b : Bool) → Leaves s (bind (cond b Incomplete (Done (take k s) (drop k s))) (λ xs. done (big_endian xs)))
    left s true = tt
    left s false = (take k s, sym (take-append-drop k s))
