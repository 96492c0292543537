-- A code of bits with padding and a CRC, read from bytes.
use Rattle.std.proofs.Common.{◌≡◌, ◌≢◌, ℕ, ◌+◌, ◌-◌, ◌*◌, ◌/◌, ◌%◌, ◌^◌, ◌<◌, ◌≤◌, Bool, true, false, cond, not, eqb, List, ◌++◌, length, take, drop, refl, sym, ap, subst, ◌∙◌, append_assoc, arith}
use Rattle.std.proofs.lemmas.List.{length-append, length-take, take-append-drop}
use Rattle.std.proofs.lemmas.Bool.Decides.{nat_tests}
use Rattle.claxon_format.specs.Bits.{Bits, bits, bits_of, number}
use Rattle.claxon_format.specs.Fault.{Fault}
use Rattle.claxon_format.specs.read.Bytes.{by_bytes, whole, left_bytes, crc_at, with_crc_bytes_at, big_at}
use Rattle.claxon_format.specs.Crc.{padding_length}
use Rattle.claxon_format.specs.read.Crc.{byte_aligned_at, with_crc_at}
use Rattle.claxon_format.specs.read.Reading.{Reading, Reads, Done, Faulty, Incomplete, bind, and_then, done, taken, test}
use Rattle.claxon_format.specs.read.Bits.{number_at}
use Rattle.claxon_format.proofs.Bytes.{bits_of-append, length-bits_of, byte_split}
use Rattle.claxon_format.proofs.ByteNumbers.{Whole-number}
use Rattle.claxon_format.proofs.Laws.{taken_is}
use Rattle.claxon_format.proofs.WholeBytes.{Whole-then, Whole-test, Whole-done, whole_again, leaves_later}
use Rattle.claxon_format.proofs.Numbers.{Reads-number, bits-number, number-lt}

-- ---- the CRC, read by itself

crc_at_then : {A : Type 0} (w crc : ℕ) (f : Fault) (y : A) (m : List ℕ) → and_then (big_at w) (λ n. test (not (eqb n crc)) f (done y)) m ≡ bind (crc_at w crc f m) (λ u. done y)
unfolding crc_at
crc_at_then {A = A} w crc f y m = go (big_at w m)
  where
    pick : (b : Bool) (rest : List ℕ) → cond b (Faulty f rest) (Done y rest) ≡ bind (cond b (Faulty f rest) (Done (tt {0}) rest)) (λ u. done y)
    pick true rest = refl
    pick false rest = refl

    go : (x : Reading ℕ ℕ) → bind x (λ n rest. cond (not (eqb n crc)) (Faulty f rest) (Done y rest)) ≡ bind (bind x (λ n rest. cond (not (eqb n crc)) (Faulty f rest) (Done (tt {0}) rest))) (λ u. done y)
    go (Done n rest) = pick (not (eqb n crc)) rest
    go (Faulty g rest) = refl
    go Incomplete = refl

-- the CRC after the field that it covers, where the CRC of that field is known
pub with_crc_after : {A : Type 0} (w c : ℕ) (crc : Bits → ℕ) (f : Fault) (r : List ℕ → Reading ℕ A) (y : A) (s m : List ℕ) → r s ≡ Done y m → c ≡ crc (bits_of (taken s m)) → with_crc_bytes_at w crc f r s ≡ bind (crc_at w c f m) (λ u. done y)
with_crc_after w c crc f r y s m e k = rw e (ap (λ (g : ℕ). and_then (big_at w) (λ n. test (not (eqb n g)) f (done y)) m) (sym k) ∙ crc_at_then w c f y m)

pub crc_at_done : (w c n : ℕ) (f : Fault) (s m : List ℕ) → n ≡ c → big_at w s ≡ Done n m → crc_at w c f s ≡ Done tt m
unfolding crc_at
crc_at_done w c n f s m same e = let k : not (eqb n c) ≡ false = grind (arith, nat_tests) in rw (e, k) refl

pub crc_at_fault : (w c n : ℕ) (f : Fault) (s m : List ℕ) → n ≢ c → big_at w s ≡ Done n m → crc_at w c f s ≡ Faulty f m
unfolding crc_at
crc_at_fault w c n f s m other e = let k : not (eqb n c) ≡ true = grind (arith, nat_tests) in rw (e, k) refl

pub crc_at_incomplete : (w c : ℕ) (f : Fault) (s : List ℕ) → big_at w s ≡ Incomplete → crc_at w c f s ≡ Incomplete
unfolding crc_at
crc_at_incomplete w c f s e = rw e refl

-- where a code ends inside a byte, the other bits of that byte are padding
record ByteBoundary (s : List ℕ) (t m : Bits) : Type 0 where
  padding : Bits
  front : List ℕ
  rest : List ℕ
  within : length padding ≡ padding_length t
  parts : m ≡ padding ++ bits_of rest
  whole : s ≡ front ++ rest
  left : left_bytes s m ≡ rest

byte_boundary : (s : List ℕ) (t m : Bits) → bits_of s ≡ t ++ m → ByteBoundary s t m
byte_boundary s t m e =
    let total : 8 * length s ≡ length t + length m = sym (length-bits_of s) ∙ ap length e ∙ length-append t m in
    let le : length m % 8 ≤ length m = omega arith in
    let len : length (take (length m % 8) m) ≡ length m % 8 = omega (arith, length-take (length m % 8) m) in
    let whole : length (t ++ take (length m % 8) m) ≡ 8 * (length s - length m / 8) = length-append t (take (length m % 8) m) ∙ omega arith in
    let parts : bits_of s ≡ (t ++ take (length m % 8) m) ++ drop (length m % 8) m = e ∙ ap (λ (z : Bits). t ++ z) (sym (take-append-drop (length m % 8) m)) ∙ sym (append_assoc t (take (length m % 8) m) (drop (length m % 8) m)) in
    let c = byte_split s (t ++ take (length m % 8) m) (drop (length m % 8) m) (length s - length m / 8) parts whole in
    record {
      padding = take (length m % 8) m;
      front = take (length s - length m / 8) s;
      rest = drop (length s - length m / 8) s;
      within = omega arith;
      parts = sym (take-append-drop (length m % 8) m) ∙ ap (λ (z : Bits). take (length m % 8) m ++ z) (sym c.back);
      whole = sym (take-append-drop (length s - length m / 8) s);
      left = refl;
    }

padding_at : (n : ℕ) (p rest : Bits) → length p ≡ n → number_at n (p ++ rest) ≡ Done (number p) rest
padding_at n p rest e = (Reads-number n).again (number p) p rest (subst (λ (k : ℕ). number p < 2 ^ k) e (number-lt p), subst (λ (k : ℕ). p ≡ bits k (number p)) e (sym (bits-number p)))

-- the CRC of the bytes before it, read from bytes
crc_in_bytes : {A : Type 0} (w : ℕ) (crc : Bits → ℕ) (f : Fault) (a : A) (front rest : List ℕ)
    → whole (front ++ rest) (and_then (number_at (8 * w)) (λ n. test (not (eqb n (crc (bits_of front)))) f (done a)) (bits_of rest)) ≡ and_then (big_at w) (λ n. test (not (eqb n (crc (bits_of front)))) f (done a)) rest
crc_in_bytes w crc f a front rest =
    let h = Whole-then (Whole-number w) (λ n. Whole-test (not (eqb n (crc (bits_of front)))) f (Whole-done a)) in
    ap (whole (front ++ rest)) (h.same rest) ∙ whole_again (front ++ rest) _ (leaves_later (front ++ rest) front rest _ refl (h.rest rest))

pub with_crc_in_bytes : {A : Type 0} {r : Bits → Reading Bool A} {C : A → Bits → Type 0} {F : Fault → Bits → Type 0} (w : ℕ) (crc : Bits → ℕ) (f : Fault) → Reads Bool A r C F
    → (s : List ℕ) → by_bytes (with_crc_at (8 * w) crc f (byte_aligned_at r)) s ≡ with_crc_bytes_at w crc f (by_bytes r) s
unfolding with_crc_at byte_aligned_at
with_crc_in_bytes {A = A} {r = r} w crc f law s = go (r (bits_of s)) refl
  where
    SkipPadding : A → Bits → Reading Bool A
    SkipPadding a m = bind (number_at (padding_length (taken (bits_of s) m)) m) (λ n. done a)

    CheckCrc : A → Bits → Reading Bool A
    CheckCrc a m = and_then (number_at (8 * w)) (λ n. test (not (eqb n (crc (taken (bits_of s) m)))) f (done a)) m

    go : (x : Reading Bool A) → r (bits_of s) ≡ x → whole s (bind (bind x SkipPadding) CheckCrc) ≡ bind (whole s x) (λ a m. and_then (big_at w) (λ n. test (not (eqb n (crc (bits_of (taken s m))))) f (done a)) m)
    go (Done a m) e =
        let y = law.takes (bits_of s) a m e in
        let b = byte_boundary s y.0 m y.2 in
        let padding_skipped : SkipPadding a m ≡ Done a (bits_of b.rest) =
        ap (λ (z : Bits). bind (number_at (padding_length z) m) (λ n. done a)) (taken_is (bits_of s) y.0 m y.2)
        ∙ ap (λ (z : Bits). bind (number_at (padding_length y.0) z) (λ n. done a)) b.parts
        ∙ ap (λ (z : Reading Bool ℕ). bind z (λ n. done a)) (padding_at (padding_length y.0) b.padding (bits_of b.rest) b.within) in
        let bits_taken : taken (bits_of s) (bits_of b.rest) ≡ bits_of b.front = taken_is (bits_of s) (bits_of b.front) (bits_of b.rest) (ap bits_of b.whole ∙ bits_of-append b.front b.rest) in
        let bytes_taken : taken s b.rest ≡ b.front = taken_is s b.front b.rest b.whole in
        ap (λ (x : Reading Bool A). whole s (bind x CheckCrc)) padding_skipped
        ∙ ap (λ (z : Bits). whole s (and_then (number_at (8 * w)) (λ n. test (not (eqb n (crc z))) f (done a)) (bits_of b.rest))) bits_taken
        ∙ ap (λ (z : List ℕ). whole z (and_then (number_at (8 * w)) (λ n. test (not (eqb n (crc (bits_of b.front)))) f (done a)) (bits_of b.rest))) b.whole
        ∙ crc_in_bytes w crc f a b.front b.rest
        ∙ sym (ap (λ (z : List ℕ). and_then (big_at w) (λ n. test (not (eqb n (crc (bits_of (taken s z))))) f (done a)) z) b.left
        ∙ ap (λ (z : List ℕ). and_then (big_at w) (λ n. test (not (eqb n (crc (bits_of z)))) f (done a)) b.rest) bytes_taken)
    go (Faulty g m) e = refl
    go Incomplete e = refl
