-- The loop that reads the continuation bytes of a coded number.
use Rattle.std.proofs.Common.{◌≡◌, ◌≢◌, ℕ, zero, suc, ◌+◌, ◌-◌, ◌*◌, ◌/◌, ◌%◌, ◌^◌, ◌<◌, ◌≤◌, ◌⊎◌, inl, inr, Bool, true, false, not, cond, ◌&&◌, ◌||◌, eqb, ltb, bit_and, bit_or, List, refl, ap, ◌∙◌, arith}
use Rattle.std.specs.Int.{w8, leading_ones}
use lib.Count.{count_leading_zeros}
use Rattle.std.proofs.lemmas.Bool.{eqb-true, eqb-false, ne_eqb, ltb-true}
use Rattle.std.proofs.lemmas.Nat.{pow-add, or_shifted}
use Rattle.std.proofs.Math.Nat.{pow-le-pow_right, mod-eq_of_lt}
use Rattle.claxon_format.specs.CodedNumber.{bad_first, continuation_count}
use Rattle.claxon_format.specs.read.CodedNumber.{lead, coded_number_at, continuation_bytes_at, continuation_byte_at}
use Rattle.claxon_format.specs.Fault.{NumberFirst}
use Rattle.claxon_format.specs.read.Bytes.{big_at}
use Rattle.claxon_format.specs.read.Reading.{Done, Faulty, bind}
use Rattle.claxon_input.specs.declared.error.Error.{Error}
use Rattle.claxon_input.specs.State.{State}
use Rattle.claxon_input.specs.Gives.{Consumes, Stops}
use Rattle.claxon_input.proofs.ConsecutiveCalls.{consumes_then, consumes_map, consumes_none, stops_after}

-- i of them were read, and the number so far is y
pub record ContinuationSoFar (count x i y : ℕ) (old new : State ℕ) : Type 0 where
  pub so_far : Consumes old new (λ s m. continuation_bytes_at big_at count x s ≡ continuation_bytes_at big_at (count - i) y m)
  pub fits : y < 2 ^ (6 + 6 * i)

pub continuation_begin : (count x : ℕ) (a : State ℕ) → x < 64 → ContinuationSoFar count x 0 x a a
continuation_begin count x a lt = let k : count - 0 ≡ count = omega arith in record { so_far = consumes_none a _ (rw k refl); fits = omega arith }

one_less : (count i y : ℕ) (s : List ℕ) → i < count → continuation_bytes_at big_at (count - i) y s ≡ bind (continuation_byte_at big_at s) (λ c. continuation_bytes_at big_at (count - (i + 1)) (y * 64 + c))
unfolding continuation_bytes_at
one_less count i y s lt = let k : count - i ≡ suc (count - (i + 1)) = omega arith in rw k refl

more_fits : (i y c : ℕ) → y < 2 ^ (6 + 6 * i) → c < 64 → y * 64 + c < 2 ^ (6 + 6 * (i + 1))
more_fits i y c h k =
    let e : 6 + 6 * (i + 1) ≡ (6 + 6 * i) + 6 = omega arith in
    rw (e, pow-add 2 (6 + 6 * i) 6) (omega arith)

pub continuation_next : {count x i y : ℕ} (c : ℕ) {old new now : State ℕ} → i < count → c < 64 → ContinuationSoFar count x i y old new → Consumes new now (λ s m. continuation_byte_at big_at s ≡ Done c m) → ContinuationSoFar count x (i + 1) (y * 64 + c) old now
continuation_next {count} {x} {i} {y} c {old} {new} {now} lt small h k = record {
  so_far = consumes_then _ h.so_far k (λ p q. p ∙ one_less count i y new.remaining lt ∙ ap (λ z. bind z (λ c. continuation_bytes_at big_at (count - (i + 1)) (y * 64 + c))) q);
  fits = more_fits i y c h.fits small;
}

none_left : (count i y : ℕ) (s : List ℕ) → count ≤ i → continuation_bytes_at big_at (count - i) y s ≡ Done y s
unfolding continuation_bytes_at
none_left count i y s le = let k : count - i ≡ 0 = omega arith in rw k refl

pub continuation_end : {count x i y : ℕ} {old new : State ℕ} → count ≤ i → ContinuationSoFar count x i y old new → Consumes old new (λ s m. continuation_bytes_at big_at count x s ≡ Done y m)
continuation_end {count} {x} {i} {y} {old} {new} le h = consumes_map _ h.so_far (λ p. p ∙ none_left count i y new.remaining le)

pub continuation_err : {count x i y : ℕ} {e : Error} {old new now : State ℕ} → i < count → ContinuationSoFar count x i y old new → Stops e (continuation_byte_at big_at) new now → Stops e (continuation_bytes_at big_at count x) old now
continuation_err {count} {x} {i} {y} lt h k = stops_after h.so_far (record {
  fault = λ s f rest e. one_less count i y s lt ∙ ap (λ z. bind z (λ c. continuation_bytes_at big_at (count - (i + 1)) (y * 64 + c))) e;
  incomplete = λ s e. one_less count i y s lt ∙ ap (λ z. bind z (λ c. continuation_bytes_at big_at (count - (i + 1)) (y * 64 + c))) e;
}) k

-- ---- the first byte

-- what the leading ones say of a first byte, tested for each byte
first_test : ℕ → ℕ → Bool
first_test b n =
    cond (eqb n 0) (not (bad_first b) && (eqb (continuation_count b) 0 && eqb (lead b) b))
    (cond (eqb n 1 || eqb n 8) (bad_first b) (not (bad_first b) && (eqb (continuation_count b) (n - 1) && (eqb (lead b) (bit_and b (127 / 2 ^ n)) && (ltb (lead b) 64 && ltb n 8)))))

all_below : (ℕ → Bool) → ℕ → Bool
all_below f zero = true
all_below f (suc k) = f k && all_below f k

each_tested : all_below (λ b. first_test b (leading_ones w8 b)) 256 ≡ true
unfolding all_below first_test count_leading_zeros
each_tested = refl

both : (a b : Bool) → (a && b) ≡ true → (a ≡ true) × (b ≡ true)
both true b e = (refl, e)
both false b e = absurd cc

flipped : (b : Bool) → not b ≡ true → b ≡ false
flipped true e = absurd cc
flipped false e = refl

below : (f : ℕ → Bool) (k b : ℕ) → all_below f k ≡ true → b < k → f b ≡ true
unfolding all_below
below f zero b e lt = absurd (omega arith)
below f (suc k) b e lt = let p = both (f k) (all_below f k) e in go (eqb b k) refl p.0 (λ h. below f k b p.1 h)
  where
    go : (t : Bool) → eqb b k ≡ t → f k ≡ true → (b < k → f b ≡ true) → f b ≡ true
    go true t p q = ap f (eqb-true b k t) ∙ p
    go false t p q = let d : b ≢ k = eqb-false b k t in q (omega arith)

tested : (b n : ℕ) → b < 256 → n ≡ leading_ones w8 b → first_test b n ≡ true
tested b n lt e = rw e (below (λ b. first_test b (leading_ones w8 b)) 256 b each_tested lt)

-- n continuation bytes follow a first byte, whose bits of the number are x
pub record FirstByte (b n x : ℕ) : Type 0 where
  pub good : bad_first b ≡ false
  pub count : continuation_count b ≡ n
  pub value : lead b ≡ x

-- a single byte is the number
pub one_byte : (b n : ℕ) → b < 256 → n ≡ leading_ones w8 b → n ≡ 0 → FirstByte b 0 b
unfolding first_test
one_byte b n lt e z =
    let t = both (not (bad_first b)) _ (rw z at (tested b n lt e)) in
    let u = both (eqb (continuation_count b) 0) _ t.1 in
    record { good = flipped (bad_first b) t.0; count = eqb-true _ _ u.0; value = eqb-true _ _ u.1 }

-- an invalid first byte
bad_byte : (b n : ℕ) → b < 256 → n ≡ leading_ones w8 b → (n ≡ 1) ⊎ (n ≡ 8) → bad_first b ≡ true
unfolding first_test
bad_byte b n lt e (inl z) = rw z at (tested b n lt e)
bad_byte b n lt e (inr z) = rw z at (tested b n lt e)

-- the leading ones are the number of bytes
pub more_bytes : (b n : ℕ) → b < 256 → n ≡ leading_ones w8 b → n ≢ 0 → bad_first b ≡ false → FirstByte b (n - 1) (bit_and b (127 / 2 ^ n)) × ((bit_and b (127 / 2 ^ n) < 64) × (n < 8))
unfolding first_test
more_bytes b n lt e some good =
    let one : n ≢ 1 = λ z. (let k = bad_byte b n lt e (inl z) in cc) in
    let all : n ≢ 8 = λ z. (let k = bad_byte b n lt e (inr z) in cc) in
    let t = both (not (bad_first b)) _ (rw (ne_eqb n 0 some, ne_eqb n 1 one, ne_eqb n 8 all) at (tested b n lt e)) in
    let u = both (eqb (continuation_count b) (n - 1)) _ t.1 in
    let v = both (eqb (lead b) (bit_and b (127 / 2 ^ n))) _ u.1 in
    let w = both (ltb (lead b) 64) _ v.1 in
    let value = eqb-true _ _ v.0 in
    (record { good = good; count = eqb-true _ _ u.0; value = value }, (rw value at (ltb-true _ _ w.0), ltb-true _ _ w.1))

-- what is read after the first byte
pub coded_good : {b n x : ℕ} (s m : List ℕ) → FirstByte b n x → big_at 1 s ≡ Done b m → coded_number_at big_at s ≡ continuation_bytes_at big_at n x m
unfolding coded_number_at
coded_good s m h e = rw (e, h.good, h.value, h.count) refl

pub coded_one : {b x : ℕ} (s m : List ℕ) → FirstByte b 0 x → big_at 1 s ≡ Done b m → coded_number_at big_at s ≡ Done x m
unfolding continuation_bytes_at
coded_one s m h e = coded_good s m h e

pub coded_bad : (b : ℕ) (s m : List ℕ) → bad_first b ≡ true → big_at 1 s ≡ Done b m → coded_number_at big_at s ≡ Faulty NumberFirst m
unfolding coded_number_at
coded_bad b s m h e = rw (e, h) refl

-- ---- six more bits of a number

pub six_more : (count i y c : ℕ) → count ≤ 6 → i < count → y < 2 ^ (6 + 6 * i) → c < 64 → bit_or (y * 64 % 2 ^ 64) c ≡ y * 64 + c
six_more count i y c six lt fits small =
    let some : 0 < 2 = omega arith in
    let high : 6 + 6 * i ≤ 36 = omega arith in
    let p : 2 ^ (6 + 6 * i) ≤ 2 ^ 36 = pow-le-pow_right some high in
    let e : y * 64 % 2 ^ 64 ≡ y * 64 = mod-eq_of_lt (omega arith) in
    rw e (or_shifted y 6 c small)
