-- From bits to whole bytes: what is left over of the last byte read is padding.
use Rattle.std.proofs.Common.{◌≡◌, ℕ, ◌+◌, ◌-◌, ◌/◌, ◌<◌, Bool, List, [], ◌∷◌, ◌++◌, length, drop, refl, ap, subst, ◌∙◌, arith, inl, inr}
use Rattle.std.specs.Prelude.{Result, Ok, Err, Option, None, Some}
use Rattle.std.specs.Borrow.{MutBor, GName}
use Rattle.std.proofs.lemmas.List.{length-append, drop_at}
use Rattle.claxon_format.specs.Bits.{Bits, bits, bits_of}
use Rattle.claxon_format.specs.Fault.{Fault}
use Rattle.claxon_format.specs.read.Bytes.{by_bytes, left_bytes}
use Rattle.claxon_format.specs.read.Reading.{Reading, Done, Faulty, Incomplete}
use Rattle.claxon_format.proofs.Bytes.{length-bits_of}
use Rattle.claxon_format.proofs.Numbers.{length-bits}
use Rattle.claxon_input.specs.Source.{Source, IsKnown, through_loan}
use Rattle.claxon_input.specs.Gives.{Consumes, ReadFailedOrRemaining, Gives, IsRest}
use Rattle.claxon_input.specs.State.{bits_in, bytes_in, state_of, bits_after, remaining_as}
use Rattle.claxon_input.specs.Bitstream.{bit_state}
use Rattle.claxon_input.specs.declared.bits.Bitstream.{Bitstream}
use Rattle.claxon_input.specs.declared.error.Error.{Error}
use Rattle.claxon_input.proofs.RunningReaders.{over_borrow}
use Rattle.claxon_input.proofs.Promises.{fault_is}
use Rattle.claxon_input.proofs.ConsecutiveCalls.{gives_loans}

-- what is left, by how long it is
rest_is : (z m : List ℕ) (n : ℕ) → IsRest z m → n ≡ length z - length m → drop n z ≡ m
unfolding IsRest
rest_is z m n h e =
    let len = ap length h.1 ∙ length-append h.0 m in
    ap (drop n) h.1 ∙ drop_at h.0 m n (omega arith)

-- where fewer than eight bits and m are left of z, m is what is left of its bytes
left_is : (z m : List ℕ) (left : Bits) → length left < 8 → IsRest z m → left_bytes z (left ++ bits_of m) ≡ m
left_is z m left few h =
    let len = length-append left (bits_of m) ∙ ap (λ n. length left + n) (length-bits_of m) in
    let n : length (left ++ bits_of m) / 8 ≡ length m = omega arith in
    rest_is z m _ h (ap (λ k. length z - k) n)

-- ---- what reading gives

aligned_is : {A : Type 0} (read : Bits → Reading Bool A) (a : A) (z m : List ℕ) (left : Bits) → length left < 8 → IsRest z m → read (bits_of z) ≡ Done a (left ++ bits_of m) → by_bytes read z ≡ Done a m
aligned_is read a z m left few h e = rw e (ap (Done a) (left_is z m left few h))

aligned_fault_is : {A : Type 0} (read : Bits → Reading Bool A) (f : Fault) (z m : List ℕ) (left : Bits) → length left < 8 → IsRest z m → read (bits_of z) ≡ Faulty f (left ++ bits_of m) → by_bytes read z ≡ Faulty f m
aligned_fault_is read f z m left few h e = rw e (ap (Faulty f) (left_is z m left few h))

aligned_incomplete_is : {A : Type 0} (read : Bits → Reading Bool A) (z : List ℕ) → read (bits_of z) ≡ Incomplete → by_bytes read z ≡ Incomplete
aligned_incomplete_is read z e = rw e refl

-- ---- what was consumed

both_known : (P : Bits → Bits → Type 0) (Q : List ℕ → List ℕ → Type 0) (left : Bits) (p q : Option (List ℕ)) → ((z m : List ℕ) → IsRest z m → P (bits_of z) (left ++ bits_of m) → Q z m) → IsKnown p → IsKnown q
    → ((z : List ℕ) → IsRest z (remaining_as (λ all. all) p) → IsRest z (remaining_as (λ all. all) q)) → P (remaining_as (bits_after []) p) (remaining_as (bits_after left) q) → Q (remaining_as (λ all. all) p) (remaining_as (λ all. all) q)
unfolding IsRest
both_known P Q left None q f t u rest k = absurd t
both_known P Q left (Some z) None f t u rest k = absurd u
both_known P Q left (Some z) (Some m) f t u rest k = f z m (rest z ([], refl)) k

module _ (s t : Source ℕ) (j k : GName) (left : Bits) (few : length left < 8) where
  consumes_aligned : (P : Bits → Bits → Type 0) (Q : List ℕ → List ℕ → Type 0) → ((z m : List ℕ) → IsRest z m → P (bits_of z) (left ++ bits_of m) → Q z m)
      → Consumes (state_of (bits_after []) (through_loan j s)) (state_of (bits_after left) (through_loan k t)) P → Consumes (state_of (λ all. all) s) (state_of (λ all. all) t) Q
  consumes_aligned P Q f h = record {
    errors = h.errors;
    empty_reads = h.empty_reads;
    loans = (let e : k ∷ t.loans ≡ j ∷ s.loans = h.loans in cc);
    known = λ e. let x = h.known e in record { known = x.known; is = both_known P Q left s.remaining t.remaining f e x.known x.rest x.is; rest = x.rest; values = x.values };
  }

  failure_or_aligned : (P : Bits → Type 0) (Q : List ℕ → Type 0) → ((z : List ℕ) → P (bits_of z) → Q z)
      → ReadFailedOrRemaining (state_of (bits_after []) (through_loan j s)) (state_of (bits_after left) (through_loan k t)) P → ReadFailedOrRemaining (state_of (λ all. all) s) (state_of (λ all. all) t) Q
  failure_or_aligned P Q f h = record {
    loans = (let e : k ∷ t.loans ≡ j ∷ s.loans = h.loans in cc);
    known = λ e. let x = h.known e in record { known = x.known; why = elim x.why [ inl p ↦ inl (both_known (λ a b. P a) (λ a b. Q a) left s.remaining t.remaining (λ z m r. f z) e x.known x.rest p) | inr p ↦ inr p ]; rest = x.rest };
  }

  -- reading bits up to a byte boundary gives what reading their bytes does
  gives_aligned : {A Y : Type 0} (view : A → Y) (r : Result A Error) (read : Bits → Reading Bool Y)
      → Gives view r read (state_of (bits_after []) (through_loan j s)) (state_of (bits_after left) (through_loan k t)) → Gives view r (by_bytes read) (state_of (λ all. all) s) (state_of (λ all. all) t)
  gives_aligned view (Ok x) read h = consumes_aligned _ _ (λ z m r. aligned_is read (view x) z m left few r) h
  gives_aligned view (Err e) read h = record {
    failure = λ i. failure_or_aligned _ _ (aligned_incomplete_is read) (h.failure i);
    fault = λ i. consumes_aligned _ _ (λ z m r p. let f = fault_is e (read (bits_of z)) (left ++ bits_of m) p in rw (aligned_fault_is read f.0 z m left few r f.2) (f.1, refl)) (h.fault i);
    named = h.named;
  }

  -- and the reference is still the same
  aligned_name : {A Y : Type 0} (view : A → Y) (r : Result A Error) (read : Bits → Reading Bool Y)
      → Gives view r read (state_of (bits_after []) (through_loan j s)) (state_of (bits_after left) (through_loan k t)) → j ≡ k
  aligned_name view r read h = let e : k ∷ t.loans ≡ j ∷ s.loans = gives_loans view r read _ _ h in cc

-- what a `Bitstream` that began at a byte boundary read, of the reader that it borrows
pub gives_through : {R A Y : Type 0} {g : _} (source : R → Source ℕ) (x : R) (j : GName) (b c : Bitstream (MutBor R) g) (view : A → Y) (r : Result A Error) (read : Bits → Reading Bool Y) → bit_state (over_borrow source) b ≡ record { left = []; source = through_loan j (source x) }
    → Gives view r read (bits_in (over_borrow source) b) (bits_in (over_borrow source) c) → Gives view r (by_bytes read) (bytes_in source x) (bytes_in source c.reader.now)
unfolding bits_in bytes_in
gives_through source x j b c view r read e h = gives_aligned (source x) (source c.reader.now) j c.reader.ghost_name (bits c.count c.cache) (rw length-bits c.few) view r read (subst (λ z. Gives view r read (state_of (bits_after z.left) z.source) (bits_in (over_borrow source) c)) e h)

pub name_through : {R A Y : Type 0} {g : _} (source : R → Source ℕ) (x : R) (j : GName) (b c : Bitstream (MutBor R) g) (view : A → Y) (r : Result A Error) (read : Bits → Reading Bool Y) → bit_state (over_borrow source) b ≡ record { left = []; source = through_loan j (source x) }
    → Gives view r read (bits_in (over_borrow source) b) (bits_in (over_borrow source) c) → j ≡ c.reader.ghost_name
unfolding bits_in
name_through source x j b c view r read e h = aligned_name (source x) (source c.reader.now) j c.reader.ghost_name (bits c.count c.cache) (rw length-bits c.few) view r read (subst (λ z. Gives view r read (state_of (bits_after z.left) z.source) (bits_in (over_borrow source) c)) e h)
