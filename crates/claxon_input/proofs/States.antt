-- The calls of readers and of a `Bitstream` give what readers on lists give.
use Rattle.std.proofs.Common.{◌≡◌, ℕ, zero, suc, ◌+◌, ◌^◌, ◌<◌, ◌≤◌, ◌⊎◌, inl, inr, Bool, true, false, List, [], ◌∷◌, ◌++◌, length, replicate, Option, None, Some, refl, sym, ap, subst, ◌∙◌, append_assoc, arith, ltb}
use Rattle.std.specs.Prelude.{IfSome, IfOk, OnErr, Result, Ok, Err}
use Rattle.std.specs.Option.{option_map}
use Rattle.std.specs.Result.{IsErr}
use Rattle.std.proofs.lemmas.List.{take_at, drop_at, length-append}
use Rattle.std.proofs.lemmas.Bool.{lt-ltb, le-ltb}
use Rattle.claxon_format.specs.Bits.{Bits, bits, bits_of}
use Rattle.claxon_format.specs.Fault.{Fault}
use Rattle.claxon_format.specs.read.Bytes.{bytes_at}
use Rattle.claxon_format.specs.read.Reading.{Reading, Done, Faulty, Incomplete}
use Rattle.claxon_format.specs.read.Bits.{number_at, zeros_at, one_more, in_u32, unary_at, bit_at}
use Rattle.claxon_format.proofs.Bytes.{bits_of-append}
use Rattle.claxon_format.proofs.Numbers.{Reads-number}
use Rattle.claxon_format.proofs.RiceCodes.{Reads-unary, zeros_no_fault}
use Rattle.claxon_input.specs.Source.{Source, TakesFront, IsKnown, Takes, ReadFailedOrEof, ReadFailedOnce, SourceReadFailed, MovesPastSome, HasMore, MeetsEof}
use Rattle.claxon_input.specs.Bitstream.{BitState, remaining_bits, TakesBits, TakesNumber, BitsFailureOrEof, HasNoOneBit, FailureOrNoOneBit}
use Rattle.claxon_input.specs.State.{State, state_of, bits_after, values_at_eof, remaining_as}
use Rattle.claxon_input.specs.Gives.{IsRest, Consumes, ReadFailedOrRemaining, ReadFailedIn, GivesIo, ReachedEof}

-- functions that agree are one
pub same_function : {A B : Type 0} {f g : A → B} → ((x : A) → f x ≡ g x) → f ≡ g
same_function h i x = h x i

is_rest_after : {X : Type 0} (z s t m : List X) → s ≡ t ++ m → IsRest z s → IsRest z m
unfolding IsRest
is_rest_after z s t m e h = (h.0 ++ t, h.1 ∙ ap (λ (l : List _). h.0 ++ l) e ∙ sym (append_assoc h.0 t m))

-- ---- what was consumed

-- consuming the bytes consumes xs of what remains, as f gives it before and g after
abbrev SplitsOff : {X : Type 0} → (List ℕ → List X) → (List ℕ → List X) → List ℕ → List X → Type 0
SplitsOff f g bytes xs = (rest : List ℕ) → f (bytes ++ rest) ≡ xs ++ g rest

record KnownAfter {X : Type 0} (f g : List ℕ → List X) (a b : Source ℕ) (p q : Option (List ℕ)) (P : List X → List X → Type 0) : Type 0 where
  known : IsKnown q
  is : P (remaining_as f p) (remaining_as g q)
  rest : (z : List ℕ) → IsRest z (remaining_as (λ all. all) p) → IsRest z (remaining_as (λ all. all) q)
  values : values_at_eof q b.values ≡ values_at_eof p a.values

-- the kept values after all that remains are the same
past_same : (a b : Source ℕ) (bytes all rest : List ℕ) → all ≡ bytes ++ rest → ((more : List ℕ) → b.values more ≡ a.values (bytes ++ more)) → values_at_eof (Some rest) b.values ≡ values_at_eof (Some all) a.values
past_same a b bytes all rest l c = same_function (λ more. c (rest ++ more) ∙ ap a.values (sym (append_assoc bytes rest more) ∙ ap (λ (x : List ℕ). x ++ more) (sym l)))

is_known_after : {X : Type 0} (f g : List ℕ → List X) (a b : Source ℕ) (p q : Option (List ℕ)) (bytes : List ℕ) (xs : List X) (P : List X → List X → Type 0) → TakesFront p q bytes → SplitsOff f g bytes xs
    → (IsKnown p → (more : List ℕ) → b.values more ≡ a.values (bytes ++ more)) → ((m : List X) → P (xs ++ m) m) → IsKnown p → KnownAfter f g a b p q P
is_known_after f g a b None q bytes xs P l e c h t = absurd t
is_known_after f g a b (Some all) None bytes xs P l e c h t = absurd l
is_known_after f g a b (Some all) (Some rest) bytes xs P l e c h t =
    let k : f all ≡ xs ++ g rest = ap f l ∙ e rest in
    record {
      known = tt;
      is = subst (λ (s : List _). P s (g rest)) (sym k) (h (g rest));
      rest = λ z. is_rest_after z all bytes rest l;
      values = past_same a b bytes all rest l (c tt);
    }

consumes_by : {X : Type 0} (f g : List ℕ → List X) {a b : Source ℕ} {bytes : List ℕ} (xs : List X) (P : List X → List X → Type 0) → Takes a b bytes → SplitsOff f g bytes xs → ((m : List X) → P (xs ++ m) m) → Consumes (state_of f a) (state_of g b) P
consumes_by f g {a = a} {b = b} {bytes = bytes} xs P h e k = record {
  errors = h.errors;
  empty_reads = h.empty_reads;
  loans = h.moved.loans;
  known = λ t. let w = is_known_after f g a b a.remaining b.remaining bytes xs P h.moved.front e h.moved.values k t in record { known = w.known; is = w.is; rest = w.rest; values = w.values };
}

splits_off_bits : (old new : Bits) (bytes : List ℕ) (bs : Bits) → old ++ bits_of bytes ≡ bs ++ new → SplitsOff (bits_after old) (bits_after new) bytes bs
splits_off_bits old new bytes bs e rest =
    rw (bits_of-append bytes rest) (sym (append_assoc old (bits_of bytes) (bits_of rest)) ∙ ap (λ (x : Bits). x ++ bits_of rest) e ∙ append_assoc bs new (bits_of rest))

-- the stream of a state
abbrev pub state_of_bits : BitState → State Bool
state_of_bits s = state_of (bits_after s.left) s.source

abbrev pub bytes_of_source : Source ℕ → State ℕ
bytes_of_source s = state_of (λ all. all) s

-- bits were consumed, and P holds of what begins with them
pub consumed : {a b : BitState} {bs : Bits} (P : Bits → Bits → Type 0) → TakesBits a b bs → ((m : Bits) → P (bs ++ m) m) → Consumes (state_of_bits a) (state_of_bits b) P
consumed {a} {b} {bs} P h k = consumes_by (bits_after a.left) (bits_after b.left) bs P h.taken (splits_off_bits a.left b.left h.bytes bs h.split) k

-- bytes were consumed
pub consumes_bytes : {a b : Source ℕ} {xs : List ℕ} (P : List ℕ → List ℕ → Type 0) → Takes a b xs → ((m : List ℕ) → P (xs ++ m) m) → Consumes (bytes_of_source a) (bytes_of_source b) P
consumes_bytes {xs = xs} P h k = consumes_by (λ all. all) (λ all. all) xs P h (λ rest. refl) k

-- ---- the end of input

all_taken : (a b : Source ℕ) (p q : Option (List ℕ)) (moved : List ℕ) (k : ℕ) → TakesFront p q moved → (IsKnown p → (more : List ℕ) → b.values more ≡ a.values (moved ++ more))
    → IfSome p (λ all. (length all < k) × (q ≡ Some [])) → IsKnown p → KnownAfter (λ all. all) (λ all. all) a b p q (λ s m. (ltb (length s) k ≡ true) × (m ≡ []))
all_taken a b None q moved k l c h t = absurd t
all_taken a b (Some all) None moved k l c h t = absurd l
all_taken a b (Some all) (Some left) moved k l c h t = record {
  known = tt;
  is = (lt-ltb _ _ h.0, ap (remaining_as (λ all. all)) h.1);
  rest = λ z. is_rest_after z all moved left l;
  values = past_same a b moved all left l (c tt);
}

-- fewer than k remained, and all were consumed
pub reached_eof_bytes : {a b : Source ℕ} (k : ℕ) → MeetsEof a b k → ReachedEof k (bytes_of_source a) (bytes_of_source b)
reached_eof_bytes {a} {b} k h = record {
  errors = h.errors;
  loans = h.taken.loans;
  known = λ t. let w = all_taken a b a.remaining b.remaining h.moved k h.taken.front h.taken.values h.cause t in record { known = w.known; is = w.is; rest = w.rest; values = w.values };
}

-- ---- an Err

record Failing {X : Type 0} (f g : List ℕ → List X) (a b : Source ℕ) (p q : Option (List ℕ)) (P : List X → Type 0) : Type 0 where
  known : IsKnown q
  why : P (remaining_as f p) ⊎ ReadFailedIn (state_of f a) (state_of g b)
  rest : (z : List ℕ) → IsRest z (remaining_as (λ all. all) p) → IsRest z (remaining_as (λ all. all) q)

failed_in : {X : Type 0} (f g : List ℕ → List X) (a b : Source ℕ) (left : List ℕ) → b.remaining ≡ Some left → SourceReadFailed a b → ReadFailedIn (state_of f a) (state_of g b)
failed_in f g a b left e (inl h) = inl h
failed_in f g a b left e (inr h) = inr (h.0, rw e (subst (λ (o : Option (List ℕ)). HasMore o) e h.1))

is_failing : {X : Type 0} (f g : List ℕ → List X) (a b : Source ℕ) (p q : Option (List ℕ)) (moved : List ℕ) (P Q : List X → Type 0) → b.remaining ≡ q → TakesFront p q moved
    → IfSome (option_map f p) (λ all. Q all ⊎ SourceReadFailed a b) → ((s : List X) → Q s → P s) → IsKnown p → Failing f g a b p q P
is_failing f g a b None q moved P Q e l c h t = absurd t
is_failing f g a b (Some all) None moved P Q e l c h t = absurd l
is_failing f g a b (Some all) (Some left) moved P Q e l c h t = record {
  known = tt;
  why = elim c [ inl q ↦ inl (h (f all) q) | inr q ↦ inr (failed_in f g a b left e q) ];
  rest = λ z. is_rest_after z all moved left l;
}

failure_or_by : {X : Type 0} (f g : List ℕ → List X) {a b : Source ℕ} (P Q : List X → Type 0) → MovesPastSome a b
    → IfSome (option_map f a.remaining) (λ all. Q all ⊎ SourceReadFailed a b) → ((s : List X) → Q s → P s) → ReadFailedOrRemaining (state_of f a) (state_of g b) P
failure_or_by f g {a = a} {b = b} P Q r c h = record {
  loans = r.loans;
  known = λ t. let w = is_failing f g a b a.remaining b.remaining r.moved P Q refl r.front c h t in record { known = w.known; why = w.why; rest = w.rest };
}

pub failure : (a b : BitState) (P Q : Bits → Type 0) → MovesPastSome a.source b.source → IfSome (remaining_bits a) (λ all. Q all ⊎ SourceReadFailed a.source b.source) → ((s : Bits) → Q s → P s)
    → ReadFailedOrRemaining (state_of_bits a) (state_of_bits b) P
failure a b P Q r c h =
    failure_or_by (bits_after a.left) (bits_after b.left) P Q r c h

-- bytes are as they are
as_bytes : (p : Option (List ℕ)) (Q : List ℕ → Type 0) (F : Type 0) → IfSome p (λ all. Q all ⊎ F) → IfSome (option_map (λ (all : List ℕ). all) p) (λ all. Q all ⊎ F)
as_bytes None Q F h = h
as_bytes (Some all) Q F h = h

pub failure_or_in_bytes : (a b : Source ℕ) (P Q : List ℕ → Type 0) → MovesPastSome a b → IfSome a.remaining (λ all. Q all ⊎ SourceReadFailed a b) → ((s : List ℕ) → Q s → P s) → ReadFailedOrRemaining (bytes_of_source a) (bytes_of_source b) P
failure_or_in_bytes a b P Q r c h = failure_or_by (λ all. all) (λ all. all) P Q r (as_bytes a.remaining Q (SourceReadFailed a b) c) h

only_failed : (p : Option (List ℕ)) (F : Type 0) → IfSome p (λ _. F) → IfSome p (λ _. ⊥ ⊎ F)
only_failed None F h = tt
only_failed (Some all) F h = inr h

-- where the source failed, any reader may say so
pub failure_or_any : {a b : Source ℕ} {n : ℕ} (P : List ℕ → Type 0) → ReadFailedOnce a b n → ReadFailedOrRemaining (bytes_of_source a) (bytes_of_source b) P
failure_or_any {a} {b} P h = failure_or_in_bytes a b P (λ s. ⊥) h.rest (only_failed a.remaining (SourceReadFailed a b) h.cause) (λ s q. absurd q)

-- ---- numbers

pub consumes_number : {a b : BitState} (n w : ℕ) → n < 2 ^ w → TakesNumber a b w n → Consumes (state_of_bits a) (state_of_bits b) (λ s m. number_at w s ≡ Done n m)
consumes_number n w small h = consumed (λ s m. number_at w s ≡ Done n m) h (λ m. (Reads-number w).again n (bits w n) m (small, refl))

incomplete_number : (w : ℕ) (s : Bits) → length s < w → number_at w s ≡ Incomplete
unfolding number_at
incomplete_number w s h = let k : ltb (length s) w ≡ true = lt-ltb _ _ h in rw k refl

pub failure_or_number : {a b : BitState} (w : ℕ) → BitsFailureOrEof a b w → ReadFailedOrRemaining (state_of_bits a) (state_of_bits b) (λ s. number_at w s ≡ Incomplete)
failure_or_number {a} {b} w h = failure a b (λ s. number_at w s ≡ Incomplete) (λ s. (length s < w) × (b.source.remaining ≡ Some [])) h.rest h.cause (λ s q. incomplete_number w s q.0)

pub consumes_bit : {a b : BitState} (bit : Bool) → TakesBits a b (bit ∷ []) → Consumes (state_of_bits a) (state_of_bits b) (λ s m. bit_at s ≡ Done bit m)
unfolding bit_at
consumes_bit bit h = consumed (λ s m. bit_at s ≡ Done bit m) h (λ m. refl)

incomplete_bit : (s : Bits) → length s < 1 → bit_at s ≡ Incomplete
unfolding bit_at
incomplete_bit [] h = refl
incomplete_bit (b ∷ s) h = absurd (omega arith)

pub failure_or_bit : {a b : BitState} → BitsFailureOrEof a b 1 → ReadFailedOrRemaining (state_of_bits a) (state_of_bits b) (λ s. bit_at s ≡ Incomplete)
failure_or_bit {a} {b} h = failure a b (λ s. bit_at s ≡ Incomplete) (λ s. (length s < 1) × (b.source.remaining ≡ Some [])) h.rest h.cause (λ s q. incomplete_bit s q.0)

-- ---- bytes

pub consumes_taken : {a b : Source ℕ} {xs : List ℕ} (n : ℕ) → length xs ≡ n → Takes a b xs → Consumes (bytes_of_source a) (bytes_of_source b) (λ s m. bytes_at n s ≡ Done xs m)
unfolding bytes_at
consumes_taken {xs = xs} n l h = consumes_bytes (λ s m. bytes_at n s ≡ Done xs m) h (λ m.
    let long : ltb (length (xs ++ m)) n ≡ false = le-ltb _ _ (omega (arith, length-append xs m)) in
    rw (long, take_at xs m n l, drop_at xs m n l) refl)

incomplete_bytes : (n : ℕ) (s : List ℕ) → length s < n → bytes_at n s ≡ Incomplete
unfolding bytes_at
incomplete_bytes n s h = let k : ltb (length s) n ≡ true = lt-ltb _ _ h in rw k refl

pub failure_or_bytes : {a b : Source ℕ} (n : ℕ) → ReadFailedOrEof a b n → ReadFailedOrRemaining (bytes_of_source a) (bytes_of_source b) (λ s. bytes_at n s ≡ Incomplete)
failure_or_bytes {a} {b} n h = failure_or_in_bytes a b (λ s. bytes_at n s ≡ Incomplete) (λ s. length s < n) h.rest h.cause (incomplete_bytes n)

-- ---- unary numbers: zeros up to a one

pub consumes_unary : {a b : BitState} (q : ℕ) → q < 2 ^ 32 → TakesBits a b (replicate q false ++ true ∷ []) → Consumes (state_of_bits a) (state_of_bits b) (λ s m. unary_at s ≡ Done q m)
consumes_unary q small h = consumed (λ s m. unary_at s ≡ Done q m) h (λ m. Reads-unary.again q (replicate q false ++ true ∷ []) m (small, refl))

no_one : (n : ℕ) → zeros_at (replicate n false) ≡ Incomplete
unfolding zeros_at
no_one zero = refl
no_one (suc n) = rw (no_one n) refl

many : ℕ → Reading Bool ℕ → Reading Bool ℕ
many zero x = x
many (suc n) x = one_more (many n x)

many_zeros : (n : ℕ) (rest : Bits) → zeros_at (replicate n false ++ rest) ≡ many n (zeros_at rest)
unfolding zeros_at many
many_zeros zero rest = refl
many_zeros (suc n) rest = ap one_more (many_zeros n rest)

many_done : (n q : ℕ) (s : Bits) → many n (Done q s) ≡ Done (n + q) s
unfolding many
many_done zero q s = let e : q ≡ 0 + q = omega arith in ap (λ (k : ℕ). Done k s) e
many_done (suc n) q s = let e : suc (n + q) ≡ suc n + q = omega arith in rw (many_done n q s) (ap (λ (k : ℕ). Done k s) e)

many_incomplete : (n : ℕ) → many n Incomplete ≡ Incomplete
unfolding many
many_incomplete zero = refl
many_incomplete (suc n) = rw (many_incomplete n) refl

too_many : (n : ℕ) (x : Reading Bool ℕ) → ((f : Fault) (rest : Bits) → x ≡ Faulty f rest → ⊥) → 2 ^ 32 ≤ n → in_u32 (many n x) ≡ Incomplete
too_many n (Done q s) h le = let k : ltb (n + q) (2 ^ 32) ≡ false = le-ltb _ _ (omega arith) in rw (many_done n q s, k) refl
too_many n (Faulty f s) h le = absurd (h f s refl)
too_many n Incomplete h le = rw (many_incomplete n) refl

incomplete_unary : (a b : BitState) (s : Bits) → HasNoOneBit a b s → unary_at s ≡ Incomplete
unfolding unary_at
incomplete_unary a b s (inl h) = rw (h.2, no_one h.0) refl
incomplete_unary a b s (inr h) = rw (h.3, many_zeros h.0 h.1) (too_many h.0 (zeros_at h.1) (zeros_no_fault h.1) h.2)

pub failure_or_unary : {a b : BitState} → FailureOrNoOneBit a b → ReadFailedOrRemaining (state_of_bits a) (state_of_bits b) (λ s. unary_at s ≡ Incomplete)
failure_or_unary {a} {b} h = failure a b (λ s. unary_at s ≡ Incomplete) (λ s. HasNoOneBit a b s) h.rest h.cause (incomplete_unary a b)

-- ---- the exit by a `?`

pub gives_io_err : {X A Y E : Type 0} (view : A → Y) (r : Result A E) (read : List X → Reading X Y) (a b : State X) → IsErr r → ReadFailedOrRemaining a b (λ s. read s ≡ Incomplete) → GivesIo view r read a b
gives_io_err view (Ok x) read a b h k = absurd cc
gives_io_err view (Err e) read a b h k = k

-- ---- a call that returns what another one did

pub gives_io_number : {E : Type 0} (a b : BitState) (w : ℕ) (r : Result ℕ E) → IfOk r (λ n. n < 2 ^ w) → IfOk r (λ n. TakesNumber a b w n) → OnErr r (BitsFailureOrEof a b w)
    → GivesIo (λ (n : ℕ). n) r (number_at w) (state_of_bits a) (state_of_bits b)
gives_io_number a b w (Ok n) v h k = consumes_number n w v h
gives_io_number a b w (Err e) v h k = failure_or_number w k

pub gives_io_unary : {E : Type 0} (a b : BitState) (r : Result ℕ E) → IfOk r (λ q. q < 2 ^ 32) → IfOk r (λ q. TakesBits a b (replicate q false ++ true ∷ [])) → OnErr r (FailureOrNoOneBit a b)
    → GivesIo (λ (q : ℕ). q) r unary_at (state_of_bits a) (state_of_bits b)
gives_io_unary a b (Ok q) v h k = consumes_unary q v h
gives_io_unary a b (Err e) v h k = failure_or_unary k
