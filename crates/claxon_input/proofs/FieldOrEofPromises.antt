-- What a call promises to callers that gives what reading gives, or reaches the end of input, or is out of memory.
use Rattle.std.proofs.Common.{◌≡◌, ◌⊎◌, inl, inr, ℕ, ◌<◌, Bool, true, false, ltb, List, length, Option, None, Some, refl, sym, ap, ◌∙◌, arith}
use Rattle.std.specs.Prelude.{IfOk, IfErr, IsOkAnd, IsErrAnd, IsSomeAnd, Result, Ok, Err}
use Rattle.std.proofs.lemmas.Bool.{lt-ltb, ltb-true}
use Rattle.claxon_format.specs.Fault.{Fault}
use Rattle.claxon_format.specs.read.Reading.{Reading, Reads, Done, Faulty, Incomplete}
use Rattle.claxon_input.specs.declared.error.Error.{Error}
use Rattle.claxon_input.specs.declared.error.Error.TheVariants.{IoError, FormatError, Unsupported, OutOfMemory}
use Rattle.claxon_input.specs.State.{State, RemainingIsKnown}
use Rattle.claxon_input.specs.Gives.{ReadFailedIn, Stops, IsFaultOf, GivesOrOutOfMemory, ReachedEof, or_eof, GivesOrEofOrOutOfMemory}
use Rattle.claxon_input.specs.Error.{IsIo, is_io}
use Rattle.claxon_input.specs.Promises.{FoundIsComplete, Remains, EofIsNone, EofPromises, ElseIoErrorFrom, IsExcused, LeavesRest, FaultIsComplete, NoneIsEof, FaultIsSound, FoundIsSound}
use Rattle.claxon_input.proofs.Promises.{fault_is, leaves_rest, promises}
use Rattle.claxon_input.proofs.ConsecutiveCalls.{consumes_map, consumes_none, failure_or_after}
use Rattle.claxon_input.proofs.FieldOrEof.{some_read, fault_read, incomplete_read}

-- ---- as a call that doesn't reach the end of input

enough_fault : {X Y : Type 0} (e : Error) (k : ℕ) (read : List X → Reading X Y) (s m : List X) → IsFaultOf e (or_eof k read s) m → (ltb (length s) k ≡ false) × IsFaultOf e (read s) m
enough_fault e k read s m h =
    let p = fault_is e (or_eof k read s) m h in
    let q = fault_read k read s p.0 m p.2 in
    (q.0, rw q.1 (p.1, refl))

stops_enough : {X Y : Type 0} (e : Error) (k : ℕ) (read : List X → Reading X Y) (a b : State X) → Stops e (or_eof k read) a b → Stops e read a b
stops_enough e k read a b h = record {
  failure = λ i. failure_or_after (λ s. read s ≡ Incomplete) (consumes_none a (λ s m. s ≡ m) refl) (h.failure i) (λ p q. (incomplete_read k read a.remaining q).1);
  fault = λ i. consumes_map _ (h.fault i) (λ p. (enough_fault e k read a.remaining b.remaining p).1);
  named = h.named;
}

-- the result of a call that didn't reach the end of input
some_of : {A : Type 0} → Result A Error → Result (Option A) Error
some_of (Ok x) = Ok (Some x)
some_of (Err e) = Err e

-- the end of input, or what a call gives that doesn't reach it
eof_or : {X A Y : Type 0} (k : ℕ) (view : A → Y) (r : Result (Option A) Error) (read : List X → Reading X Y) (a b : State X) → GivesOrEofOrOutOfMemory k view r read a b
    → ((r ≡ Ok None) × ReachedEof k a b) ⊎ ((q : Result A Error) × (r ≡ some_of q) × GivesOrOutOfMemory view q read a b)
unfolding some_of
eof_or k view (Ok None) read a b h = inl (refl, h)
eof_or k view (Ok (Some x)) read a b h = inr (Ok x, refl, consumes_map _ h (λ p. (some_read k read a.remaining (view x) b.remaining p).1))
eof_or k view (Err OutOfMemory) read a b h = inr (Err OutOfMemory, refl, h)
eof_or k view (Err (IoError i)) read a b h = inr (Err (IoError i), refl, stops_enough (IoError i) k read a b h)
eof_or k view (Err (FormatError i)) read a b h = inr (Err (FormatError i), refl, stops_enough (FormatError i) k read a b h)
eof_or k view (Err (Unsupported i)) read a b h = inr (Err (Unsupported i), refl, stops_enough (Unsupported i) k read a b h)

-- ---- results by another name

some_err : {A : Type 0} (P : Error → Type 0) (q : Result A Error) → IfErr q P → IfErr (some_of q) P
unfolding some_of
some_err P (Ok x) h = tt
some_err P (Err e) h = h

some_err_and : {A : Type 0} (P : Error → Type 0) (q : Result A Error) → IsErrAnd q P → IsErrAnd (some_of q) P
unfolding some_of
some_err_and P (Ok x) h = absurd h
some_err_and P (Err e) h = h

some_ok_and : {A : Type 0} (P : A → Type 0) (q : Result A Error) → IsOkAnd q P → IsOkAnd (some_of q) (λ found. IsSomeAnd found P)
unfolding some_of
some_ok_and P (Ok x) h = h
some_ok_and P (Err e) h = absurd h

some_excused : {X A : Type 0} (a b : State X) (q : Result A Error) → IsExcused q a b → IsExcused (some_of q) a b
unfolding some_of
some_excused a b q (inl e) = inl (ap some_of e)
some_excused a b q (inr h) = inr (some_err_and IsIo q h.0, h.1)

-- ---- the end of input

-- None is returned only where fewer are left, which are consumed
none_is_eof : {X A Y : Type 0} (k : ℕ) (view : A → Y) (r : Result (Option A) Error) (read : List X → Reading X Y) (a b : State X) → GivesOrEofOrOutOfMemory k view r read a b → NoneIsEof k r a b
none_is_eof k view (Ok None) read a b h = λ e t. let w = h.known t in (ltb-true _ _ w.is.0, record { known = w.known; are = w.is.1 })
none_is_eof k view (Ok (Some x)) read a b h = λ e t. absurd cc
none_is_eof k view (Err e) read a b h = tt

-- after an Ok the count of Errs is the same
no_failure : {X A Y : Type 0} (k : ℕ) (view : A → Y) (r : Result (Option A) Error) (read : List X → Reading X Y) (a b : State X) → GivesOrEofOrOutOfMemory k view r read a b → IfOk r (λ found. b.source.errors ≡ a.source.errors)
no_failure k view (Ok None) read a b h = h.errors
no_failure k view (Ok (Some x)) read a b h = h.errors
no_failure k view (Err e) read a b h = tt

stops_at_eof : {X Y : Type 0} (e : Error) (io : Bool) (k : ℕ) (read : List X → Reading X Y) (a b : State X) (xs : List X) → is_io e ≡ io → Stops e (or_eof k read) a b → Remains a xs → length xs < k → (io ≡ true) × ReadFailedIn a b
stops_at_eof e true k read a b xs i h o l = (refl, elim ((h.failure i).known o.known).why [ inl p ↦ (let q = (incomplete_read k read a.remaining p).0 in let t : ltb (length a.remaining) k ≡ true = lt-ltb _ _ (rw o.are l) in absurd (cc (t, q))) | inr f ↦ f ])
stops_at_eof e false k read a b xs i h o l =
    let q = (enough_fault e k read a.remaining b.remaining ((h.fault i).known o.known).is).0 in
    let t : ltb (length a.remaining) k ≡ true = lt-ltb _ _ (rw o.are l) in absurd (cc (t, q))

-- where fewer are left None is returned, and they are consumed
eof_gives_none : {X A Y : Type 0} (k : ℕ) (view : A → Y) (r : Result (Option A) Error) (read : List X → Reading X Y) (a b : State X) → GivesOrEofOrOutOfMemory k view r read a b → EofIsNone k r a b
eof_gives_none k view (Ok None) read a b h xs o l = let w = h.known o.known in inl (refl, record { known = w.known; are = w.is.1 })
eof_gives_none k view (Ok (Some x)) read a b h xs o l =
    let q = (some_read k read a.remaining (view x) b.remaining (h.known o.known).is).0 in
    let t : ltb (length a.remaining) k ≡ true = lt-ltb _ _ (rw o.are l) in absurd (cc (t, q))
eof_gives_none k view (Err OutOfMemory) read a b h xs o l = inr (inl refl)
eof_gives_none k view (Err (IoError i)) read a b h xs o l = inr (inr (refl, (stops_at_eof (IoError i) true k read a b xs refl h o l).1))
eof_gives_none k view (Err (FormatError i)) read a b h xs o l = let p = (stops_at_eof (FormatError i) false k read a b xs refl h o l).0 in absurd cc
eof_gives_none k view (Err (Unsupported i)) read a b h xs o l = let p = (stops_at_eof (Unsupported i) false k read a b xs refl h o l).0 in absurd cc

-- ---- codes and faults, of a reader that is incomplete on fewer

module _ {X Y : Type 0} {read : List X → Reading X Y} {C : Y → List X → Type 0} {F : Fault → List X → Type 0} (law : Reads X Y read C F) (k : ℕ) (short : (s : List X) → length s < k → read s ≡ Incomplete) where
  found_is_sound : {A : Type 0} (view : A → Y) (r : Result (Option A) Error) (a b : State X) → GivesOrEofOrOutOfMemory k view r read a b → FoundIsSound view r C a b
  found_is_sound view (Ok None) a b g = tt
  found_is_sound view (Ok (Some x)) a b g = λ t. let w = g.known t in (w.known, law.takes a.remaining (view x) b.remaining (some_read k read a.remaining (view x) b.remaining w.is).1)
  found_is_sound view (Err e) a b g = tt

  -- where something is read the end of input wasn't reached
  not_reached_eof : (a b : State X) (x : Reading X Y) → RemainingIsKnown a → read a.remaining ≡ x → (x ≡ Incomplete → ⊥) → ReachedEof k a b → ⊥
  not_reached_eof a b x t e n h = n (sym e ∙ short a.remaining (ltb-true _ _ (h.known t).is.0))

  found_is_complete : {A : Type 0} (view : A → Y) (r : Result (Option A) Error) (a b : State X) → GivesOrEofOrOutOfMemory k view r read a b → FoundIsComplete view r C a b
  found_is_complete view r a b g y t rest c o = elim (eof_or k view r read a b g) [
    | inl p ↦ absurd (not_reached_eof a b (Done y rest) o.known (ap read o.are ∙ law.again y t rest c) (λ q. cc) p.1)
    | inr p ↦ elim ((promises law view p.0 a b p.2).is_complete y t rest c o) [
      | inl q ↦ inl (rw p.1 (some_ok_and _ p.0 q.0), q.1)
      | inr q ↦ inr (rw p.1 (some_excused a b p.0 q))
    ]
  ]

  found_fault_is_sound : {A : Type 0} (view : A → Y) (r : Result (Option A) Error) (a b : State X) → GivesOrEofOrOutOfMemory k view r read a b → FaultIsSound r F a b
  found_fault_is_sound view r a b g = elim (eof_or k view r read a b g) [ inl p ↦ rw p.0 tt | inr p ↦ rw p.1 (some_err _ p.0 ((promises law view p.0 a b p.2).fault_is_sound)) ]

  found_fault_is_complete : {A : Type 0} (view : A → Y) (r : Result (Option A) Error) (a b : State X) → GivesOrEofOrOutOfMemory k view r read a b → FaultIsComplete r F a b
  found_fault_is_complete view r a b g f t rest c o = elim (eof_or k view r read a b g) [
    | inl p ↦ absurd (not_reached_eof a b (Faulty f rest) o.known (ap read o.are ∙ law.bad_again f t rest c) (λ q. cc) p.1)
    | inr p ↦ elim ((promises law view p.0 a b p.2).fault_is_complete f t rest c o) [
      | inl q ↦ inl (rw p.1 (some_err_and _ p.0 q.0), q.1)
      | inr q ↦ inr (rw p.1 (some_excused a b p.0 q))
    ]
  ]

  found_else_io_error : {A : Type 0} (view : A → Y) (r : Result (Option A) Error) (a b : State X) → GivesOrEofOrOutOfMemory k view r read a b → ElseIoErrorFrom k r C F a b
  unfolding some_of
  found_else_io_error view r a b g l t n = elim (eof_or k view r read a b g) [
    | inl p ↦ absurd (let q = ltb-true _ _ (p.1.known t).is.0 in omega arith)
    | inr p ↦ elim ((promises law view p.0 a b p.2).else_io_error t n) [
      | inl q ↦ inl (p.1 ∙ ap some_of q)
      | inr q ↦ inr (rw p.1 (some_err_and _ p.0 q))
    ]
  ]

  found_rest : {A : Type 0} (view : A → Y) (r : Result (Option A) Error) (a b : State X) → GivesOrEofOrOutOfMemory k view r read a b → LeavesRest r a b
  found_rest view r a b g = elim (eof_or k view r read a b g) [ inl p ↦ rw p.0 tt | inr p ↦ rw p.1 (some_err _ p.0 (leaves_rest view p.0 read a b p.2)) ]

  pub eof_promises : {A : Type 0} (view : A → Y) (r : Result (Option A) Error) (a b : State X) → GivesOrEofOrOutOfMemory k view r read a b → EofPromises k view r C F a b
  eof_promises view r a b g = record {
    is_sound = found_is_sound view r a b g;
    is_complete = found_is_complete view r a b g;
    none_is_eof = none_is_eof k view r read a b g;
    eof_is_none = eof_gives_none k view r read a b g;
    failure_is_err = no_failure k view r read a b g;
    fault_is_sound = found_fault_is_sound view r a b g;
    fault_is_complete = found_fault_is_complete view r a b g;
    else_io_error = found_else_io_error view r a b g;
    leaves_rest = found_rest view r a b g;
  }
