-- Calls that read a field or reach the end of input.
use Rattle.std.proofs.Common.{◌≡◌, ℕ, ◌*◌, ◌^◌, ◌<◌, ◌⊎◌, inl, inr, Bool, true, false, ltb, List, [], length, Option, None, Some, refl, ap, ◌∙◌}
use Rattle.std.specs.Prelude.{Result, Ok, Err, MatchOption}
use Rattle.std.specs.Option.{ForSome}
use Rattle.claxon_format.specs.Fault.{Fault}
use Rattle.claxon_format.specs.read.Bytes.{bytes_at, big_at}
use Rattle.claxon_format.specs.read.Reading.{Reading, Done, Faulty, Incomplete, done, bind}
use Rattle.claxon_input.specs.Bytes.{be_bytes}
use Rattle.claxon_input.specs.Source.{Source, Takes, MeetsEof, ReadFailedOnce}
use Rattle.claxon_input.specs.State.{State, bytes_in}
use Rattle.claxon_input.specs.Gives.{Consumes, ReadFailedOrRemaining, Stops, OutOfMemoryLeavesRest, ReachedEof, or_eof, GivesOrEof, GivesOrEofOrOutOfMemory}
use Rattle.std.specs.declared.io.Error as io
use Rattle.claxon_input.specs.declared.error.Error.{Error}
use Rattle.claxon_input.specs.declared.error.Error.TheVariants.{IoError, FormatError, Unsupported, OutOfMemory}
use Rattle.claxon_input.proofs.States.{reached_eof_bytes, failure_or_any}
use Rattle.claxon_input.proofs.ConsecutiveCalls.{consumes_then, consumes_map, consumes_none, stops_after, StopsWith}
use Rattle.claxon_input.proofs.ByteFields.{consumes_big}

-- ---- the calls of a reader of bytes

-- the field is read where enough is left
pub enough : {X A : Type 0} (k : ℕ) (read : List X → Reading X A) (s : List X) → ltb (length s) k ≡ false → or_eof k read s ≡ bind (read s) (λ a. done (Some a))
enough k read s t = rw t refl

big_enough : (k : ℕ) (s m : List ℕ) (n : ℕ) → big_at k s ≡ Done n m → ltb (length s) k ≡ false
unfolding big_at bytes_at
big_enough k s m n e = go (ltb (length s) k) refl
  where
    go : (b : Bool) → ltb (length s) k ≡ b → ltb (length s) k ≡ false
    go true t = let x : Incomplete ≡ Done n m = rw t at e in absurd cc
    go false t = t

big_or_eof : (k : ℕ) (s m : List ℕ) (n : ℕ) → big_at k s ≡ Done n m → or_eof k (big_at k) s ≡ Done (Some n) m
big_or_eof k s m n e = enough k (big_at k) s (big_enough k s m n e) ∙ ap (λ x. bind x (λ a. done (Some a))) e

module _ {R : Type 0} (source : R → Source ℕ) {a b : R} where
  consumes_big_or_eof : (k n : ℕ) → n < 2 ^ (8 * k) → Takes (source a) (source b) (be_bytes k n) → Consumes (bytes_in source a) (bytes_in source b) (λ s m. or_eof k (big_at k) s ≡ Done (Some n) m)
  consumes_big_or_eof k n small h = consumes_map _ (consumes_big source k n small h) (λ p. big_or_eof k _ _ n p)

  pub failure_or_any_in : {n : ℕ} (P : List ℕ → Type 0) → ReadFailedOnce (source a) (source b) n → ReadFailedOrRemaining (bytes_in source a) (bytes_in source b) P
  unfolding bytes_in
  failure_or_any_in P h = failure_or_any P h

  pub reached_eof : (k : ℕ) → MeetsEof (source a) (source b) k → ReachedEof k (bytes_in source a) (bytes_in source b)
  unfolding bytes_in
  reached_eof k h = reached_eof_bytes k h

pub gives_big_or_eof : {R : Type 0} (source : R → Source ℕ) (a b : R) (k : ℕ) (found : Option ℕ) → ForSome found (λ n. n < 2 ^ (8 * k)) → MatchOption found (MeetsEof (source a) (source b) k) (λ n. Takes (source a) (source b) (be_bytes k n))
    → GivesOrEof k (λ (n : ℕ). n) (Ok found) (big_at k) (bytes_in source a) (bytes_in source b)
gives_big_or_eof source a b k None small h = reached_eof source k h
gives_big_or_eof source a b k (Some n) small h = consumes_big_or_eof source k n (small n refl) h

-- ---- exits

-- by a `?` on a call of the reader
pub io_exit_or_eof : {X A Y : Type 0} (k : ℕ) (view : A → Y) {r : Result (Option A) Error} (read : List X → Reading X Y) {a c : State X} {cause : io.Error} → (y : Error) × (r ≡ Err y) × (y ≡ IoError cause) → ReadFailedOrRemaining a c (λ s. or_eof k read s ≡ Incomplete) → GivesOrEof k view r read a c
io_exit_or_eof k view read p h = rw (p.1, p.2) (record { failure = λ i. h; fault = λ i. absurd cc; named = refl })

-- by a `?` on a call that may reach the end of input, or gives what a reader gives
pub exit_or_eof : {X A Y : Type 0} (k : ℕ) (view : A → Y) (read : List X → Reading X Y) {a c : State X} {r : Result (Option A) Error} {e : Error} → (y : Error) × (r ≡ Err y) × (y ≡ e) → Stops e (or_eof k read) a c → GivesOrEof k view r read a c
exit_or_eof k view read p h = rw (p.1, p.2) h

-- ---- after the first field

-- a reading, where it is not the end of input
abbrev pub found : {X A : Type 0} → Reading X A → Reading X (Option A)
found x = bind x (λ a. done (Some a))

found_done : {X A : Type 0} (r : Reading X A) (x : A) (m : List X) → found r ≡ Done (Some x) m → r ≡ Done x m
found_done (Done y rest) x m e = let k : y ≡ x = cc in let l : rest ≡ m = cc in rw (k, l) refl
found_done (Faulty f rest) x m e = absurd cc
found_done Incomplete x m e = absurd cc

found_fault : {X A : Type 0} (r : Reading X A) (f : Fault) (m : List X) → found r ≡ Faulty f m → r ≡ Faulty f m
found_fault (Done y rest) f m e = absurd cc
found_fault (Faulty g rest) f m e = let k : g ≡ f = cc in let l : rest ≡ m = cc in rw (k, l) refl
found_fault Incomplete f m e = absurd cc

found_incomplete : {X A : Type 0} (r : Reading X A) → found r ≡ Incomplete → r ≡ Incomplete
found_incomplete (Done y rest) e = absurd cc
found_incomplete (Faulty g rest) e = absurd cc
found_incomplete Incomplete e = refl

-- what isn't the end of input was read where enough was left
not_eof : {X A : Type 0} (k : ℕ) (read : List X → Reading X A) (s : List X) (x : Reading X (Option A)) → (Done None [] ≡ x → ⊥) → or_eof k read s ≡ x → (ltb (length s) k ≡ false) × (found (read s) ≡ x)
not_eof k read s x n e = go (ltb (length s) k) refl
  where
    go : (b : Bool) → ltb (length s) k ≡ b → (ltb (length s) k ≡ false) × (found (read s) ≡ x)
    go true t = absurd (n (rw t at e))
    go false t = (t, rw t at e)

pub some_read : {X A : Type 0} (k : ℕ) (read : List X → Reading X A) (s : List X) (x : A) (m : List X) → or_eof k read s ≡ Done (Some x) m → (ltb (length s) k ≡ false) × (read s ≡ Done x m)
some_read k read s x m e = let p = not_eof k read s (Done (Some x) m) (λ q. cc) e in (p.0, found_done (read s) x m p.1)

pub fault_read : {X A : Type 0} (k : ℕ) (read : List X → Reading X A) (s : List X) (f : Fault) (m : List X) → or_eof k read s ≡ Faulty f m → (ltb (length s) k ≡ false) × (read s ≡ Faulty f m)
fault_read k read s f m e = let p = not_eof k read s (Faulty f m) (λ q. cc) e in (p.0, found_fault (read s) f m p.1)

pub incomplete_read : {X A : Type 0} (k : ℕ) (read : List X → Reading X A) (s : List X) → or_eof k read s ≡ Incomplete → (ltb (length s) k ≡ false) × (read s ≡ Incomplete)
incomplete_read k read s e = let p = not_eof k read s Incomplete (λ q. cc) e in (p.0, found_incomplete (read s) p.1)

-- after the first field what is left is read as next says
pub after_first : {X Y Z : Type 0} (k : ℕ) (first : List X → Reading X Y) (whole next : List X → Reading X Z) {x : Y} {a b : State X} → ((s m : List X) → first s ≡ Done x m → whole s ≡ next m)
    → Consumes a b (λ s m. or_eof k first s ≡ Done (Some x) m) → Consumes a b (λ s m. or_eof k whole s ≡ found (next m))
after_first k first whole next {x = x} {a = a} {b = b} f h = consumes_map _ h (λ p. let r = some_read k first a.remaining x b.remaining p in enough k whole a.remaining r.0 ∙ ap found (f a.remaining b.remaining r.1))

-- what is left was read
pub some_ok : {X Z : Type 0} (k : ℕ) (whole next : List X → Reading X Z) {y : Z} {a b c : State X} → Consumes a b (λ s m. or_eof k whole s ≡ found (next m)) → Consumes b c (λ s m. next s ≡ Done y m) → Consumes a c (λ s m. or_eof k whole s ≡ Done (Some y) m)
some_ok k whole next h n = consumes_then _ h n (λ p q. p ∙ ap found q)

-- or stops
pub some_stops : {X Z : Type 0} (k : ℕ) (whole next : List X → Reading X Z) {e : Error} {a b c : State X} → Consumes a b (λ s m. or_eof k whole s ≡ found (next m)) → Stops e next b c → Stops e (or_eof k whole) a c
some_stops k whole next h n = stops_after h (record { fault = λ s f rest q. ap found q; incomplete = λ s q. ap found q }) n

-- where the first field stops, so does the whole
pub first_stops : {X Y Z : Type 0} (k : ℕ) (first : List X → Reading X Y) (whole : List X → Reading X Z) {e : Error} {a b : State X} → StopsWith first whole → Stops e (or_eof k first) a b → Stops e (or_eof k whole) a b
first_stops k first whole {a = a} w h = stops_after (consumes_none a (λ s m. or_eof k whole s ≡ or_eof k whole m) refl) (record {
  fault = λ s f rest q. let p = fault_read k first s f rest q in enough k whole s p.0 ∙ ap found (w.fault s f rest p.1);
  incomplete = λ s q. let p = incomplete_read k first s q in enough k whole s p.0 ∙ ap found (w.incomplete s p.1);
}) h

-- ---- calls that allocate memory

-- a call that allocates no memory is never out of memory
pub never_out_of_memory_or_eof : {X A Y : Type 0} (k : ℕ) (view : A → Y) (r : Result (Option A) Error) (read : List X → Reading X Y) (a b : State X) → GivesOrEof k view r read a b → GivesOrEofOrOutOfMemory k view r read a b
never_out_of_memory_or_eof k view (Ok (Some x)) read a b h = h
never_out_of_memory_or_eof k view (Ok None) read a b h = h
never_out_of_memory_or_eof k view (Err (IoError cause)) read a b h = h
never_out_of_memory_or_eof k view (Err (FormatError text)) read a b h = h
never_out_of_memory_or_eof k view (Err (Unsupported text)) read a b h = h
never_out_of_memory_or_eof k view (Err OutOfMemory) read a b h = let n = h.named in absurd cc

-- an exit with any error but `OutOfMemory`
pub exit_no_memory_or_eof : {X A Y : Type 0} (k : ℕ) (view : A → Y) (read : List X → Reading X Y) {a c : State X} {r : Result (Option A) Error} {e : Error} → (y : Error) × (r ≡ Err y) × (y ≡ e) → Stops e (or_eof k read) a c → GivesOrEofOrOutOfMemory k view r read a c
exit_no_memory_or_eof k view read {a = a} {c = c} {r = r} p h = never_out_of_memory_or_eof k view r read a c (exit_or_eof k view read p h)
