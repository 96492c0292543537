-- What calls one after another did to a stream.
use Rattle.std.proofs.Common.{◌≡◌, ◌⊎◌, inl, inr, Bool, true, false, List, refl, sym, ◌∙◌}
use Rattle.std.specs.Prelude.{Result, Ok, Err}
use Rattle.std.specs.declared.io.Error as io
use Rattle.claxon_format.specs.Fault.{Fault}
use Rattle.claxon_format.specs.read.Reading.{Reading, Done, Faulty, Incomplete}
use Rattle.claxon_input.specs.declared.error.Error.{Error}
use Rattle.claxon_input.specs.declared.error.Error.TheVariants.{IoError, FormatError, Unsupported, OutOfMemory}
use Rattle.claxon_input.specs.State.{State, RemainingIsKnown}
use Rattle.claxon_input.specs.Gives.{Consumes, ReadFailedOrRemaining, ReadFailedIn, IsFaultOf, Stops, Gives, OutOfMemoryLeavesRest, GivesOrOutOfMemory}
use Rattle.claxon_input.specs.Error.{is_io}

-- nothing was consumed
pub consumes_none : {X : Type 0} (a : State X) (P : List X → List X → Type 0) → P a.remaining a.remaining → Consumes a a P
consumes_none a P h = record { errors = refl; empty_reads = refl; loans = refl; known = λ t. record { known = t; is = h; rest = λ z k. k; values = refl } }

-- one after another
pub consumes_then : {X : Type 0} {a b c : State X} {P Q : List X → List X → Type 0} (T : List X → List X → Type 0) → Consumes a b P → Consumes b c Q → (P a.remaining b.remaining → Q b.remaining c.remaining → T a.remaining c.remaining) → Consumes a c T
consumes_then T h k f = record {
  errors = k.errors ∙ h.errors;
  empty_reads = k.empty_reads ∙ h.empty_reads;
  loans = k.loans ∙ h.loans;
  known = λ t. let x = h.known t in let y = k.known x.known in record { known = y.known; is = f x.is y.is; rest = λ z e. y.rest z (x.rest z e); values = y.values ∙ x.values };
}

pub consumes_map : {X : Type 0} {a b : State X} {P : List X → List X → Type 0} (T : List X → List X → Type 0) → Consumes a b P → (P a.remaining b.remaining → T a.remaining b.remaining) → Consumes a b T
consumes_map T h f = record { errors = h.errors; empty_reads = h.empty_reads; loans = h.loans; known = λ t. let x = h.known t in record { known = x.known; is = f x.is; rest = x.rest; values = x.values } }

-- the same, where it is known what remains
pub consumes_known : {X : Type 0} {a b : State X} {P : List X → List X → Type 0} (T : List X → List X → Type 0) → Consumes a b P → (RemainingIsKnown a → P a.remaining b.remaining → T a.remaining b.remaining) → Consumes a b T
consumes_known T h f = record { errors = h.errors; empty_reads = h.empty_reads; loans = h.loans; known = λ t. let x = h.known t in record { known = x.known; is = f t x.is; rest = x.rest; values = x.values } }

pub failure_or_known : {X : Type 0} {a b : State X} {Q : List X → Type 0} (T : List X → Type 0) → ReadFailedOrRemaining a b Q → (RemainingIsKnown a → Q a.remaining → T a.remaining) → ReadFailedOrRemaining a b T
failure_or_known T h f = record { loans = h.loans; known = λ t. let x = h.known t in record { known = x.known; why = elim x.why [ inl q ↦ inl (f t q) | inr q ↦ inr q ]; rest = x.rest } }

failed_later : {X : Type 0} {a b : State X} (c : State X) {P : List X → List X → Type 0} → Consumes a b P → ReadFailedIn b c → ReadFailedIn a c
failed_later c h (inl e) = inl (λ p. e (p ∙ sym h.errors))
failed_later c h (inr e) = inr ((λ p. e.0 (p ∙ sym h.empty_reads)), e.1)

-- a failure after something was consumed
pub failure_or_after : {X : Type 0} {a b c : State X} {P : List X → List X → Type 0} {Q : List X → Type 0} (T : List X → Type 0) → Consumes a b P → ReadFailedOrRemaining b c Q → (P a.remaining b.remaining → Q b.remaining → T a.remaining) → ReadFailedOrRemaining a c T
failure_or_after {c = c} T h k f = record {
  loans = k.loans ∙ h.loans;
  known = λ t. let x = h.known t in let y = k.known x.known in record { known = y.known; why = elim y.why [ inl q ↦ inl (f x.is q) | inr q ↦ inr (failed_later c h q) ]; rest = λ z e. y.rest z (x.rest z e) };
}

-- where the first reader stops, so does the second
pub record StopsWith {X Y Z : Type 0} (first : List X → Reading X Y) (second : List X → Reading X Z) : Type 0 where
  pub fault : (s : List X) (f : Fault) (rest : List X) → first s ≡ Faulty f rest → second s ≡ Faulty f rest
  pub incomplete : (s : List X) → first s ≡ Incomplete → second s ≡ Incomplete

fault_of : {X Y Z : Type 0} (e : Error) (x : Reading X Y) (y : Reading X Z) (m : List X) → ((f : Fault) (rest : List X) → x ≡ Faulty f rest → y ≡ Faulty f rest) → IsFaultOf e x m → IsFaultOf e y m
fault_of e (Faulty f rest) y m g h = rw (g f rest refl) h
fault_of e (Done x rest) y m g h = absurd h
fault_of e Incomplete y m g h = absurd h

-- an Err after something was consumed
pub stops_after : {X Y Z : Type 0} {e : Error} {a b c : State X} {read : List X → Reading X Y} {next whole : List X → Reading X Z} → Consumes a b (λ s m. whole s ≡ next m) → StopsWith read next → Stops e read b c → Stops e whole a c
stops_after {e = e} {b = b} {c = c} {read = read} {next = next} {whole = whole} h w k = record {
  failure = λ i. failure_or_after (λ s. whole s ≡ Incomplete) h (k.failure i) (λ p q. p ∙ w.incomplete b.remaining q);
  fault = λ i. consumes_then (λ s m. IsFaultOf e (whole s) m) h (k.fault i) (λ p q. rw p (fault_of e (read b.remaining) (next b.remaining) c.remaining (w.fault b.remaining) q));
  named = k.named;
}

-- the call that the function ends with
pub gives_after : {X A Y : Type 0} (view : A → Y) {next whole : List X → Reading X Y} {a b : State X} (r : Result A Error) (c : State X) → Consumes a b (λ s m. whole s ≡ next m) → Gives view r next b c → Gives view r whole a c
gives_after view (Ok x) c h k = consumes_then _ h k (λ p q. p ∙ q)
gives_after view (Err e) c h k = stops_after h (record { fault = λ s f rest q. q; incomplete = λ s q. q }) k

-- ---- exits

-- by a `?` on a call of the stream
pub io_exit : {X A Y : Type 0} (view : A → Y) {r : Result A Error} {read : List X → Reading X Y} {a c : State X} {cause : io.Error} → (y : Error) × (r ≡ Err y) × (y ≡ IoError cause) → ReadFailedOrRemaining a c (λ s. read s ≡ Incomplete) → Gives view r read a c
io_exit view p h = rw (p.1, p.2) (record { failure = λ i. h; fault = λ i. absurd cc; named = refl })

-- by a `?` on a call that gives what reading gives
pub exit : {X A Y : Type 0} (view : A → Y) {read : List X → Reading X Y} {a c : State X} {r : Result A Error} {e : Error} → (y : Error) × (r ≡ Err y) × (y ≡ e) → Stops e read a c → Gives view r read a c
exit view p h = rw (p.1, p.2) h

-- the loans stay the same
pub stops_loans : {X Y : Type 0} (e : Error) (read : List X → Reading X Y) (a b : State X) (io : Bool) → is_io e ≡ io → Stops e read a b → b.source.loans ≡ a.source.loans
stops_loans e read a b true i k = (k.failure i).loans
stops_loans e read a b false i k = (k.fault i).loans

pub gives_loans : {X A Y : Type 0} (view : A → Y) (r : Result A Error) (read : List X → Reading X Y) (a b : State X) → Gives view r read a b → b.source.loans ≡ a.source.loans
gives_loans view (Ok x) read a b g = g.loans
gives_loans view (Err e) read a b g = stops_loans e read a b (is_io e) refl g

-- the same under another reader
pub gives_same : {X A Y : Type 0} (view : A → Y) (r : Result A Error) (read whole : List X → Reading X Y) (a b : State X) → ((s : List X) → whole s ≡ read s) → Gives view r read a b → Gives view r whole a b
gives_same view (Ok x) read whole a b h g = consumes_map _ g (λ p. h _ ∙ p)
gives_same view (Err e) read whole a b h g = stops_after (consumes_none a (λ s m. whole s ≡ whole m) refl) (record { fault = λ s f rest p. h s ∙ p; incomplete = λ s p. h s ∙ p }) g

-- where x stops, so does y
pub record StopsAs {X Y Z : Type 0} (x : Reading X Y) (y : Reading X Z) : Type 0 where
  pub fault : (f : Fault) (rest : List X) → x ≡ Faulty f rest → y ≡ Faulty f rest
  pub incomplete : x ≡ Incomplete → y ≡ Incomplete

-- an Err of the last call is the Err of the whole
pub stops_as : {X Y Z : Type 0} {e : Error} {read : List X → Reading X Y} {whole : List X → Reading X Z} {a b c : State X} → Consumes a b (λ s m. StopsAs (read m) (whole s)) → Stops e read b c → Stops e whole a c
stops_as {e = e} {read = read} {whole = whole} {a = a} {b = b} {c = c} h k = record {
  failure = λ i. failure_or_after (λ s. whole s ≡ Incomplete) h (k.failure i) (λ p q. p.incomplete q);
  fault = λ i. consumes_then (λ s m. IsFaultOf e (whole s) m) h (k.fault i) (λ p q. fault_of e (read b.remaining) (whole a.remaining) c.remaining p.fault q);
  named = k.named;
}

-- ---- calls that allocate memory

-- out of memory after something was consumed
pub out_of_memory_later : {X : Type 0} {a b c : State X} {P : List X → List X → Type 0} → Consumes a b P → OutOfMemoryLeavesRest b c → OutOfMemoryLeavesRest a c
out_of_memory_later h k = record { consumed = consumes_then _ h k.consumed (λ p q. tt) }

-- a call that allocates no memory is never out of memory
pub gives_never_out_of_memory : {X A Y : Type 0} (view : A → Y) (r : Result A Error) (read : List X → Reading X Y) (a b : State X) → Gives view r read a b → GivesOrOutOfMemory view r read a b
gives_never_out_of_memory view (Ok x) read a b h = h
gives_never_out_of_memory view (Err (IoError cause)) read a b h = h
gives_never_out_of_memory view (Err (FormatError text)) read a b h = h
gives_never_out_of_memory view (Err (Unsupported text)) read a b h = h
gives_never_out_of_memory view (Err OutOfMemory) read a b h = let k = h.named in absurd cc

-- out of memory, or what a call gives that allocates none
pub out_of_memory_or_gives : {X A Y : Type 0} (view : A → Y) (r : Result A Error) (read : List X → Reading X Y) (a b : State X) → GivesOrOutOfMemory view r read a b → ((r ≡ Err OutOfMemory) × OutOfMemoryLeavesRest a b) ⊎ Gives view r read a b
out_of_memory_or_gives view (Ok x) read a b h = inr h
out_of_memory_or_gives view (Err (IoError cause)) read a b h = inr h
out_of_memory_or_gives view (Err (FormatError text)) read a b h = inr h
out_of_memory_or_gives view (Err (Unsupported text)) read a b h = inr h
out_of_memory_or_gives view (Err OutOfMemory) read a b h = inl (refl, h)

-- the call that such a function ends with
pub gives_or_out_of_memory_after : {X A Y : Type 0} (view : A → Y) {next whole : List X → Reading X Y} {a b : State X} (r : Result A Error) (c : State X) → Consumes a b (λ s m. whole s ≡ next m) → GivesOrOutOfMemory view r next b c → GivesOrOutOfMemory view r whole a c
gives_or_out_of_memory_after view (Err OutOfMemory) c h k = out_of_memory_later h k
gives_or_out_of_memory_after view (Ok x) c h k = gives_after view (Ok x) c h k
gives_or_out_of_memory_after view (Err (IoError cause)) c h k = gives_after view (Err (IoError cause)) c h k
gives_or_out_of_memory_after view (Err (FormatError text)) c h k = gives_after view (Err (FormatError text)) c h k
gives_or_out_of_memory_after view (Err (Unsupported text)) c h k = gives_after view (Err (Unsupported text)) c h k
