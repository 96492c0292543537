-- What a call that reads a field returned and consumed, by a reader on lists. Proofs about calls
-- one after another use these clauses; what callers see of them stands in `Promises`.
use Rattle.std.specs.Prelude.{
  ◌≡◌,
  ◌≢◌,
  ℕ,
  Option,
  None,
  Some,
  ◌⊎◌,
  true,
  false,
  if◌then◌else◌,
  nat_lt,
  List,
  [],
  ◌++◌,
  length,
  Result,
  Ok,
  Err,
}
use Rattle.claxon_format.specs.read.Reading.{Reading, Done, Faulty, Incomplete, and_then, done}
use Rattle.claxon_input.specs.Error.{IsFault, is_io, is_named}
use Rattle.claxon_input.specs.State.{State, RemainingIsKnown, final_values, source_bytes}
use Rattle.claxon_input.specs.declared.error.Error.{Error}
use Rattle.claxon_input.specs.declared.error.Error.TheVariants.{OutOfMemory}

-- ---- what was consumed

-- m is a suffix of s
unfoldable pub IsRest : {X : Type 0} → List X → List X → Type 0
IsRest {X} s m = (t : List X) × (s ≡ t ++ m)

-- It is still known what remains, and P holds. The bytes in the source are a suffix of those
-- before, and the kept values at the end of input are the same.
pub record KnownAnd {X : Type 0} (old new : State X) (P : Type 0) : Type 0 where
  pub known : RemainingIsKnown new
  pub is : P
  pub rest : (z : List ℕ) → IsRest z (source_bytes old) → IsRest z (source_bytes new)
  pub values : final_values new ≡ final_values old

-- No read of the source failed, and P holds of what remained before and remains after.
pub record Consumes {X : Type 0} (old new : State X) (P : List X → List X → Type 0) : Type 0 where
  pub errors : new.source.errors ≡ old.source.errors
  pub empty_reads : new.source.empty_reads ≡ old.source.empty_reads
  pub loans : new.source.loans ≡ old.source.loans
  pub known : RemainingIsKnown old → KnownAnd old new (P old.remaining new.remaining)

-- a read of the source returned an Err, or no bytes before the end of input
abbrev pub ReadFailedIn : {X : Type 0} → State X → State X → Type 0
ReadFailedIn old new =
    (new.source.errors ≢ old.source.errors)
    ⊎ ((new.source.empty_reads ≢ old.source.empty_reads) × (source_bytes new ≢ []))

-- It is still known what remains, P holds or the source failed, and a prefix was consumed.
pub record ReadFailedOr {X : Type 0} (old new : State X) (P : Type 0) : Type 0 where
  pub known : RemainingIsKnown new
  pub why : P ⊎ ReadFailedIn old new
  pub rest : (z : List ℕ) → IsRest z (source_bytes old) → IsRest z (source_bytes new)

-- The source failed, or P holds of what remained.
pub record ReadFailedOrRemaining {X : Type 0} (old new : State X) (P : List X → Type 0) : Type 0
  where
    pub loans : new.source.loans ≡ old.source.loans
    pub known : RemainingIsKnown old → ReadFailedOr old new (P old.remaining)

-- ---- what an Err says

-- what was read is the fault that the error names, and m is left
abbrev pub IsFaultOf : {X Y : Type 0} → Error → Reading X Y → List X → Type 0
IsFaultOf e (Faulty f rest) m = IsFault f e × (rest ≡ m)
IsFaultOf e _ m = ⊥

-- An `IoError` says that the source failed or that the input ended, and any other Err names the
-- fault that was read. No other Err is returned, whether it is known what remains or not.
pub record Stops {X Y : Type 0} (e : Error) (read : List X → Reading X Y)
    (old new : State X) : Type 0 where
  pub failure : is_io e ≡ true → ReadFailedOrRemaining old new (λ s. read s ≡ Incomplete)
  pub fault : is_io e ≡ false → Consumes old new (λ s m. IsFaultOf e (read s) m)
  pub named : is_named e ≡ true

-- Out of memory: a suffix of what remained is left.
pub record OutOfMemoryLeavesRest {X : Type 0} (old new : State X) : Type 0 where
  pub consumed : Consumes old new (λ s m. Unit {0})

-- ---- what a call gives

-- What the call returned, as view shows it, is what reading gives, and just what was read was
-- consumed; or the source failed, or the input ended.
abbrev pub Gives : {X A Y : Type 0} → (A → Y) → Result A Error → (List X → Reading X Y) → State X
    → State X → Type 0
Gives view (Ok x) read old new = Consumes old new (λ s m. read s ≡ Done (view x) m)
Gives view (Err e) read old new = Stops e read old new

-- The same of a call that allocates memory.
abbrev pub GivesOrOutOfMemory : {X A Y : Type 0} → (A → Y) → Result A Error → (List X → Reading X Y)
    → State X → State X → Type 0
GivesOrOutOfMemory view (Ok x) read old new = Consumes old new (λ s m. read s ≡ Done (view x) m)
GivesOrOutOfMemory view (Err OutOfMemory) read old new = OutOfMemoryLeavesRest old new
GivesOrOutOfMemory view (Err e) read old new = Stops e read old new

-- The same of a call that has no faults.
abbrev pub GivesIo : {X A Y E : Type 0} → (A → Y) → Result A E → (List X → Reading X Y) → State X
    → State X → Type 0
GivesIo view (Ok x) read old new = Consumes old new (λ s m. read s ≡ Done (view x) m)
GivesIo view (Err e) read old new = ReadFailedOrRemaining old new (λ s. read s ≡ Incomplete)

-- ---- a field, or the end of input

-- the field, or None where fewer than count are left
abbrev pub or_eof : {X A : Type 0} → ℕ → (List X → Reading X A) → List X → Reading X (Option A)
or_eof count read s =
    if nat_lt (length s) count then Done None [] else and_then read (λ a. done (Some a)) s

-- fewer than count were left, and all were consumed
pub record ReachedEof {X : Type 0} (count : ℕ) (old new : State X) : Type 0 where
  pub errors : new.source.errors ≡ old.source.errors
  pub loans : new.source.loans ≡ old.source.loans
  pub known : RemainingIsKnown old → KnownAnd old new
      ((nat_lt (length old.remaining) count ≡ true) × (new.remaining ≡ []))

-- What the call returned, as view shows it, is what reading gives, or None where fewer than count
-- are left; and just that was consumed, or the source failed.
abbrev pub GivesOrEof : {X A Y : Type 0} → ℕ → (A → Y) → Result (Option A) Error
    → (List X → Reading X Y) → State X → State X → Type 0
GivesOrEof count view (Ok (Some x)) read old new =
    Consumes old new (λ s m. or_eof count read s ≡ Done (Some (view x)) m)
GivesOrEof count view (Ok None) read old new = ReachedEof count old new
GivesOrEof count view (Err e) read old new = Stops e (or_eof count read) old new

-- The same of a call that allocates memory.
abbrev pub GivesOrEofOrOutOfMemory : {X A Y : Type 0} → ℕ → (A → Y) → Result (Option A) Error
    → (List X → Reading X Y) → State X → State X → Type 0
GivesOrEofOrOutOfMemory count view (Ok (Some x)) read old new =
    Consumes old new (λ s m. or_eof count read s ≡ Done (Some (view x)) m)
GivesOrEofOrOutOfMemory count view (Ok None) read old new = ReachedEof count old new
GivesOrEofOrOutOfMemory count view (Err OutOfMemory) read old new = OutOfMemoryLeavesRest old new
GivesOrEofOrOutOfMemory count view (Err e) read old new = Stops e (or_eof count read) old new
