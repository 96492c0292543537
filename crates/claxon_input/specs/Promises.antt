-- What callers see of a call that reads a field, and may allocate memory: its result by the
-- codes of the field and their faults.
use Rattle.std.specs.Prelude.{
  ◌≡◌,
  ℕ,
  ◌+◌,
  ◌<◌,
  ◌≤◌,
  ◌⊎◌,
  true,
  List,
  [],
  ◌++◌,
  length,
  Option,
  None,
  Result,
  Ok,
  Err,
  IfOk,
  IfErr,
  IfSome,
  IsOkAnd,
  IsErrAnd,
  IsSomeAnd,
}
use Rattle.claxon_format.specs.Fault.{Fault}
use Rattle.claxon_input.specs.Error.{IsFault, IsIo, is_out_of_memory}
use Rattle.claxon_input.specs.Gives.{ReadFailedIn, IsRest}
use Rattle.claxon_input.specs.State.{State, RemainingIsKnown, source_bytes}
use Rattle.claxon_input.specs.declared.error.Error.{Error}
use Rattle.claxon_input.specs.declared.error.Error.TheVariants.{OutOfMemory}

-- ---- what remains, and what was consumed

-- It is known what remains: xs.
pub record Remains {X : Type 0} (s : State X) (xs : List X) : Type 0 where
  pub known : RemainingIsKnown s
  pub are : s.remaining ≡ xs

-- Where it is known what remains, C holds of what was consumed, and it is still known what remains.
abbrev pub Consumed : {X : Type 0} → State X → State X → (List X → Type 0) → Type 0
Consumed {X} old new C =
    RemainingIsKnown old → RemainingIsKnown new
    × ((t : List X) × C t × (old.remaining ≡ t ++ new.remaining))

-- At most n were consumed, where it is known what remains.
abbrev pub ConsumesAtMost : {X : Type 0} → ℕ → State X → State X → Type 0
ConsumesAtMost n old new = length old.remaining ≤ n + length new.remaining

-- ---- the results that say nothing of what remains

-- memory was refused
abbrev pub IsOutOfMemory : {A : Type 0} → Result A Error → Type 0
IsOutOfMemory r = r ≡ Err OutOfMemory

-- what holds where it was
abbrev pub IfOutOfMemory : {A : Type 0} → Result A Error → Type 0 → Type 0
IfOutOfMemory r P = IfErr r (λ e. is_out_of_memory e ≡ true → P)

-- The result is an `IoError`, and the source failed in the call: a read of it returned an Err,
-- or no bytes before its end.
abbrev pub ReadFailed : {X A : Type 0} → Result A Error → State X → State X → Type 0
ReadFailed r old new = IsErrAnd r IsIo × ReadFailedIn old new

-- memory was refused, or the source failed
abbrev pub IsExcused : {X A : Type 0} → Result A Error → State X → State X → Type 0
IsExcused r old new = IsOutOfMemory r ⊎ ReadFailed r old new

-- ---- codes

-- An Ok consumed just a code of what it returned.
abbrev pub CodeIsSound : {X A Y : Type 0} → (A → Y) → Result A Error → (Y → List X → Type 0)
    → State X → State X → Type 0
CodeIsSound view r Code old new = IfOk r (λ x. Consumed old new (Code (view x)))

-- Where a code stands, whatever follows, it is returned and alone consumed, or the result is
-- excused.
abbrev pub CodeIsComplete : {X A Y : Type 0} → (A → Y) → Result A Error → (Y → List X → Type 0)
    → State X → State X → Type 0
CodeIsComplete {X} {A} {Y} view r Code old new =
    (y : Y) (t rest : List X) → Code y t → Remains old (t ++ rest)
    → (IsOkAnd r (λ x. view x ≡ y) × Remains new rest) ⊎ IsExcused r old new

-- ---- faults

-- An Err is `OutOfMemory`, an `IoError`, or names a fault, and what was consumed has that fault.
abbrev pub FaultIsSound : {X A : Type 0} → Result A Error → (Fault → List X → Type 0) → State X
    → State X → Type 0
FaultIsSound {X} r Bad old new =
    IfErr r (λ e. (e ≡ OutOfMemory)
    ⊎ (IsIo e ⊎ (RemainingIsKnown old → (f : Fault) × IsFault f e × Consumed old new (Bad f))))

-- Where a fault stands it is named and alone consumed, or the result is excused.
abbrev pub FaultIsComplete : {X A : Type 0} → Result A Error → (Fault → List X → Type 0) → State X
    → State X → Type 0
FaultIsComplete {X} r Bad old new =
    (f : Fault) (t rest : List X) → Bad f t → Remains old (t ++ rest)
    → (IsErrAnd r (IsFault f) × Remains new rest) ⊎ IsExcused r old new

-- ---- neither

-- neither a code nor a fault stands at the front of s
pub record HasNeither {X Y : Type 0} (Code : Y → List X → Type 0) (Bad : Fault → List X → Type 0)
    (s : List X) : Type 0 where
  pub no_code : (y : Y) (t rest : List X) → Code y t → s ≡ t ++ rest → ⊥
  pub no_fault : (f : Fault) (t rest : List X) → Bad f t → s ≡ t ++ rest → ⊥

-- Where neither stands the result is an `IoError` or `OutOfMemory`.
abbrev pub ElseIoError : {X A Y : Type 0} → Result A Error → (Y → List X → Type 0)
    → (Fault → List X → Type 0) → State X → State X → Type 0
ElseIoError {X} {A} {Y} r Code Bad old new =
    RemainingIsKnown old → HasNeither Code Bad old.remaining → IsOutOfMemory r ⊎ IsErrAnd r IsIo

-- An Err leaves a suffix of the bytes that remained.
abbrev pub LeavesRest : {X A : Type 0} → Result A Error → State X → State X → Type 0
LeavesRest r old new =
    IfErr r (λ e.
    RemainingIsKnown old → RemainingIsKnown new × IsRest (source_bytes old) (source_bytes new))

-- all of it
pub record Promises {X A Y : Type 0} (view : A → Y) (r : Result A Error)
    (Code : Y → List X → Type 0) (Bad : Fault → List X → Type 0) (old new : State X) : Type 0 where
  pub is_sound : CodeIsSound view r Code old new
  pub is_complete : CodeIsComplete view r Code old new
  pub fault_is_sound : FaultIsSound r Bad old new
  pub fault_is_complete : FaultIsComplete r Bad old new
  pub else_io_error : ElseIoError r Code Bad old new
  pub leaves_rest : LeavesRest r old new

-- ---- a field, or the end of input, where fewer than count are left

-- A value that is returned: just a code of it was consumed.
abbrev pub FoundIsSound : {X A Y : Type 0} → (A → Y) → Result (Option A) Error
    → (Y → List X → Type 0) → State X → State X → Type 0
FoundIsSound view r Code old new =
    IfOk r (λ found. IfSome found (λ x. Consumed old new (Code (view x))))

-- Where a code stands, whatever follows, it is returned and alone consumed, or the result is
-- excused.
abbrev pub FoundIsComplete : {X A Y : Type 0} → (A → Y) → Result (Option A) Error
    → (Y → List X → Type 0) → State X → State X → Type 0
FoundIsComplete {X} {A} {Y} view r Code old new =
    (y : Y) (t rest : List X) → Code y t → Remains old (t ++ rest)
    → (IsOkAnd r (λ found. IsSomeAnd found (λ x. view x ≡ y)) × Remains new rest)
    ⊎ IsExcused r old new

-- None says that fewer than count remained, which were consumed.
abbrev pub NoneIsEof : {X A : Type 0} → ℕ → Result (Option A) Error → State X → State X → Type 0
NoneIsEof count r old new =
    IfOk r (λ found. found ≡ None → RemainingIsKnown old → (length old.remaining < count)
    × Remains new [])

-- Where fewer than count remain they are consumed and None is returned, or the result is excused.
abbrev pub EofIsNone : {X A : Type 0} → ℕ → Result (Option A) Error → State X → State X → Type 0
EofIsNone {X} count r old new =
    (xs : List X) → Remains old xs → length xs < count → ((r ≡ Ok None) × Remains new [])
    ⊎ IsExcused r old new

-- Where count or more remain and neither a code nor a fault stands, the result is an `IoError`
-- or `OutOfMemory`.
abbrev pub ElseIoErrorFrom : {X A Y : Type 0} → ℕ → Result A Error → (Y → List X → Type 0)
    → (Fault → List X → Type 0) → State X → State X → Type 0
ElseIoErrorFrom count r Code Bad old new =
    count ≤ length old.remaining → ElseIoError r Code Bad old new

-- all of it
pub record EofPromises {X A Y : Type 0} (count : ℕ) (view : A → Y) (r : Result (Option A) Error)
    (Code : Y → List X → Type 0) (Bad : Fault → List X → Type 0) (old new : State X) : Type 0 where
  pub is_sound : FoundIsSound view r Code old new
  pub is_complete : FoundIsComplete view r Code old new
  pub none_is_eof : NoneIsEof count r old new
  pub eof_is_none : EofIsNone count r old new
  pub failure_is_err : IfOk r (λ found. new.source.errors ≡ old.source.errors)
  pub fault_is_sound : FaultIsSound r Bad old new
  pub fault_is_complete : FaultIsComplete r Bad old new
  pub else_io_error : ElseIoErrorFrom count r Code Bad old new
  pub leaves_rest : LeavesRest r old new
