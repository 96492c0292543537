-- What a window says of the bytes that it holds and of its source.
use Rattle.std.specs.Prelude.{
  ◌≡◌,
  ◌⊎◌,
  ◌<◌,
  ◌≤◌,
  ℕ,
  Bool,
  false,
  true,
  List,
  [],
  ◌++◌,
  drop,
  length,
}
use Rattle.claxon.specs.Error.{IsIo}
use Rattle.claxon.specs.Errors.{Error}
use Rattle.claxon.specs.Source.{IsKnown, Source, SourceReadFailed}
use Rattle.claxon.specs.State.{remaining_as}
use Rattle.claxon_recovery.specs.declared.window.Window.{Window}

-- the bytes that were read and not passed
abbrev pub pending : {R : Type 0} → Window R → List ℕ
pending w = drop w.taken w.bytes.items

-- how many bytes are kept at most
abbrev pub most_pending : {R : Type 0} → Window R → ℕ
most_pending w = w.most

-- the source
abbrev pub window_source : {R : Type 0} → Window R → R
window_source w = w.source

-- the bytes that a source still has; none where they aren't known
abbrev pub bytes_left : Source ℕ → List ℕ
bytes_left s = remaining_as (λ all. all) s.remaining

-- These bytes were read, and no read of the source failed; one that gave none came at its end.
pub record WasRead (old new : Source ℕ) (more : List ℕ) : Type 0 where
  pub known : IsKnown new.remaining
  pub left : bytes_left old ≡ more ++ bytes_left new
  pub empty_reads : (new.empty_reads ≡ old.empty_reads) ⊎ (bytes_left new ≡ [])

pub record Reads (old new : Source ℕ) (more : List ℕ) : Type 0 where
  pub loans : new.loans ≡ old.loans
  pub errors : new.errors ≡ old.errors
  pub known : IsKnown old.remaining → WasRead old new more

-- A read of the source failed, after some bytes.
pub record HasFailed (old new : Source ℕ) : Type 0 where
  pub known : IsKnown new.remaining
  pub moved : List ℕ
  pub left : bytes_left old ≡ moved ++ bytes_left new
  pub failed : SourceReadFailed old new

pub record Fails (old new : Source ℕ) : Type 0 where
  pub loans : new.loans ≡ old.loans
  pub known : IsKnown old.remaining → HasFailed old new

module _ {R : Type 0} (source : R → Source ℕ) (old new : Window R) where
  -- More bytes were read after those that were pending.
  pub record ReadsOn : Type 0 where
    pub more : List ℕ
    pub held : pending new ≡ pending old ++ more
    pub reads : Reads (source (window_source old)) (source (window_source new)) more

  -- A read of the source failed, and the error says so.
  pub record ReadFails (e : Error) : Type 0 where
    pub is_io : IsIo e
    pub fails : Fails (source (window_source old)) (source (window_source new))

-- Nothing is left in the source, where its bytes are known.
abbrev pub NothingIsLeft : Source ℕ → Source ℕ → Type 0
NothingIsLeft old new = IsKnown old.remaining → bytes_left new ≡ []

module _ {R : Type 0} (source : R → Source ℕ) (old new : Window R) where
  -- More bytes were read, or nothing was left.
  abbrev pub MoreIs : Bool → Type 0
  MoreIs true = ReadsOn source old new × (length (pending old) < length (pending new))
  MoreIs false =
      ReadsOn source old new
      × NothingIsLeft (source (window_source old)) (source (window_source new))

module _ {R : Type 0} (source : R → Source ℕ) (wanted : ℕ) (old new : Window R) where
  -- So many bytes are pending, or nothing is left.
  abbrev pub FillIs : Bool → Type 0
  FillIs true = ReadsOn source old new × (wanted ≤ length (pending new))
  FillIs false =
      ReadsOn source old new
      × NothingIsLeft (source (window_source old)) (source (window_source new))
