-- Requests for memory that were refused, in calls that make no other.
use Rattle.std.proofs.Common.{◌≡◌, subst}
use Rattle.std.specs.Prelude.{Result, Ok, Err}
use Rattle.claxon.specs.Errors.{Error}
use Rattle.claxon.specs.Errors.TheVariants.{OutOfMemory}
use Rattle.claxon.specs.Promises.{IsOutOfMemory}
use Rattle.claxon_seek.specs.BlockMemory.{MemoryIsCounted}
use Rattle.claxon_seek.specs.SeekBlock.{searched}
use Rattle.claxon_seek.specs.declared.memory.BlockMemory.{BlockMemory}
use Rattle.claxon_seek.specs.declared.search.BlockSearch.{BlockSearch}
use Rattle.claxon_seek.specs.declared.search.BlockSearch.TheVariants.{Found, NotFound, OverBudget}

module _ {A : Type 0} {old new : BlockMemory} (q : Result A Error) where
  -- A call that requested none was not out of memory.
  pub none_requested : new ≡ old → (IsOutOfMemory q → ⊥) → MemoryIsCounted q old new
  none_requested same granted = record { refused = λ m. absurd (granted m); granted = λ _. same }

  -- The one call of it was not, and neither was it.
  pub granted_too : {B : Type 0} (r : Result B Error) → MemoryIsCounted r old new → (IsOutOfMemory r → ⊥) → (IsOutOfMemory q → ⊥) → MemoryIsCounted q old new
  granted_too r h granted also = none_requested (h.granted granted) also

  -- Before its last call none was refused.
  pub last_counts : {between : BlockMemory} → between ≡ old → MemoryIsCounted q between new → MemoryIsCounted q old new
  last_counts same h = subst (λ (m : BlockMemory). MemoryIsCounted q m new) same h

-- The one call of it has the same error.
pub error_counts : {A B : Type 0} {old new : BlockMemory} (r : Result B Error) (e : Error) → r ≡ Err e → MemoryIsCounted r old new → MemoryIsCounted {A = A} (Err e) old new
error_counts {A = A} r e is h = record {
  refused = λ m. h.refused (let k : (let x : Result A Error = Err e in x) ≡ Err OutOfMemory = m in cc);
  granted = λ never. h.granted (λ m. never (let k : r ≡ Err OutOfMemory = m in cc));
}

-- the same answer without the block
pub searched_counts : (r : Result BlockSearch Error) {old new : BlockMemory} → MemoryIsCounted r old new → MemoryIsCounted (searched r) old new
searched_counts (Ok (Found found)) h = granted_too _ (Ok (Found found)) h (λ m. cc) (λ m. cc)
searched_counts (Ok (NotFound undecided)) h = granted_too _ (Ok (NotFound undecided)) h (λ m. cc) (λ m. cc)
searched_counts (Ok (OverBudget to)) h = granted_too _ (Ok (OverBudget to)) h (λ m. cc) (λ m. cc)
searched_counts (Err e) h = record { refused = λ m. h.refused (let k : Err e ≡ Err OutOfMemory = m in cc); granted = λ never. h.granted (λ m. never (let k : Err e ≡ Err OutOfMemory = m in cc)) }
