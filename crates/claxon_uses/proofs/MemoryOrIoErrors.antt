-- Calls that were out of memory, or whose source failed.
use Rattle.std.proofs.Common.{inl, inr}
use Rattle.std.specs.Prelude.{Result, Ok, Err}
use Rattle.claxon.specs.Errors.{Error}
use Rattle.claxon.specs.Opening.{IsMemoryOrIoError}
use Rattle.claxon.specs.Promises.{IsExcused}
use Rattle.claxon.specs.State.{State}
use Rattle.claxon.proofs.OutOfMemory.{not_out_of_memory, same_out_of_memory}

pub not_memory_or_io_error : {A : Type 0} (x : A) → IsMemoryOrIoError (let q : Result A Error = Ok x in q) → ⊥
not_memory_or_io_error x (inl p) = not_out_of_memory x p
not_memory_or_io_error x (inr i) = i

pub same_memory_or_io_error : {A B : Type 0} (e : Error) → IsMemoryOrIoError (let q : Result A Error = Err e in q) → IsMemoryOrIoError (let q : Result B Error = Err e in q)
same_memory_or_io_error e (inl p) = inl (same_out_of_memory e p)
same_memory_or_io_error e (inr i) = inr i

-- what is excused is such an error
pub excused_memory_or_io_error : {X A : Type 0} (r : Result A Error) (a b : State X) → IsExcused r a b → IsMemoryOrIoError r
excused_memory_or_io_error r a b (inl s) = inl s
excused_memory_or_io_error r a b (inr f) = inr f.0
