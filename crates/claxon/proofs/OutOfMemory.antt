-- Results that are `OutOfMemory`.
use Rattle.std.proofs.Common.{◌≡◌, ap}
use Rattle.std.specs.Prelude.{Result, Ok, Err}
use Rattle.claxon_input.specs.declared.error.Error.{Error}
use Rattle.claxon_input.specs.declared.error.Error.TheVariants.{OutOfMemory}
use Rattle.claxon_input.specs.Promises.{IsOutOfMemory}

-- an Ok isn't
pub not_out_of_memory : {A : Type 0} (x : A) → IsOutOfMemory (let q : Result A Error = Ok x in q) → ⊥
not_out_of_memory x p = cc

-- an Err is, whatever the values
pub same_out_of_memory : {A B : Type 0} (e : Error) → IsOutOfMemory (let q : Result A Error = Err e in q) → IsOutOfMemory (let q : Result B Error = Err e in q)
same_out_of_memory e p = let k : e ≡ OutOfMemory = cc in ap (λ (z : Error). Err z) k
