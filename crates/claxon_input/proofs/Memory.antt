-- Calls that allocate memory, and calls that allocate none.
use Rattle.std.proofs.Common.{◌≡◌, List, true, false, refl}
use Rattle.std.specs.Prelude.{Result, Ok, Err}
use Rattle.claxon_format.specs.read.Reading.{Reading}
use Rattle.claxon_input.specs.declared.error.Error.{Error}
use Rattle.claxon_input.specs.declared.error.Error.TheVariants.{IoError, FormatError, Unsupported, OutOfMemory}
use Rattle.claxon_input.specs.State.{State}
use Rattle.claxon_input.specs.Gives.{Consumes, Stops, Gives, GivesOrOutOfMemory}
use Rattle.claxon_input.specs.Error.{is_out_of_memory}
use Rattle.claxon_input.specs.Promises.{IsOutOfMemory}
use Rattle.claxon_input.proofs.ConsecutiveCalls.{out_of_memory_later, gives_never_out_of_memory, stops_as, StopsAs}

-- the Err of a call that allocates memory
out_of_memory_as : {X A B Y Z : Type 0} (view : A → Y) (seen : B → Z) (e : Error) {read : List X → Reading X Z} {whole : List X → Reading X Y} {a b : State X} (c : State X)
    → Consumes a b (λ s m. StopsAs (read m) (whole s)) → GivesOrOutOfMemory seen (Err e) read b c → GivesOrOutOfMemory view (Err e) whole a c
out_of_memory_as view seen (IoError cause) c h k = stops_as h k
out_of_memory_as view seen (FormatError text) c h k = stops_as h k
out_of_memory_as view seen (Unsupported text) c h k = stops_as h k
out_of_memory_as view seen OutOfMemory c h k = out_of_memory_later h k

-- ---- exits by a `?`

-- on a call that allocates no memory
pub exit_no_memory : {X A Y Z : Type 0} (view : A → Y) {r : Result A Error} {e : Error} {read : List X → Reading X Z} {whole : List X → Reading X Y} {a b c : State X}
    → (y : Error) × (r ≡ Err y) × (y ≡ e) → Consumes a b (λ s m. StopsAs (read m) (whole s)) → Stops e read b c → GivesOrOutOfMemory view r whole a c
exit_no_memory view {e = e} {whole = whole} {a = a} {c = c} p h k = rw (p.1, p.2) (gives_never_out_of_memory view (Err e) whole a c (stops_as h k))

-- on a call that allocates memory
pub exit_with_memory : {X A B Y Z : Type 0} (view : A → Y) (seen : B → Z) {r : Result A Error} {e : Error} {read : List X → Reading X Z} {whole : List X → Reading X Y} {a b : State X} (c : State X)
    → (y : Error) × (r ≡ Err y) × (y ≡ e) → Consumes a b (λ s m. StopsAs (read m) (whole s)) → GivesOrOutOfMemory seen (Err e) read b c → GivesOrOutOfMemory view r whole a c
exit_with_memory view seen {e = e} c p h k = rw (p.1, p.2) (out_of_memory_as view seen e c h k)

-- an Err is the same under any view of an Ok
pub err_any_view : {X A B Y : Type 0} (view : A → Y) (seen : B → Y) (e : Error) (read : List X → Reading X Y) (a b : State X) → GivesOrOutOfMemory seen (Err e) read a b → GivesOrOutOfMemory view (Err e) read a b
err_any_view view seen (IoError cause) read a b k = k
err_any_view view seen (FormatError text) read a b k = k
err_any_view view seen (Unsupported text) read a b k = k
err_any_view view seen OutOfMemory read a b k = k

-- ---- a call that allocates no memory is never out of memory

pub stops_not_out_of_memory : {X Y : Type 0} (e : Error) (read : List X → Reading X Y) (a b : State X) → Stops e read a b → is_out_of_memory e ≡ false
stops_not_out_of_memory (IoError i) read a b h = refl
stops_not_out_of_memory (FormatError i) read a b h = refl
stops_not_out_of_memory (Unsupported i) read a b h = refl
stops_not_out_of_memory OutOfMemory read a b h = let k = h.named in absurd cc

pub gives_not_out_of_memory : {X A Y : Type 0} (view : A → Y) (r : Result A Error) (read : List X → Reading X Y) (a b : State X) → Gives view r read a b → IsOutOfMemory r → ⊥
gives_not_out_of_memory view (Ok x) read a b g e = absurd cc
gives_not_out_of_memory view (Err e) read a b g k = let n = stops_not_out_of_memory e read a b g in let m : e ≡ OutOfMemory = cc in let p : true ≡ false = rw m at n in absurd cc
