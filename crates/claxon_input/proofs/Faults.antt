-- An Err that names a fault.
use Rattle.std.proofs.Common.{◌≡◌, true, false, List, refl}
use Rattle.claxon_format.specs.Fault.{Fault}
use Rattle.claxon_format.specs.read.Reading.{Reading, Faulty}
use Rattle.claxon_input.specs.declared.error.Error.{Error}
use Rattle.claxon_input.specs.State.{State}
use Rattle.claxon_input.specs.Gives.{Consumes, Stops}
use Rattle.claxon_input.specs.Error.{IsFault, is_io, is_named}
use Rattle.claxon_input.proofs.ConsecutiveCalls.{consumes_map}

pub stops_fault : {X Y : Type 0} {e : Error} (f : Fault) {read : List X → Reading X Y} {a b : State X} → is_io e ≡ false → is_named e ≡ true → IsFault f e → Consumes a b (λ s m. read s ≡ Faulty f m) → Stops e read a b
stops_fault f other named h w = record { failure = λ i. absurd (cc (other, i)); fault = λ i. consumes_map _ w (λ p. rw p (h, refl)); named = named }
