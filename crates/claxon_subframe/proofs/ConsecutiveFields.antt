-- A field of consecutive fields, read by one call each: after a call the other fields are left, and where a call fails the whole fails.
use Rattle.std.proofs.Common.{◌≡◌, List, ap, ◌∙◌}
use Rattle.claxon_format.specs.read.Reading.{Reading, Done, bind}
use Rattle.claxon_input.specs.declared.error.Error.{Error}
use Rattle.claxon_input.specs.State.{State}
use Rattle.claxon_input.specs.Gives.{Consumes, Stops}
use Rattle.claxon_input.proofs.ConsecutiveCalls.{consumes_map, consumes_then, stops_after}

module _ {X Y Z : Type 0} {whole : List X → Reading X Z} {first : List X → Reading X Y} (next : Y → List X → Reading X Z) {a b : State X} (so_far : Consumes a b (λ s m. whole s ≡ bind (first m) next)) where
  pub then_consumes : {x : Y} {c : State X} → Consumes b c (λ s m. first s ≡ Done x m) → Consumes a c (λ s m. whole s ≡ next x m)
  then_consumes h = consumes_then _ so_far h (λ p q. p ∙ ap (λ r. bind r next) q)

  pub then_stops : {e : Error} {c : State X} → Stops e first b c → Stops e whole a c
  then_stops h = stops_after so_far (record { fault = λ s f rest p. ap (λ r. bind r next) p; incomplete = λ s p. ap (λ r. bind r next) p }) h

-- the same with an equal value
pub consumes_as : {X Y : Type 0} {read : List X → Reading X Y} {x y : Y} {a b : State X} → x ≡ y → Consumes a b (λ s m. read s ≡ Done x m) → Consumes a b (λ s m. read s ≡ Done y m)
consumes_as {b = b} e h = consumes_map _ h (λ p. p ∙ ap (λ z. Done z b.remaining) e)
