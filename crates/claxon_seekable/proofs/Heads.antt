-- The head of the stream that a source begins with.
use Rattle.std.proofs.Common.{ℕ, List, Option, None, Some}
use Rattle.std.specs.Prelude.{IfSome}
use Rattle.claxon.specs.Opening.{unread}
use Rattle.claxon.specs.Prefix.{BeginsWith}
use Rattle.claxon.specs.Promises.{Consumed}
use Rattle.claxon.specs.State.{State}

-- what is known of the reader begins with what was consumed
pub begins_with_head : (known : Option (List ℕ)) (C : List ℕ → Type 0) (after : State ℕ) → Consumed (unread known) after C → IfSome known (λ bytes. BeginsWith C bytes)
begins_with_head None C after consumed = tt
begins_with_head (Some bytes) C after consumed = let k = (consumed tt).1 in (k.0, after.remaining, k.1, k.2)
