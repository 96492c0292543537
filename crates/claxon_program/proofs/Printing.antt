-- A text that is printed is the one that was asked for.
use Rattle.std.proofs.Common.{◌≡◌, ℕ, List, Option, subst, append-nil}
use Rattle.std.specs.Prelude.{OnOk, Result, Ok, Err}
use Rattle.std.specs.declared.alloc.AllocError.{AllocError}
use Rattle.std.specs.declared.string.String.{String}
use Rattle.std.specs.Io.KnownBytes.{Appends}
use Rattle.claxon.specs.Errors.{Error}
use Rattle.claxon_write.specs.Output.{FlushIsSound}
use Rattle.claxon_write.specs.Written.{IsFlushed, IsUnflushed, NonePending, Puts}
use Rattle.claxon_write.specs.declared.output.Output.{Output}
use Rattle.claxon_write.proofs.Counts.{flushed_after}
use Rattle.claxon_write.proofs.Puts.{puts_as, puts_both}
use Rattle.claxon_program.specs.Program.{Prints, PrintsText}
use Rattle.claxon_command_line.specs.Text.{IsText}

pub prints : {A W : Type 0} (contents : W → Option (List ℕ)) (t : List ℕ) (text : Result (String A) AllocError) (status : ℕ) (old new : W) → IsText t text → PrintsText contents text status old new → Prints contents t status old new
prints contents t (Ok s) status old new is h e = subst (λ (x : List ℕ). Appends (contents old) (contents new) x) is (h e)
prints contents t (Err x) status old new is h e = absurd (h e)

-- bytes that were put, and then a flush
module _ {W : Type 0} {contents : W → Option (List ℕ)} {bytes : List ℕ} {a b : Output W} (c : Output W) (h : Puts contents bytes a b) (u : IsUnflushed a b) where
  pub put_and_flushed : (r : Result (Unit {0}) Error) → FlushIsSound contents r b c → NonePending c → OnOk r (Puts contents bytes a c × NonePending c × IsFlushed a c)
  put_and_flushed (Err e) k none = tt
  put_and_flushed (Ok done) k none = (puts_as (append-nil bytes) (puts_both h k.0), none, flushed_after u k.1)
