-- The fault that an Err names, by its text.
use Rattle.std.proofs.Common.{◌≡◌, Bool, true, false, inl, inr, List, refl, sym}
use Rattle.std.specs.Prelude.{Result, Ok, Err, not, ◌==◌, ◌&&◌}
use Rattle.std.specs.Cmp.Lexicographic.{pointwise, same_text}
use Rattle.std.proofs.lemmas.Bool.{not-true}
use Rattle.std.proofs.lemmas.List.Folds.{Any-from_list_any}
use Rattle.claxon_format.specs.Fault.{Fault, fault_text, faults, is_unsupported}
use Rattle.claxon_format.specs.read.Reading.{Reading}
use Rattle.claxon_input.specs.declared.error.Error.{Error}
use Rattle.claxon_input.specs.declared.error.Error.TheVariants.{IoError, FormatError, Unsupported, OutOfMemory}
use Rattle.claxon_input.specs.Error.{IsFault, is_io, is_named}
use Rattle.claxon_input.specs.Gives.{GivesOrOutOfMemory}
use Rattle.claxon_input.specs.State.{State}
use Rattle.claxon.specs.Opening.{ErrNamesFault}

both_true : (p q : Bool) → (p && q) ≡ true → (p ≡ true) × (q ≡ true)
both_true true q e = (refl, e)
both_true false q e = absurd cc

-- an error of a fault's variant with its text names it
named_fault : (e : Error) → is_io e ≡ false → is_named e ≡ true → (f : Fault) × IsFault f e
named_fault (IoError cause) io named = absurd cc
named_fault (FormatError text) io named =
    let k = Any-from_list_any (λ (f : Fault). not (is_unsupported f) && pointwise ◌==◌ text.now (fault_text f)) faults named in
    let b = both_true (not (is_unsupported k.1)) (pointwise ◌==◌ text.now (fault_text k.1)) k.4 in
    (k.1, (same_text text.now (fault_text k.1) (sym b.1), not-true (is_unsupported k.1) b.0))
named_fault (Unsupported text) io named =
    let k = Any-from_list_any (λ (f : Fault). is_unsupported f && pointwise ◌==◌ text.now (fault_text f)) faults named in
    let b = both_true (is_unsupported k.1) (pointwise ◌==◌ text.now (fault_text k.1)) k.4 in
    (k.1, (same_text text.now (fault_text k.1) (sym b.1), b.0))
named_fault OutOfMemory io named = absurd cc

pub err_names_fault : {X A Y : Type 0} (view : A → Y) (r : Result A Error) (read : List X → Reading X Y) (a b : State X) → GivesOrOutOfMemory view r read a b → ErrNamesFault r
err_names_fault view (Ok x) read a b h = tt
err_names_fault view (Err (IoError cause)) read a b h = inr (inl refl)
err_names_fault view (Err (FormatError text)) read a b h = inr (inr (named_fault (FormatError text) refl h.named))
err_names_fault view (Err (Unsupported text)) read a b h = inr (inr (named_fault (Unsupported text) refl h.named))
err_names_fault view (Err OutOfMemory) read a b h = inl refl
