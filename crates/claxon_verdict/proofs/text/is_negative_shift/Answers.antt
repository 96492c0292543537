use Rattle.std.proofs.Common.{refl, sym, subst}
use Rattle.claxon.specs.Error.{IsFault}
use Rattle.claxon.specs.Errors.{Error}
use Rattle.claxon.specs.Fault.{ShiftNegative, fault_text}
use Rattle.claxon_verdict.proofs.text.is_negative_shift.Goals as goal

pub returns-in-Unsupported-text : goal.returns-in-Unsupported-text
unfolding fault_text
returns-in-Unsupported-text c =
    let is = c.in-Unsupported-text.is in
    let text = rw is at c.in-Unsupported-text.is-text in
    (λ t. subst (λ (e : Error). IsFault ShiftNegative e) (sym is) (text, refl), λ f. refl)

pub returns-in_default : goal.returns-in_default
unfolding fault_text
returns-in_default c =
    let is = c.in_default.is in
    let other = rw is at c.in_default.not-text in
    (λ t. absurd cc, λ f. let k = subst (λ (e : Error). IsFault ShiftNegative e) is f in absurd (other k.0))
