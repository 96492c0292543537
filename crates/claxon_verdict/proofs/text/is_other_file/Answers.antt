use Rattle.std.proofs.Common.{refl, sym, subst}
use Rattle.claxon.specs.Error.{IsFault}
use Rattle.claxon.specs.Errors.{Error}
use Rattle.claxon.specs.Fault.{StreamMarker, fault_text}
use Rattle.claxon_verdict.proofs.text.is_other_file.Goals as goal

pub returns-in-FormatError-text : goal.returns-in-FormatError-text
unfolding fault_text
returns-in-FormatError-text c =
    let is = c.in-FormatError-text.is in
    let text = rw is at c.in-FormatError-text.is-text in
    (λ t. subst (λ (e : Error). IsFault StreamMarker e) (sym is) (text, refl), λ f. refl)

pub returns-in_default : goal.returns-in_default
unfolding fault_text
returns-in_default c =
    let is = c.in_default.is in
    let other = rw is at c.in_default.not-text in
    (λ t. absurd cc, λ f. let k = subst (λ (e : Error). IsFault StreamMarker e) is f in absurd (other k.0))
