use Rattle.std.proofs.Common.{refl, sym, subst}
use Rattle.claxon_format.specs.Fault.{ApplicationLarge, CommentLarge, EntryNotUtf8, ExcessData, NameByte, SeparatorMissing, fault_text}
use Rattle.claxon_input.specs.declared.error.Error.{Error}
use Rattle.claxon_input.specs.Error.{IsFault}
use Rattle.claxon_heads.proofs.UnsupportedFaults.{none_of_format, none_of_large, tells_of}
use Rattle.claxon_heads.proofs.head.unsupported_by.Goals as goal

pub returns-in-FormatError-text-clause-tells_why : goal.returns-in-FormatError-text-clause-tells_why
unfolding fault_text
returns-in-FormatError-text-clause-tells_why c =
    let is = c.in-FormatError-text.is in
    let text = rw is at c.in-FormatError-text.is-text in
    tells_of EntryNotUtf8 c.args.error.now (subst (λ (e : Error). IsFault EntryNotUtf8 e) (sym is) (text, refl))

pub returns-in-FormatError-text-2-clause-tells_why : goal.returns-in-FormatError-text-2-clause-tells_why
unfolding fault_text
returns-in-FormatError-text-2-clause-tells_why c =
    let is = c.in-FormatError-text-2.is in
    let text = rw is at c.in-FormatError-text-2.is-text-2 in
    tells_of SeparatorMissing c.args.error.now (subst (λ (e : Error). IsFault SeparatorMissing e) (sym is) (text, refl))

pub returns-in-FormatError-text-3-clause-tells_why : goal.returns-in-FormatError-text-3-clause-tells_why
unfolding fault_text
returns-in-FormatError-text-3-clause-tells_why c =
    let is = c.in-FormatError-text-3.is in
    let text = rw is at c.in-FormatError-text-3.is-text-3 in
    tells_of NameByte c.args.error.now (subst (λ (e : Error). IsFault NameByte e) (sym is) (text, refl))

pub returns-in-FormatError-text-4-clause-tells_why : goal.returns-in-FormatError-text-4-clause-tells_why
unfolding fault_text
returns-in-FormatError-text-4-clause-tells_why c =
    let is = c.in-FormatError-text-4.is in
    let text = rw is at c.in-FormatError-text-4.is-text-4 in
    tells_of ExcessData c.args.error.now (subst (λ (e : Error). IsFault ExcessData e) (sym is) (text, refl))

pub returns-in-Unsupported-text-clause-tells_why : goal.returns-in-Unsupported-text-clause-tells_why
unfolding fault_text
returns-in-Unsupported-text-clause-tells_why c =
    let is = c.in-Unsupported-text.is in
    let text = rw is at c.in-Unsupported-text.is-text in
    tells_of CommentLarge c.args.error.now (subst (λ (e : Error). IsFault CommentLarge e) (sym is) (text, refl))

pub returns-in-Unsupported-text-2-clause-tells_why : goal.returns-in-Unsupported-text-2-clause-tells_why
unfolding fault_text
returns-in-Unsupported-text-2-clause-tells_why c =
    let is = c.in-Unsupported-text-2.is in
    let text = rw is at c.in-Unsupported-text-2.is-text-2 in
    tells_of ApplicationLarge c.args.error.now (subst (λ (e : Error). IsFault ApplicationLarge e) (sym is) (text, refl))

pub returns-in_default-clause-tells_why : goal.returns-in_default-clause-tells_why
unfolding fault_text
returns-in_default-clause-tells_why c f named =
    let is = c.in_default.is in
    let a = rw is at c.in_default.not-text in
    let b = rw is at c.in_default.not-text-2 in
    let d = rw is at c.in_default.not-text-3 in
    let x = rw is at c.in_default.not-text-4 in
    let k = subst (λ (e : Error). IsFault f e) is named in
    none_of_format f _ a b d x k.0 k.1

pub returns-in_default-2-clause-tells_why : goal.returns-in_default-2-clause-tells_why
unfolding fault_text
returns-in_default-2-clause-tells_why c f named =
    let is = c.in_default.is in
    let a = rw is at c.in_default.not-text in
    let b = rw is at c.in_default.not-text-2 in
    let k = subst (λ (e : Error). IsFault f e) is named in
    none_of_large f _ a b k.0 k.1
