use Rattle.std.proofs.Common.{◌≡◌, ℕ, [], rules, refl, subst, sym, true, false}
use Rattle.std.specs.Prelude.{Err, Result}
use Rattle.claxon.specs.Errors.{Error}
use Rattle.claxon.specs.Fault.{EntryNotUtf8, fault_text}
use Rattle.claxon_c.specs.TagReader.{NameIsRead}
use Rattle.claxon_c.proofs.TagEntries.{entry_read, separator_fault, utf8_is, utf8_is_not}
use Rattle.claxon_c.proofs.tags.length_of_name.Goals as goal

pub returns-in_err-count : goal.returns-in_err-count
returns-in_err-count c =
    let text = c.args.entry.now in
    let e = c.in_err-count.field-0.0 in
    let is : c.from_residual.result ≡ Err e = search rules in
    record { is_read = subst (λ (r : Result ℕ Error). NameIsRead text r) (sym is) (separator_fault text e c.in_err-count.ensures.separator_is_found) }

pub returns-in_default : goal.returns-in_default
unfolding fault_text
returns-in_default c =
    let text = c.args.entry.now in
    let found = c.in_ok-count.ensures.separator_is_found in
    record { is_read = (EntryNotUtf8, [], (refl, refl), entry_read text true true false found.1 found.2 (utf8_is_not text c.in_default.ensures.cases.0)) }

pub returns : goal.returns
returns c =
    let text = c.args.entry.now in
    let found = c.in_ok-count.ensures.separator_is_found in
    record { is_read = (found.0, entry_read text true true true found.1 found.2 (utf8_is text c.in-Ok.ensures.cases.1)) }
