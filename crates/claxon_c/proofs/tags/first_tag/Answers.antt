use Rattle.std.proofs.Common.{◌≡◌, ◌<◌, ◌-◌, ◌∷◌, [], List, arith, rules, refl, drop, length, ap, sym, subst, ◌∙◌, ℕ, Option, None, Some}
use Rattle.std.specs.Prelude.{Err, Result}
use Rattle.std.proofs.lemmas.List.{length-drop}
use Rattle.claxon.specs.Comments.{Entry}
use Rattle.claxon.specs.read.Reading.{Done}
use Rattle.claxon.specs.Errors.{Error}
use Rattle.claxon_c.specs.declared.tags.Tag.{Tag}
use Rattle.claxon_c.specs.TagReader.{IsEntryOf, TagIsRead, first_entry_at, prefixed_entry_at}
use Rattle.claxon_c.proofs.TagsRead.{after_empty, at_end, at_entry, at_fault}
use Rattle.claxon_c.proofs.tags.first_tag.Goals as goal

pub loop-at-init : goal.loop-at-init
loop-at-init c = (c.requires, (length c.args.content.now, omega arith, refl))

pub returns-in_err-entry : goal.returns-in_err-entry
returns-in_err-entry c =
    let content = c.args.content.now in
    let at = c.loop-at.at in
    let (inside, (most, enough, same)) = c.loop-at.invariant in
    let (f, rest, fault, read) = c.in_err-entry.ensures.is_read in
    let e = c.in_err-entry.field-0.0 in
    let is : c.from_residual.result ≡ Err e = search rules in
    let less : at < length content = search rules in
    record { is_read = subst (λ (r : Result (Option Tag) Error). TagIsRead content (first_entry_at (length content) (drop c.args.start content)) r) (sym is) (f, rest, fault, same ∙ at_fault content at most less enough f rest read) }

pub returns-in-Some : goal.returns-in-Some
returns-in-Some c =
    let content = c.args.content.now in
    let at = c.loop-at.at in
    let end = c.in_ok-entry.entry.end in
    let (inside, (most, enough, same)) = c.loop-at.invariant in
    let h = c.in_ok-entry.ensures.is_read in
    let is : c.in_ok-entry.entry.name_length ≡ Some c.in-Some.name_length = search rules in
    let k = subst (λ (o : Option ℕ). IsEntryOf o (end - at - 4) h.2.0) is h.2.1 in
    let less : at < length content = search rules in
    let read : prefixed_entry_at (length content - at) (drop at content) ≡ Done (k.0 ∷ []) (drop end content) = h.2.2 ∙ ap (λ (es : List Entry). Done es (drop end content)) k.1 in
    record { is_read = (k.0, drop end content, same ∙ at_entry content at most less enough k.0 (drop end content) read, omega (arith, length-drop end content, h.1), omega (arith, k.2, h.0), sym k.3) }

pub loop-at-preserved : goal.loop-at-preserved
loop-at-preserved c =
    let content = c.args.content.now in
    let at = c.loop-at.at in
    let end = c.in_ok-entry.entry.end in
    let (inside, (most, enough, same)) = c.loop-at.invariant in
    let h = c.in_ok-entry.ensures.is_read in
    let is : c.in_ok-entry.entry.name_length ≡ None = search rules in
    let k = subst (λ (o : Option ℕ). IsEntryOf o (end - at - 4) h.2.0) is h.2.1 in
    let less : at < length content = search rules in
    let read : prefixed_entry_at (length content - at) (drop at content) ≡ Done [] (drop end content) = h.2.2 ∙ ap (λ (es : List Entry). Done es (drop end content)) k in
    let next = after_empty content at most less enough end h.0 read in
    (h.1, (next.0, next.1, same ∙ next.2))

pub returns : goal.returns
returns c =
    let content = c.args.content.now in
    let (inside, (most, enough, same)) = c.loop-at.invariant in
    record { is_read = ([], same ∙ at_end content c.loop-at.at most (search rules)) }
