use Rattle.std.proofs.Common.{◌≡◌, ◌<◌, ◌+◌, ◌-◌, ◌∷◌, [], ◌++◌, List, arith, rules, refl, take, drop, length, ap, sym, subst, ◌∙◌, ℕ}
use Rattle.std.specs.Prelude.{Err, Result}
use Rattle.claxon.specs.read.Comments.{entry_of}
use Rattle.claxon.specs.read.Reading.{Done}
use Rattle.claxon.specs.Errors.{Error}
use Rattle.claxon_c.specs.declared.tags.FoundEntry.{FoundEntry}
use Rattle.claxon_c.specs.TagReader.{EntryIsRead}
use Rattle.claxon_c.proofs.TagEntries.{empty_read, entry_faulty, entry_found, length_stops, entry_length, entry_split}
use Rattle.claxon_c.proofs.tags.entry_at.Goals as goal

pub returns-in_err-end : goal.returns-in_err-end
returns-in_err-end c =
    let content = c.args.content.now in
    let at = c.args.at in
    let e = c.in_err-end.field-0.0 in
    let is : c.from_residual.result ≡ Err e = search rules in
    let (f, rest, fault, read) = c.in_err-end.ensures.is_read in
    record { is_read = subst (λ (r : Result FoundEntry Error). EntryIsRead content at r) (sym is) (f, rest, fault, length_stops (length content - at) f (drop at content) rest read) }

pub returns-then-is_empty : goal.returns-then-is_empty
returns-then-is_empty c =
    let content = c.args.content.now in
    let at = c.args.at in
    let end = c.in_ok-end.end in
    let h = c.in_ok-end.ensures.is_read in
    let len = entry_length content (at + 4) end h.0 h.1 in
    let empty : length (take (end - (at + 4)) (drop (at + 4) content)) ≡ 0 = search rules in
    let same : at + 4 ≡ end = omega (arith, len, empty, h.0) in
    let none : end - at - 4 ≡ 0 = omega arith in
    record { is_read = (h.0, h.1, ([], refl, empty_read (length content - at) (end - at - 4) (drop at content) (drop (at + 4) content) h.2 none ∙ ap (λ (m : ℕ). Done [] (drop m content)) same)) }

pub returns-in_err-count : goal.returns-in_err-count
returns-in_err-count c =
    let content = c.args.content.now in
    let at = c.args.at in
    let end = c.in_ok-end.end in
    let h = c.in_ok-end.ensures.is_read in
    let text = take (end - (at + 4)) (drop (at + 4) content) in
    let len = entry_length content (at + 4) end h.0 h.1 in
    let same : end - (at + 4) ≡ end - at - 4 = omega arith in
    let some : 0 < length text = search rules in
    let read = h.2 ∙ ap (λ (s : List ℕ). Done (end - at - 4) s) (entry_split content (at + 4) end h.0) in
    let e = c.in_err-count.field-0.0 in
    let is : c.from_residual-in_err-count.result ≡ Err e = search rules in
    let (f, rest, fault, faulty) = c.in_err-count.ensures.is_read in
    record { is_read = subst (λ (r : Result FoundEntry Error). EntryIsRead content at r) (sym is) (f, rest ++ drop end content, fault, entry_faulty (length content - at) (end - at - 4) (drop at content) text (drop end content) read (len ∙ same) (omega (arith, some, len, same)) f rest faulty) }

pub returns : goal.returns
returns c =
    let content = c.args.content.now in
    let at = c.args.at in
    let end = c.in_ok-end.end in
    let h = c.in_ok-end.ensures.is_read in
    let text = take (end - (at + 4)) (drop (at + 4) content) in
    let len = entry_length content (at + 4) end h.0 h.1 in
    let same : end - (at + 4) ≡ end - at - 4 = omega arith in
    let some : 0 < length text = search rules in
    let read = h.2 ∙ ap (λ (s : List ℕ). Done (end - at - 4) s) (entry_split content (at + 4) end h.0) in
    let found = c.in_ok-count.ensures.is_read in
    record { is_read = (h.0, h.1, (entry_of text ∷ [], (entry_of text, refl, len ∙ same, sym found.0), entry_found (length content - at) (end - at - 4) (drop at content) text (drop end content) read (len ∙ same) (omega (arith, some, len, same)) (entry_of text) found.1)) }
