use Rattle.std.proofs.Common.{rules, ◌≡◌, true, false, refl, None, Some, take, inl, inr}
use Rattle.std.specs.List.{list_all, position}
use Rattle.claxon_format.specs.Comments.{is_name_byte, is_separator}
use Rattle.claxon_format.specs.Fault.{fault_text}
use Rattle.claxon_metadata.proofs.CommentTexts.{name_is, no_separator, separator_found}
use Rattle.claxon_metadata.proofs.metadata.comment_checks.separator_of.Goals as goal

pub returns-in_default : goal.returns-in_default
unfolding fault_text
returns-in_default c = record {
  separator_is_found =
      let e : position is_separator c.args.entry.now ≡ None = search rules in
      inl (no_separator c.args.entry.now e, (refl, refl));
}

pub returns-then-not-is_name : goal.returns-then-not-is_name
unfolding fault_text
returns-then-not-is_name c = record {
  separator_is_found =
      let entry = c.args.entry.now in
      let n = c.in-Some.place in
      let e : position is_separator entry ≡ Some n = search rules in
      let named : false ≡ list_all is_name_byte (take n entry) = search rules in
      let found = separator_found entry n e in
      inr (found.0, name_is entry n false found.1 named, (refl, refl));
}

pub returns : goal.returns
returns c = record {
  separator_is_found =
      let entry = c.args.entry.now in
      let n = c.in-Some.place in
      let e : position is_separator entry ≡ Some n = search rules in
      let named : true ≡ list_all is_name_byte (take n entry) = search rules in
      let found = separator_found entry n e in
      (found.1, found.0, name_is entry n true found.1 named);
}
