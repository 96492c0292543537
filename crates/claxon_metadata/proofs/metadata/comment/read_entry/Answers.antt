use Rattle.std.proofs.Common.{sym, subst, ℕ, List}
use Rattle.std.proofs.lemmas.Result.{err_from_is_err_and}
use Rattle.claxon_metadata.specs.TagEntries.{IsSeparatorIndex, entry_view}
use Rattle.claxon_metadata.proofs.CommentEntries.{separator_err}
use Rattle.claxon_metadata.proofs.CommentTexts.{separator_is_index}
use Rattle.claxon_metadata.proofs.metadata.comment.read_entry.Goals as goal

pub returns-in_err-place-clause-gives : goal.returns-in_err-place-clause-gives
returns-in_err-place-clause-gives g c =
    separator_err (entry_view {A = g.row.A.Denot}) c.args.length (err_from_is_err_and c.from_residual-in_err-place.result c.from_residual-in_err-place.ensures.1) c.in_ok-bytes.ensures.gives (rw c.deref.ensures.value at c.in_err-place.ensures.separator_is_found)

pub returns-clause-place : goal.returns-clause-place
returns-clause-place g c =
    let found = rw c.deref.ensures.value at c.in_ok-place.ensures.separator_is_found in
    subst (λ (b : List ℕ). IsSeparatorIndex b c.in_ok-place.place) (sym c.in_ok-text_of.ensures.0) (separator_is_index c.in_ok-bytes.bytes.items c.in_ok-place.place found.0 found.1)
