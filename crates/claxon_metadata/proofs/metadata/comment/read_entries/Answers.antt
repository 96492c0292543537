use Rattle.std.proofs.Common.{◌≡◌, ◌<◌, ℕ, [], ◌∷◌, ◌++◌, Vec, String, refl, ap, ◌∙◌, arith}
use Rattle.std.proofs.lemmas.Result.{err_from_is_err_and}
use Rattle.claxon_format.specs.Fault.{EntryLong, fault_text}
use Rattle.claxon_format.specs.read.Comments.{entry_length_at}
use Rattle.claxon_metadata.specs.VorbisComment.{entry_or_empty_view}
use Rattle.claxon_metadata.proofs.CommentEntries.{entries_next, entries_view_more, entries_view_same, length_err, entry_err, end_err, entries_end}
use Rattle.claxon_metadata.proofs.TagSeparators.{separators_push}
use Rattle.claxon_input.proofs.ConsecutiveCalls.{consumes_then}
use Rattle.claxon_input.proofs.Memory.{exit_no_memory, exit_with_memory}
use Rattle.claxon_metadata.proofs.metadata.comment.read_entries.Goals as goal
use Rattle.claxon_metadata.proofs.metadata.comment.read_entries.Goals.{in-Some+in_ok-push, in_default, then-loop-missing-test+else-bytes_left-ge4, else-loop-missing-test}

pub returns-in_err-entry_length-clause-gives : goal.returns-in_err-entry_length-clause-gives
unfolding entry_length_at fault_text
returns-in_err-entry_length-clause-gives g c =
    exit_no_memory _ (err_from_is_err_and c.from_residual.result c.from_residual.ensures.1) (length_err (omega arith) (omega arith) c.loop-missing.invariant.read) (c.in_err-entry_length.ensures.is_read EntryLong (refl, refl) refl)

pub returns-in_err-entry-clause-gives : goal.returns-in_err-entry-clause-gives
unfolding entry_length_at fault_text
returns-in_err-entry-clause-gives g c =
    exit_with_memory _ (entry_or_empty_view {A = g.row.A.Denot}) _ (err_from_is_err_and c.from_residual-in_err-entry.result c.from_residual-in_err-entry.ensures.1)
    (entry_err (omega arith) (omega arith) c.loop-missing.invariant.read (c.in_ok-entry_length.ensures.is_read EntryLong (refl, refl) refl)) c.in_err-entry.ensures.gives

pub loop-missing-preserved : goal.loop-missing-preserved
unfolding entry_length_at fault_text
loop-missing-preserved g c =
    let here = c.loop-missing.comments.items in
    let all = c.match-branch-3.comments.items in
    elim c.match-branch-3.branch [
      | in-Some+in_ok-push w ↦
          (let e : c.match-branch-3.comments.items ≡ c.loop-missing.comments.items ++ w.in-Some.entry ∷ [] = ap (λ (v : Vec (String g.row.A.Denot × ℕ) g.row.A.Denot). v.items) w.comments-is ∙ w.in_ok-push.ensures.items in
          record {
            separators = separators_push here all w.in-Some.entry e c.loop-missing.invariant.separators (rw w.in-Some.is at c.in_ok-entry.ensures.place);
            within = omega (arith, c.loop-missing.invariant.within, c.in_ok-entry_length.ensures.most, c.in_ok-entry_length.ensures.at_most_is_consumed, c.in_ok-entry.ensures.at_most_is_consumed);
            read = entries_next (omega arith) (omega arith) (entries_view_more here all w.in-Some.entry c.in_ok-entry.field-0 w.in-Some.is e) c.loop-missing.invariant.read (c.in_ok-entry_length.ensures.is_read EntryLong (refl, refl) refl) c.in_ok-entry.ensures.gives;
          })
      | in_default w ↦
          (let e : c.match-branch-3.comments.items ≡ c.loop-missing.comments.items = ap (λ (v : Vec (String g.row.A.Denot × ℕ) g.row.A.Denot). v.items) w.comments-is in
          record {
            separators = rw w.comments-is c.loop-missing.invariant.separators;
            within = omega (arith, c.loop-missing.invariant.within, c.in_ok-entry_length.ensures.most, c.in_ok-entry_length.ensures.at_most_is_consumed, c.in_ok-entry.ensures.at_most_is_consumed);
            read = entries_next (omega arith) (omega arith) (entries_view_same here all c.in_ok-entry.field-0 w.in_default.is e) c.loop-missing.invariant.read (c.in_ok-entry_length.ensures.is_read EntryLong (refl, refl) refl) c.in_ok-entry.ensures.gives;
          })
    ]

pub returns-in_err-check_end-clause-gives : goal.returns-in_err-check_end-clause-gives
returns-in_err-check_end-clause-gives g c =
    let last : 0 < c.loop-missing.missing → c.loop-missing.bytes_left < 4
    = λ k. elim c.loop-missing-test.branch [ then-loop-missing-test+else-bytes_left-ge4 w ↦ omega arith | else-loop-missing-test w ↦ omega arith ] in
    exit_no_memory _ (err_from_is_err_and c.from_residual-in_err-check_end.result c.from_residual-in_err-check_end.ensures.1) (end_err last c.loop-missing.invariant.read) (c.in_err-check_end.ensures.end_is_checked _)

pub returns-clause-gives : goal.returns-clause-gives
returns-clause-gives g c =
    let last : 0 < c.loop-missing.missing → c.loop-missing.bytes_left < 4
    = λ k. elim c.loop-missing-test.branch [ then-loop-missing-test+else-bytes_left-ge4 w ↦ omega arith | else-loop-missing-test w ↦ omega arith ] in
    entries_end last c.loop-missing.invariant.read (c.in_ok-check_end.ensures.end_is_checked _)

pub returns-in_err-push-clause-gives : goal.returns-in_err-push-clause-gives
unfolding entry_length_at fault_text
returns-in_err-push-clause-gives g c =
    let p = err_from_is_err_and c.from_residual-in_err-push.result c.from_residual-in_err-push.ensures.1 in
    let read = consumes_then (λ s m. Unit {0}) (c.in_ok-entry_length.ensures.is_read EntryLong (refl, refl) refl) c.in_ok-entry.ensures.gives (λ x y. tt) in
    rw (p.1, p.2) (record { consumed = consumes_then (λ s m. Unit {0}) c.loop-missing.invariant.read.so_far read (λ x y. tt) })
