-- Calls that failed, of calls one after another.
use Rattle.std.proofs.Common.{◌≡◌, inl, inr, ℕ, ap, subst, sym, ◌∙◌, Option, Some, List}
use Rattle.std.specs.Prelude.{Result, Ok, Err}
use Rattle.claxon.specs.Errors.{Error}
use Rattle.claxon.specs.Source.{IsOneMore}
use Rattle.claxon.specs.ShownHead.{head_streaminfo}
use Rattle.claxon_stream.specs.Held.{held_from}
use Rattle.claxon_seekable.specs.Searches.{spent_budgets}
use Rattle.claxon_seekable.specs.SeekableReader.{BudgetSpent, CallFailed, KeepsStream, NoteIsCounted, NothingFailed, next_event_is, reader_position, shown_streaminfo}
use Rattle.claxon_seekable.specs.SourceFrames.{GoTo, IsBlockRefused, frames_held, frames_spent}
use Rattle.claxon_seekable.specs.Window.{IsFailure, KeepsCounts, held, place, window_failures, window_refusals}
use Rattle.claxon_seekable.specs.declared.frames.SourceFrames.{SourceFrames}
use Rattle.claxon_seekable.specs.declared.reader.SeekableReader.{SeekableReader}
use Rattle.claxon_seekable.specs.declared.window.Window.{Window}

module _ {R : Type 0} (a b c : Window R) (kept : KeepsCounts a b) where
  pub keeps_after : KeepsCounts b c → KeepsCounts a c
  keeps_after then = (then.0 ∙ kept.0, then.1 ∙ kept.1)

  pub failure_after : (x : Error) → IsFailure b x c → IsFailure a x c
  failure_after x (inl (io, one, same)) = inl (io, subst (λ (n : ℕ). IsOneMore n (window_failures c)) kept.0 one, same ∙ kept.1)
  failure_after x (inr (is, same, one)) = inr (is, same ∙ kept.0, subst (λ (n : ℕ). IsOneMore n (window_refusals c)) kept.1 one)

module _ {R : Type 0} (a b c : SourceFrames R) (kept : NothingFailed a b) where
  pub then_nothing : NothingFailed b c → NothingFailed a c
  then_nothing then = (keeps_after a.window b.window c.window kept.0 then.0, then.1 ∙ kept.1)

  pub then_failed : (x : Error) → CallFailed b c x → CallFailed a c x
  then_failed x (failure, same) = (failure_after a.window b.window c.window kept.0 x failure, same ∙ kept.1)

  pub then_spent : (x : Error) → BudgetSpent b c x → BudgetSpent a c x
  then_spent x (io, counts, one) = (io, keeps_after a.window b.window c.window kept.0 counts, subst (λ (n : ℕ). IsOneMore n (frames_spent c)) kept.1 one)

-- a move calls nothing
pub move_calls : {R : Type 0} (position : ℕ) (old new : SourceFrames R) → GoTo position old new → NothingFailed old new
move_calls position old new go = ((ap window_failures go.window, ap window_refusals go.window), ap spent_budgets go.searches)

-- nor does what follows a failed call
pub failed_before : {R : Type 0} (a b c : SourceFrames R) (x : Error) → CallFailed a b x → NothingFailed b c → CallFailed a c x
failed_before a b c x (inl (io, one, same), spent) kept =
    (inl (io, subst (λ (n : ℕ). IsOneMore (window_failures a.window) n) (sym kept.0.0) one, kept.0.1 ∙ same), kept.1 ∙ spent)
failed_before a b c x (inr (is, same, one), spent) kept =
    (inr (is, kept.0.0 ∙ same, subst (λ (n : ℕ). IsOneMore (window_refusals a.window) n) (sym kept.0.1) one), kept.1 ∙ spent)

module _ {R : Type 0} (remaining : R → Option (List ℕ)) (old now new : SeekableReader R) (kept : NothingFailed old.frames now.frames) (stream : KeepsStream old now) where
  -- the clock could not be told a frame
  pub note_failed : (x : Error) → next_event_is remaining now (Err x) new → NoteIsCounted old (Err x) new
  note_failed x g = elim g.0.says.1 [
    | inl failure ↦ inl (then_failed old.frames now.frames new.frames kept x (failure, ap spent_budgets g.1))
    | inr (counts, refused) ↦ inr (
      then_nothing old.frames now.frames new.frames kept (counts, ap spent_budgets g.1),
      (reader_position now, subst (λ h. IsBlockRefused (Some (head_streaminfo h)) (frames_held new.frames (reader_position now)) x) stream.head refused),
    )
  ]

-- the same where the reader went to the first frame before, and back after it
module _ {R : Type 0} (old there noted new : SeekableReader R) (first back : ℕ) (head : there.head ≡ old.head) (go : GoTo first old.frames there.frames) (again : GoTo back noted.frames new.frames) where
  pub noted_there : (r : Result Unit Error) → NoteIsCounted there r noted → NoteIsCounted old r new
  noted_there (Ok done) kept =
      then_nothing old.frames there.frames new.frames (move_calls first old.frames there.frames go) (then_nothing there.frames noted.frames new.frames kept (move_calls back noted.frames new.frames again))
  noted_there (Err x) (inl failed) =
      inl (failed_before old.frames noted.frames new.frames x (then_failed old.frames there.frames noted.frames (move_calls first old.frames there.frames go) x failed) (move_calls back noted.frames new.frames again))
  noted_there (Err x) (inr (kept, (position, refused))) = inr (
    then_nothing old.frames there.frames new.frames (move_calls first old.frames there.frames go) (then_nothing there.frames noted.frames new.frames kept (move_calls back noted.frames new.frames again)),
    (
      position,
      subst (λ h. IsBlockRefused (Some (head_streaminfo h)) (frames_held new.frames position) x) head
          (subst (λ (w : Window R). IsBlockRefused (Some (shown_streaminfo there)) (held_from (place w) position (held w)) x) (sym again.window) refused),
    ),
  )
