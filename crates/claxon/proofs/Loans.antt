-- Reads through a mutable reference: the reader's loans stay the same, and so does the reference.
use Rattle.std.specs.Borrow.{MutBor}
use Rattle.std.proofs.Common.{◌≡◌, ℕ, ◌∷◌, List, true, false, Option, None, Some, refl, ap, ◌∙◌}
use Rattle.std.specs.Prelude.{Result, Ok, Err}
use Rattle.claxon_format.specs.Frame.{StreamFormat}
use Rattle.claxon_format.specs.read.Frame.{frame_bytes_at}
use Rattle.claxon_format.specs.read.Reading.{Reading}
use Rattle.claxon_input.specs.Source.{Source}
use Rattle.claxon_input.specs.State.{State, bytes_in}
use Rattle.claxon_input.specs.Gives.{GivesOrEofOrOutOfMemory, or_eof}
use Rattle.claxon_input.specs.declared.error.Error.{Error}
use Rattle.claxon_input.specs.declared.error.Error.TheVariants.{IoError, FormatError, Unsupported, OutOfMemory}
use Rattle.claxon_input.proofs.ConsecutiveCalls.{stops_loans}
use Rattle.claxon_frame.specs.Block.{BlockValue}
use Rattle.claxon_frame.specs.FrameReader.{ReadsFrame, block_view}
use Rattle.claxon.specs.SampleRuns.{lent}

-- the reference stayed the same
pub same_name : {R : Type 0} (source : R → Source ℕ) (r s q : MutBor R) → s ≡ r → (bytes_in (lent source) q).source.loans ≡ (bytes_in (lent source) s).source.loans → q.ghost_name ≡ r.ghost_name
unfolding bytes_in
same_name source r s q e h =
    let k : q.ghost_name ∷ (source q.now).loans ≡ s.ghost_name ∷ (source s.now).loans = h in
    let n : q.ghost_name ≡ s.ghost_name = cc in
    n ∙ ap (λ (x : MutBor _). x.ghost_name) e

-- the reader's loans stay the same
loans_stay : {A Y : Type 0} (count : ℕ) (view : A → Y) (r : Result (Option A) Error) (read : List ℕ → Reading ℕ Y) (a b : State ℕ) → GivesOrEofOrOutOfMemory count view r read a b → b.source.loans ≡ a.source.loans
loans_stay count view (Ok (Some x)) read a b g = g.loans
loans_stay count view (Ok None) read a b g = g.loans
loans_stay count view (Err OutOfMemory) read a b g = g.consumed.loans
loans_stay count view (Err (IoError cause)) read a b g = stops_loans (IoError cause) (or_eof count read) a b true refl g
loans_stay count view (Err (FormatError text)) read a b g = stops_loans (FormatError text) (or_eof count read) a b false refl g
loans_stay count view (Err (Unsupported text)) read a b g = stops_loans (Unsupported text) (or_eof count read) a b false refl g

pub reads_loans : {stream : Option StreamFormat} {r : Result (Option BlockValue) Error} {a b : State ℕ} → ReadsFrame stream r a b → b.source.loans ≡ a.source.loans
reads_loans {stream = stream} {r = r} {a = a} {b = b} h = loans_stay 2 block_view r (frame_bytes_at stream) a b h.gives
