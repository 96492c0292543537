use Rattle.std.proofs.Common.{ap}
use Rattle.std.proofs.lemmas.Result.{err_from_is_err_and}
use Rattle.claxon_format.specs.read.Bytes.{big_at}
use Rattle.claxon_format.specs.read.Reading.{bind}
use Rattle.claxon_input.proofs.ConsecutiveCalls.{StopsWith}
use Rattle.claxon_frame.specs.FrameHeader.{is_variable}
use Rattle.claxon_format.specs.read.Header.{fields_at, fields_after, sync_at}
use Rattle.claxon_input.proofs.FieldOrEof.{exit_or_eof, first_stops, after_first, some_ok, some_stops}
use Rattle.claxon_frame.proofs.frame.header.read_fields_or_eof.Goals as goal

stops_with : StopsWith (sync_at big_at) (fields_at big_at)
unfolding fields_at
stops_with = record {
  fault = λ s f rest e. ap (λ x. bind x (fields_after big_at)) e;
  incomplete = λ s e. ap (λ x. bind x (fields_after big_at)) e;
}

pub returns-in_err-blocking : goal.returns-in_err-blocking
returns-in_err-blocking g c = record { gives = exit_or_eof 2 _ (fields_at big_at) (err_from_is_err_and c.from_residual.result c.from_residual.ensures.1) (first_stops 2 (sync_at big_at) (fields_at big_at) stops_with c.in_err-blocking.ensures.gives) }

pub returns-in_err-read_fields : goal.returns-in_err-read_fields
unfolding fields_at
returns-in_err-read_fields g c = record {
  gives =
      exit_or_eof 2 _ (fields_at big_at) (err_from_is_err_and c.from_residual-in_err-read_fields.result c.from_residual-in_err-read_fields.ensures.1)
      (some_stops 2 (fields_at big_at) (fields_after big_at (is_variable c.in-Some.blocking)) (after_first 2 (sync_at big_at) (fields_at big_at) (fields_after big_at (is_variable c.in-Some.blocking)) (λ s m e. ap (λ x. bind x (fields_after big_at)) e) (rw c.in-Some.is at c.in_ok-blocking.ensures.gives)) c.in_err-read_fields.ensures.gives);
}

pub returns : goal.returns
unfolding fields_at
returns g c = record { gives = some_ok 2 (fields_at big_at) (fields_after big_at (is_variable c.in-Some.blocking)) (after_first 2 (sync_at big_at) (fields_at big_at) (fields_after big_at (is_variable c.in-Some.blocking)) (λ s m e. ap (λ x. bind x (fields_after big_at)) e) (rw c.in-Some.is at c.in_ok-blocking.ensures.gives)) c.in_ok-read_fields.ensures.gives }
