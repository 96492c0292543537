use Rattle.std.proofs.Common.{◌≡◌, ℕ, Bool, refl}
use Rattle.std.proofs.lemmas.Result.{err_from_is_err_and}
use Rattle.claxon_format.specs.read.Reading.{and_then, done}
use Rattle.claxon_format.specs.read.Bytes.{big_at}
use Rattle.claxon_format.specs.read.Header.{channels_at, codes_at, fields_after, fields_of, number_in, rate_at, size_at}
use Rattle.claxon_input.specs.State.{State}
use Rattle.claxon_input.specs.Gives.{Consumes}
use Rattle.claxon_input.proofs.ConsecutiveCalls.{exit, consumes_none}
use Rattle.claxon_frame.specs.FrameHeader.{is_variable}
use Rattle.claxon_subframe.proofs.ConsecutiveFields.{then_consumes, then_stops}
use Rattle.claxon_frame.proofs.frame.header.read_fields.Goals as goal

begins : (variable : Bool) (a : State ℕ) → Consumes a a (λ s m. fields_after big_at variable s ≡ and_then (codes_at big_at) (λ codings. and_then (channels_at big_at) (λ codes. and_then (number_in big_at variable) (λ time.
    and_then (size_at big_at codings.0) (λ size. and_then (rate_at big_at codings.1) (λ rate. done (fields_of time codes size rate)))))) m)
unfolding fields_after
begins variable a = consumes_none a _ refl

pub returns-in_err-size : goal.returns-in_err-size
returns-in_err-size g c = record { gives = exit _ (err_from_is_err_and c.from_residual.result c.from_residual.ensures.1) (then_stops _ (begins (is_variable c.args.blocking) _) c.in_err-size.ensures.gives) }

pub returns-in_err-channel_assignment : goal.returns-in_err-channel_assignment
returns-in_err-channel_assignment g c = record {
  gives =
      exit _ (err_from_is_err_and c.from_residual-in_err-channel_assignment.result c.from_residual-in_err-channel_assignment.ensures.1)
      (then_stops _ (then_consumes _ (begins (is_variable c.args.blocking) _) c.in_ok-size.ensures.gives) c.in_err-channel_assignment.ensures.gives);
}

pub returns-in_err-block_time : goal.returns-in_err-block_time
returns-in_err-block_time g c = record {
  gives =
      exit _ (err_from_is_err_and c.from_residual-in_err-block_time.result c.from_residual-in_err-block_time.ensures.1)
      (then_stops _ (then_consumes _ (then_consumes _ (begins (is_variable c.args.blocking) _) c.in_ok-size.ensures.gives) c.in_ok-channel_assignment.ensures.gives) c.in_err-block_time.ensures.gives);
}

pub returns-in_err-block_size : goal.returns-in_err-block_size
returns-in_err-block_size g c = record {
  gives =
      exit _ (err_from_is_err_and c.from_residual-in_err-block_size.result c.from_residual-in_err-block_size.ensures.1)
      (then_stops _ (then_consumes _ (then_consumes _ (then_consumes _ (begins (is_variable c.args.blocking) _) c.in_ok-size.ensures.gives) c.in_ok-channel_assignment.ensures.gives) c.in_ok-block_time.ensures.gives) c.in_err-block_size.ensures.gives);
}

pub returns-in_err-sample_rate : goal.returns-in_err-sample_rate
returns-in_err-sample_rate g c = record {
  gives =
      exit _ (err_from_is_err_and c.from_residual-in_err-sample_rate.result c.from_residual-in_err-sample_rate.ensures.1)
      (then_stops _ (then_consumes _ (then_consumes _ (then_consumes _ (then_consumes _ (begins (is_variable c.args.blocking) _) c.in_ok-size.ensures.gives) c.in_ok-channel_assignment.ensures.gives) c.in_ok-block_time.ensures.gives) c.in_ok-block_size.ensures.gives)
      c.in_err-sample_rate.ensures.gives);
}

pub returns : goal.returns
returns g c = record {
  gives =
      then_consumes _ (then_consumes _ (then_consumes _ (then_consumes _ (then_consumes _ (begins (is_variable c.args.blocking) _) c.in_ok-size.ensures.gives) c.in_ok-channel_assignment.ensures.gives) c.in_ok-block_time.ensures.gives) c.in_ok-block_size.ensures.gives)
      c.in_ok-sample_rate.ensures.gives;
}
