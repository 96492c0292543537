use Rattle.std.proofs.Common.{◌∙◌, length, refl, sym, arith}
use Rattle.std.proofs.lemmas.Bool.{lt-ltb}
use Rattle.std.proofs.lemmas.List.{length-take-le}
use Rattle.std.proofs.lemmas.Result.{err_from_is_err_and}
use Rattle.claxon_format.specs.Fault.{LinearOrder, fault_text}
use Rattle.claxon_format.specs.Predict.{linear}
use Rattle.claxon_format.specs.read.Subframe.{linear_at}
use Rattle.claxon_input.proofs.ConsecutiveCalls.{exit, consumes_none}
use Rattle.claxon_input.proofs.Faults.{stops_fault}
use Rattle.claxon_subframe.proofs.ConsecutiveFields.{then_consumes, then_stops, consumes_as}
use Rattle.claxon_subframe.proofs.PredictedSubframes.{linear_begins, linear_warm_up, times_consumes, times_stops, residual_consumes, residual_stops, table_front, in_place}
use Rattle.claxon_subframe.proofs.subframe.decode_lpc.Goals as goal

pub returns-then-buffer-order : goal.returns-then-buffer-order
unfolding linear_at fault_text
returns-then-buffer-order g c = record { fills_buffer = stops_fault LinearOrder refl refl (refl, refl) (consumes_none _ _ (rw (lt-ltb (length c.args.buffer.now) c.args.order (omega arith)) refl)) }

pub returns-in_err-decode_verbatim : goal.returns-in_err-decode_verbatim
returns-in_err-decode_verbatim g c = record {
  fills_buffer =
      let warm_up = length-take-le c.args.order c.args.buffer.now (omega arith) in
      exit _ (err_from_is_err_and c.from_residual.result c.from_residual.ensures.1)
      (then_stops _ (linear_begins c.args.bit_depth (length c.args.buffer.now) c.args.order _ (omega arith)) (times_stops warm_up _ c.in_err-decode_verbatim.ensures.are_read));
}

pub returns-in_err-lpc : goal.returns-in_err-lpc
returns-in_err-lpc g c = record {
  fills_buffer =
      let warm_up = length-take-le c.args.order c.args.buffer.now (omega arith) in
      exit _ (err_from_is_err_and c.from_residual-in_err-lpc.result c.from_residual-in_err-lpc.ensures.1)
      (then_stops _ (linear_warm_up c.args.bit_depth (length c.args.buffer.now) c.args.order _ (omega arith) warm_up c.in_ok-decode_verbatim.ensures.are_read) c.in_err-lpc.ensures.gives);
}

pub returns-in_err-read_coefficients : goal.returns-in_err-read_coefficients
returns-in_err-read_coefficients g c = record {
  fills_buffer =
      let warm_up = length-take-le c.args.order c.args.buffer.now (omega arith) in
      exit _ (err_from_is_err_and c.from_residual-in_err-read_coefficients.result c.from_residual-in_err-read_coefficients.ensures.1)
      (then_stops _ (then_consumes _ (linear_warm_up c.args.bit_depth (length c.args.buffer.now) c.args.order _ (omega arith) warm_up c.in_ok-decode_verbatim.ensures.are_read) c.in_ok-lpc.ensures.gives)
      (times_stops (table_front c.args.order c.requires.order) _ c.in_err-read_coefficients.ensures.fills_buffer));
}

pub returns-in_err-decode_residual : goal.returns-in_err-decode_residual
returns-in_err-decode_residual g c = record {
  fills_buffer =
      let warm_up = length-take-le c.args.order c.args.buffer.now (omega arith) in
      exit _ (err_from_is_err_and c.from_residual-in_err-decode_residual.result c.from_residual-in_err-decode_residual.ensures.1)
      (then_stops _ (then_consumes _ (then_consumes _ (linear_warm_up c.args.bit_depth (length c.args.buffer.now) c.args.order _ (omega arith) warm_up c.in_ok-decode_verbatim.ensures.are_read) c.in_ok-lpc.ensures.gives)
      (times_consumes (table_front c.args.order c.requires.order) _ c.in_ok-read_coefficients.ensures.fills_buffer))
      (residual_stops (omega arith) _ c.in_err-decode_residual.ensures.fills_buffer));
}

pub returns : goal.returns
returns g c = record {
  fills_buffer =
      let warm_up = length-take-le c.args.order c.args.buffer.now (omega arith) in
      consumes_as
      (in_place (linear c.read_coefficients.new.coefficients c.in_ok-lpc.lpc.shift) c.args.order c.decode_verbatim.new.buffer _ c.decode_residual.new.buffer c.predict_lpc.new.buffer
      (c.read_coefficients.auto.coefficients ∙ table_front c.args.order c.requires.order) (c.decode_verbatim.auto.buffer ∙ warm_up) c.decode_residual.auto.buffer c.predict_lpc.ensures)
      (then_consumes _ (then_consumes _ (then_consumes _ (linear_warm_up c.args.bit_depth (length c.args.buffer.now) c.args.order _ (omega arith) warm_up c.in_ok-decode_verbatim.ensures.are_read) c.in_ok-lpc.ensures.gives)
      (times_consumes (table_front c.args.order c.requires.order) _ c.in_ok-read_coefficients.ensures.fills_buffer))
      (residual_consumes (omega arith) _ c.in_ok-decode_residual.ensures.fills_buffer));
}

pub slice_bounds-numbers-end : goal.slice_bounds-numbers-end
slice_bounds-numbers-end g c = omega arith

pub slice_bounds-coefficients-end : goal.slice_bounds-coefficients-end
slice_bounds-coefficients-end g c = sym (table_front c.args.order c.requires.order)

pub decode_residual-requires : goal.decode_residual-requires
decode_residual-requires g c = omega arith

pub predict_lpc-requires : goal.predict_lpc-requires
predict_lpc-requires g c = let k = c.read_coefficients.auto.coefficients ∙ table_front c.args.order c.requires.order in
    record { few = omega arith; warm_up = omega arith; shift = c.in_ok-lpc.ensures.shift }
