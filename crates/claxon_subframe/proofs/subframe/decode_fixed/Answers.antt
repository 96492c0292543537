use Rattle.std.proofs.Common.{◌≡◌, ◌-◌, ◌∙◌, length, refl, arith}
use Rattle.std.proofs.lemmas.Bool.{lt-ltb}
use Rattle.std.proofs.lemmas.List.{length-take-le}
use Rattle.std.proofs.lemmas.Result.{err_from_is_err_and}
use Rattle.claxon_format.specs.Fault.{FixedOrder, fault_text}
use Rattle.claxon_format.specs.read.Predict.{fixed}
use Rattle.claxon_format.specs.read.Subframe.{fixed_at}
use Rattle.claxon_format.specs.read.Residual.{residual_at}
use Rattle.claxon_input.proofs.ConsecutiveCalls.{consumes_none, gives_after, exit}
use Rattle.claxon_input.proofs.Faults.{stops_fault}
use Rattle.claxon_subframe.proofs.ConsecutiveFields.{then_consumes, then_stops, consumes_as}
use Rattle.claxon_subframe.proofs.OrderZero.{fixed_0_at}
use Rattle.claxon_subframe.proofs.PredictedSubframes.{fixed_begins, fixed_warm_up, times_stops, residual_consumes, residual_stops, in_place}
use Rattle.claxon_subframe.proofs.subframe.decode_fixed.Goals as goal

pub returns-then-order-eq0 : goal.returns-then-order-eq0
returns-then-order-eq0 g c = record {
  fills_buffer =
      let none : length c.args.buffer.now - length c.args.buffer.now ≡ 0 = omega arith in
      let e = rw none at c.decode_residual.ensures.fills_buffer in
      gives_after _ c.decode_residual.result _ (consumes_none _ (λ s m. fixed_at c.args.bit_depth (length c.args.buffer.now) c.args.order s ≡ residual_at (length c.args.buffer.now) 0 m) (rw c.if-order-eq0.true (fixed_0_at c.args.bit_depth (length c.args.buffer.now) _))) e;
}

pub returns-then-buffer-order : goal.returns-then-buffer-order
unfolding fixed_at fault_text
returns-then-buffer-order g c = record { fills_buffer = stops_fault FixedOrder refl refl (refl, refl) (consumes_none _ _ (rw (lt-ltb (length c.args.buffer.now) c.args.order (omega arith)) refl)) }

pub returns-in_err-decode_verbatim : goal.returns-in_err-decode_verbatim
returns-in_err-decode_verbatim g c = record {
  fills_buffer =
      let warm_up = length-take-le c.args.order c.args.buffer.now (omega arith) in
      exit _ (err_from_is_err_and c.from_residual.result c.from_residual.ensures.1)
      (then_stops _ (fixed_begins c.args.bit_depth (length c.args.buffer.now) c.args.order _ (omega arith)) (times_stops warm_up _ c.in_err-decode_verbatim.ensures.are_read));
}

pub returns-in_err-decode_residual : goal.returns-in_err-decode_residual
returns-in_err-decode_residual g c = record {
  fills_buffer =
      let warm_up = length-take-le c.args.order c.args.buffer.now (omega arith) in
      exit _ (err_from_is_err_and c.from_residual-in_err-decode_residual.result c.from_residual-in_err-decode_residual.ensures.1)
      (then_stops _ (fixed_warm_up c.args.bit_depth (length c.args.buffer.now) c.args.order _ (omega arith) warm_up c.in_ok-decode_verbatim.ensures.are_read)
      (residual_stops (omega arith) _ c.in_err-decode_residual.ensures.fills_buffer));
}

pub returns : goal.returns
returns g c = record {
  fills_buffer =
      let warm_up = length-take-le c.args.order c.args.buffer.now (omega arith) in
      consumes_as
      (in_place (fixed c.args.order) c.args.order c.decode_verbatim.new.buffer _ c.decode_residual-2.new.buffer c.predict_fixed.new.buffer refl (c.decode_verbatim.auto.buffer ∙ warm_up) c.decode_residual-2.auto.buffer c.predict_fixed.ensures)
      (then_consumes _ (fixed_warm_up c.args.bit_depth (length c.args.buffer.now) c.args.order _ (omega arith) warm_up c.in_ok-decode_verbatim.ensures.are_read)
      (residual_consumes (omega arith) _ c.in_ok-decode_residual.ensures.fills_buffer));
}
