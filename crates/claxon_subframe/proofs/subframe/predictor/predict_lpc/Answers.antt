use Rattle.claxon_subframe.proofs.RestoredFront.{rest_restored}
use Rattle.claxon_subframe.proofs.subframe.predictor.predict_lpc.Goals as goal

pub returns-then-coefficients-le12 : goal.returns-then-coefficients-le12
returns-then-coefficients-le12 c =
    rest_restored c.args.coefficients.now c.reverse.new.self c.predict_by_pairs-known.new.buffer c.predict_lpc_low_order.new.buffer c.args.buffer.now c.args.shift c.predict_by_pairs-known.result
    c.reverse.ensures.after c.predict_by_pairs-known.ensures.warm_up c.predict_by_pairs-known.ensures.few c.predict_lpc_low_order.ensures.samples_are_restored c.predict_by_pairs-known.ensures.restored

pub returns-else-coefficients-le12 : goal.returns-else-coefficients-le12
returns-else-coefficients-le12 c =
    rest_restored c.args.coefficients.now c.reverse.new.self c.predict_by_pairs-known.new.buffer c.predict_lpc_high_order.new.buffer c.args.buffer.now c.args.shift c.predict_by_pairs-known.result
    c.reverse.ensures.after c.predict_by_pairs-known.ensures.warm_up c.predict_by_pairs-known.ensures.few c.predict_lpc_high_order.ensures.samples_are_restored c.predict_by_pairs-known.ensures.restored
