use Rattle.std.proofs.Common.{◌-◌, length, get_or, pos, rules, FitsSigned, w16, arith}
use Rattle.claxon_subframe.proofs.PaddedCoefficients.{filled_none, filled_more, filled_all}
use Rattle.claxon_subframe.proofs.subframe.predictor.lanes.padded_coefficients.Goals as goal

pub loop-i-init : goal.loop-i-init
loop-i-init g c = filled_none g.row.COUNT (g.row.COUNT - length c.args.coefficients.now) c.args.coefficients.now (omega arith)

pub loop-i-preserved : goal.loop-i-preserved
loop-i-preserved g c =
    let f : FitsSigned w16 (get_or c.args.coefficients.now c.loop-i.i (pos 0)) = search rules in
    filled_more c.from.result (omega arith) (omega arith) f c.from.ensures c.loop-i.invariant

pub returns-clause-value : goal.returns-clause-value
returns-clause-value g c = filled_all (omega arith) (omega arith) c.loop-i.invariant
