use Rattle.std.proofs.Common.{◌≡◌, ◌-◌, ◌∙◌, length, replicate, pos, ap, arith}
use Rattle.std.proofs.lemmas.List.{length-append, length-replicate}
use Rattle.claxon_subframe.proofs.TwelveLanes.{twelve_numbers, as_twelve_small}
use Rattle.claxon_subframe.proofs.subframe.predictor.low_order.padded_to_twelve.Goals as goal

pub returns-clause-value : goal.returns-clause-value
returns-clause-value c =
    let zeros = replicate (12 - length c.args.coefficients.now) (pos 0) in
    let long : length c.padded_coefficients-padded.result ≡ 12 = ap length c.padded_coefficients-padded.ensures.value ∙ omega (arith, length-append zeros c.args.coefficients.now, length-replicate (12 - length c.args.coefficients.now) (pos 0)) in
    twelve_numbers c.padded_coefficients-padded.result long c.padded_coefficients-padded.ensures.within ∙ c.padded_coefficients-padded.ensures.value

pub returns-clause-small_twelve : goal.returns-clause-small_twelve
returns-clause-small_twelve c = as_twelve_small c.padded_coefficients-padded.result c.padded_coefficients-padded.ensures.within
