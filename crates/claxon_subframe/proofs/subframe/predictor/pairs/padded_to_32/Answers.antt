use Rattle.claxon_subframe.proofs.Pairs.{zeros_then}
use Rattle.claxon_subframe.proofs.subframe.predictor.pairs.padded_to_32.Goals as goal

pub returns : goal.returns
returns c = zeros_then 32 c.args.coefficients.now c.copy_from_slice.new.self c.requires c.copy_from_slice.ensures.after
