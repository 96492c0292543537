use Rattle.claxon_subframe.proofs.Predictors.{low_bits_is}
use Rattle.claxon_subframe.proofs.subframe.predictor.low_bits.Goals as goal

pub returns : goal.returns
returns c = low_bits_is c.args.value _ _ c.ranges.value c.cast_unsigned.ensures c.cast_signed.ensures
