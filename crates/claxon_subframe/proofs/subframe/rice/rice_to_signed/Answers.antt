use Rattle.claxon_subframe.proofs.RiceCodeShifts.{rice_is}
use Rattle.claxon_subframe.proofs.subframe.rice.rice_to_signed.Goals as goal

pub returns : goal.returns
returns c = rice_is c.args.val _ c.ranges.val.fits c.cast_signed-extended_bit_0.ensures
