use Rattle.std.proofs.Common.{sym, ◌∙◌}
use Rattle.claxon.proofs.Interleaving.{all_themselves}
use Rattle.claxon.proofs.interleave.I32SampleUnit.put_all.Goals as goal

pub returns : goal.returns
returns c = c.copy_from_slice.ensures.after ∙ sym (all_themselves c.args.samples.now)
