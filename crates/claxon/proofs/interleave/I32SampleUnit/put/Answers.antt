use Rattle.std.proofs.Common.{rules}
use Rattle.claxon.proofs.Interleaving.{one_place}
use Rattle.claxon.proofs.interleave.I32SampleUnit.put.Goals as goal

pub returns : goal.returns
returns c = one_place c.args.place.now _ c.args.sample c.requires (search rules)
