use Rattle.std.proofs.Common.{rules}
use Rattle.claxon.proofs.Interleaving.{two_places}
use Rattle.claxon.proofs.interleave.I32SampleUnit.put_pair.Goals as goal

pub returns : goal.returns
returns c = two_places c.args.place.now _ _ c.args.first c.args.second c.requires (search rules) (search rules)
