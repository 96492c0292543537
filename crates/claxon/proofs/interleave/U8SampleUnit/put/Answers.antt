use Rattle.std.proofs.Common.{rules}
use Rattle.claxon.specs.Interleave.{sample_bytes}
use Rattle.claxon.proofs.Interleaving.{whole_place}
use Rattle.claxon.proofs.interleave.U8SampleUnit.put.Goals as goal

pub returns : goal.returns
unfolding sample_bytes
returns c = whole_place c.args.place.now c.copy_from_slice.new.self _ 4 c.requires (search rules)
