use Rattle.std.proofs.Common.{rules}
use Rattle.claxon.proofs.ByteAlignment.{gives_through, name_through}
use Rattle.claxon_uses.proofs.crc_pair.read_pair.Goals as goal

pub returns : goal.returns
returns g c =
    let e = name_through g.R.ReadBytes.source c.args.input.now _ c.new-bits.result c.read_pair_of_bits.new.bits _ c.read_pair_of_bits.result _ c.new-bits.ensures c.read_pair_of_bits.ensures.gives in
    let k = gives_through g.R.ReadBytes.source c.args.input.now _ c.new-bits.result c.read_pair_of_bits.new.bits _ c.read_pair_of_bits.result _ c.new-bits.ensures c.read_pair_of_bits.ensures.gives in
    record { gives = search rules }
