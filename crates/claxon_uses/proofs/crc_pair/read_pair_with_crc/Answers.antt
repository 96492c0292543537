use Rattle.std.proofs.Common.{rules}
use Rattle.claxon.specs.CrcUpdate.{update_crc16}
use Rattle.claxon.proofs.RunningReaders.{gives_with_value, name_with_value}
use Rattle.claxon_uses.proofs.crc_pair.read_pair_with_crc.Goals as goal

pub returns : goal.returns
returns g c =
    let e = name_with_value g.R.ReadBytes.source update_crc16 c.args.input.now _ _ c.new-input.result c.read_pair_through_crc.new.input _ c.read_pair_through_crc.result _ c.new-input.ensures.source c.read_pair_through_crc.ensures.gives in
    let k = gives_with_value g.R.ReadBytes.source update_crc16 c.args.input.now _ _ c.new-input.result c.read_pair_through_crc.new.input _ c.read_pair_through_crc.result _ c.new-input.ensures.source c.read_pair_through_crc.ensures.gives in
    record { is_read = search rules }
