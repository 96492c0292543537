use Rattle.std.proofs.Common.{rules, ◌≡◌, length}
use Rattle.claxon_input.proofs.CrcUpdate.{update16_16_bytes_is}
use Rattle.claxon_input.proofs.crc.update16_16_bytes.Goals as goal

pub returns : goal.returns
returns c =
    let l : length c.args.bytes.now ≡ 16 = search rules in
    update16_16_bytes_is c.args.state c.update16_8_bytes.result c.update16_8_bytes-2.result c.args.bytes.now (search rules) l c.update16_8_bytes.ensures c.update16_8_bytes-2.ensures
