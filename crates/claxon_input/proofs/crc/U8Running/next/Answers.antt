use Rattle.std.proofs.Common.{ap, ◌∙◌}
use Rattle.claxon_input.specs.CrcUpdate.{update_crc8}
use Rattle.claxon_input.proofs.CrcUpdate.{update_crc-cons}
use Rattle.claxon_input.proofs.crc.U8Running.next.Goals as goal

pub returns : goal.returns
returns c = λ more. ap (λ s. update_crc8 s more) c.update8_byte.ensures ∙ update_crc-cons 8 0x107 c.args.self c.args.byte more
