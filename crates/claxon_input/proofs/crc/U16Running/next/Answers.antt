use Rattle.std.proofs.Common.{ap, ◌∙◌}
use Rattle.claxon_input.specs.CrcUpdate.{update_crc16}
use Rattle.claxon_input.proofs.CrcUpdate.{update_crc-cons}
use Rattle.claxon_input.proofs.crc.U16Running.next.Goals as goal

pub returns : goal.returns
returns c = λ more. ap (λ s. update_crc16 s more) c.update16_byte.ensures ∙ update_crc-cons 16 0x18005 c.args.self c.args.byte more
