use Rattle.std.proofs.Common.{ap, ◌∙◌}
use Rattle.claxon_input.specs.CrcUpdate.{update_crc16}
use Rattle.claxon_input.proofs.CrcUpdate.{update_crc-append}
use Rattle.claxon_input.proofs.crc.U16Running.after.Goals as goal

pub returns : goal.returns
returns c = λ more. ap (λ s. update_crc16 s more) c.update16.ensures ∙ update_crc-append 16 0x18005 c.args.bytes.now more c.args.self
