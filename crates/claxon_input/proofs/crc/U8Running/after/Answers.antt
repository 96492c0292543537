use Rattle.std.proofs.Common.{ap, ◌∙◌}
use Rattle.claxon_input.specs.CrcUpdate.{update_crc8}
use Rattle.claxon_input.proofs.CrcUpdate.{update_crc-append}
use Rattle.claxon_input.proofs.crc.U8Running.after.Goals as goal

pub returns : goal.returns
returns c = λ more. ap (λ s. update_crc8 s more) c.update8.ensures ∙ update_crc-append 8 0x107 c.args.bytes.now more c.args.self
