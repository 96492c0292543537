use Rattle.std.proofs.Common.{refl, sym, ◌∙◌}
use Rattle.claxon_input.proofs.CrcUpdate.{update_crc-at, update_crc-end}
use Rattle.claxon_input.proofs.crc.update8.Goals as goal

pub loop-byte-init : goal.loop-byte-init
loop-byte-init c = refl

pub loop-byte-preserved : goal.loop-byte-preserved
loop-byte-preserved c = update_crc-at 8 0x107 c.loop-byte.state c.update8_byte-state.result c.args.bytes.now c.loop-byte.byte-index c.loop-byte-test.true c.update8_byte-state.ensures ∙ c.loop-byte.invariant

pub returns : goal.returns
returns c = sym (update_crc-end 8 0x107 c.loop-byte.state c.args.bytes.now c.loop-byte.byte-index c.loop-byte-test.false) ∙ c.loop-byte.invariant
