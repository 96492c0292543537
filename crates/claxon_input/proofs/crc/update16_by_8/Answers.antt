use Rattle.std.proofs.Common.{arith, refl, ap, ◌∙◌, ◌≡◌, ◌+◌, ◌*◌, ◌/◌, [], get_or, drop, length}
use Rattle.claxon_input.specs.CrcUpdate.{update_crc16}
use Rattle.claxon_input.proofs.CrcUpdate.{update_crc-piece, eight_alone, piece_at}
use Rattle.claxon_input.proofs.crc.update16_by_8.Goals as goal

pub loop-eight-init : goal.loop-eight-init
loop-eight-init c = refl

pub loop-eight-preserved : goal.loop-eight-preserved
loop-eight-preserved c =
    let i = c.loop-eight.eight-index in
    let bs = c.args.bytes.now in
    let piece = ap (λ xss. get_or xss i []) c.as_chunks.ensures.front ∙ piece_at 8 (length bs / 8) i (8 * i) bs [] (omega arith) refl in
    update_crc-piece 16 0x18005 8 c.loop-eight.state c.update16_8_bytes-state.result bs (8 * i) (8 * (i + 1)) (omega arith) (eight_alone c.loop-eight.state c.update16_8_bytes-state.result (8 * i) bs _ piece c.update16_8_bytes-state.ensures) ∙ c.loop-eight.invariant

pub returns : goal.returns
returns c =
    let at : length c.args.bytes.now / 8 * 8 ≡ 8 * c.loop-eight.eight-index = omega arith in
    c.update16_bytewise.ensures ∙ ap (update_crc16 c.loop-eight.state) (c.as_chunks.ensures.back ∙ ap (λ i. drop i c.args.bytes.now) at) ∙ c.loop-eight.invariant
