use Rattle.std.proofs.Common.{arith, refl, ap, ◌∙◌, ◌≡◌, ◌+◌, ◌*◌, ◌/◌, [], get_or, drop, length}
use Rattle.claxon_input.specs.CrcUpdate.{update_crc16}
use Rattle.claxon_input.proofs.CrcUpdate.{update_crc-piece, piece_at}
use Rattle.claxon_input.proofs.crc.update16_by_16.Goals as goal

pub loop-sixteen-init : goal.loop-sixteen-init
loop-sixteen-init c = refl

pub loop-sixteen-preserved : goal.loop-sixteen-preserved
loop-sixteen-preserved c =
    let i = c.loop-sixteen.sixteen-index in
    let bs = c.args.bytes.now in
    let piece = ap (λ xss. get_or xss i []) c.as_chunks.ensures.front ∙ piece_at 16 (length bs / 16) i (16 * i) bs [] (omega arith) refl in
    update_crc-piece 16 0x18005 16 c.loop-sixteen.state c.update16_16_bytes-state.result bs (16 * i) (16 * (i + 1)) (omega arith) (c.update16_16_bytes-state.ensures ∙ ap (update_crc16 c.loop-sixteen.state) piece) ∙ c.loop-sixteen.invariant

pub returns : goal.returns
returns c =
    let at : length c.args.bytes.now / 16 * 16 ≡ 16 * c.loop-sixteen.sixteen-index = omega arith in
    c.update16_by_8.ensures ∙ ap (update_crc16 c.loop-sixteen.state) (c.as_chunks.ensures.back ∙ ap (λ i. drop i c.args.bytes.now) at) ∙ c.loop-sixteen.invariant
