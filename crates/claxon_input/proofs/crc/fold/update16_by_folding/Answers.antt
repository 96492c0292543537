use Rattle.std.proofs.lemmas.Grind.{common_steps}
use Rattle.std.proofs.Common.{◌≡◌, ◌∙◌, ◌+◌, ◌*◌, ◌/◌, ◌<◌, [], length, get_or, ap, sym, take, drop, refl, arith}
use Rattle.std.proofs.lemmas.List.{get_or-drop}
use Rattle.claxon_input.specs.CrcUpdate.{update_crc16}
use Rattle.claxon_input.proofs.CrcUpdate.{update_crc-append, update_crc-piece, piece_at}
use Rattle.claxon_input.proofs.CrcFolding.{word_bytes, words_crc, after_zero_words}
use Rattle.claxon_input.proofs.crc.fold.update16_by_folding.Goals as goal

pub loop-piece-init : goal.loop-piece-init
loop-piece-init c =
    let bs = c.args.bytes.now in
    let some : 0 < length bs / 128 = omega (arith, c.as_chunks.ensures.front_len, c.in-Some.ensures.cases.1) in
    let piece = ap (λ xss. get_or xss 0 []) (sym c.in-Some.ensures.cases.0 ∙ c.as_chunks.ensures.front) ∙ piece_at 128 (length bs / 128) 0 0 bs [] some refl in
    update_crc-piece 16 0x18005 128 c.args.state (words_crc (take 16 c.take_in.new.words)) bs 0 128 refl
    (c.take_in.ensures ∙ after_zero_words c.with_state.result ∙ c.with_state.ensures ∙ ap (update_crc16 c.args.state) piece)

pub loop-piece-preserved : goal.loop-piece-preserved
loop-piece-preserved c =
    let bs = c.args.bytes.now in
    let k = c.loop-piece.piece-index in
    let now = word_bytes (take 16 c.loop-piece.words) in
    let next = get_or c.in-Some.more.now k [] in
    let at : 1 + k < length bs / 128 = omega (arith, c.as_chunks.ensures.front_len, c.in-Some.ensures.cases.1) in
    let same : 128 * (1 + k) ≡ 128 * (k + 1) = omega arith in
    let piece : next ≡ take 128 (drop (128 * (k + 1)) bs) =
    ap (λ xss. get_or (drop 1 xss) k []) (sym c.in-Some.ensures.cases.0) ∙ get_or-drop 1 c.as_chunks.result.0.now k []
    ∙ ap (λ xss. get_or xss (1 + k) []) c.as_chunks.ensures.front ∙ piece_at 128 (length bs / 128) (1 + k) (128 * (1 + k)) bs [] at refl
    ∙ ap (λ n. take 128 (drop n bs)) same in
    update_crc-piece 16 0x18005 128 (words_crc (take 16 c.loop-piece.words)) (words_crc (take 16 c.take_in-in-loop-piece.new.words)) bs (128 * (k + 1)) (128 * (k + 1 + 1)) (omega arith)
    (c.take_in-in-loop-piece.ensures ∙ sym (update_crc-append 16 0x18005 now next 0) ∙ ap (update_crc16 (words_crc (take 16 c.loop-piece.words))) piece)
    ∙ c.loop-piece.invariant

pub returns : goal.returns
returns c = grind (arith, common_steps)
