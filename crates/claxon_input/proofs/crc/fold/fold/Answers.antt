use Rattle.std.proofs.Common.{rules, ◌≡◌, ◌∙◌, length, ap, drop, arith}
use Rattle.std.proofs.lemmas.List.{take_at, length-drop}
use Rattle.claxon_input.proofs.CrcFolding.{words_crc, folded}
use Rattle.claxon_input.proofs.crc.fold.fold.Goals as goal

pub loop-i-preserved : goal.loop-i-preserved
loop-i-preserved c =
    let l : length c.loop-i.words ≡ 32 = search rules in
    folded c.loop-i.words c.loop-i.i _ _ _ (omega arith) (omega arith) (omega arith) (omega arith) ∙ c.loop-i.invariant

pub returns : goal.returns
returns c =
    let l : length c.loop-i.words ≡ 32 = search rules in
    let at : 16 ≡ c.loop-i.i = omega arith in
    let front = c.copy_from_slice.new.self in
    let copied = c.copy_from_slice.ensures.after ∙ c.split_at_mut-front.ensures.back in
    let size : length front ≡ 16 = ap length copied ∙ length-drop 16 c.loop-i.words ∙ omega arith in
    ap words_crc (take_at front c.split_at_mut-front.result.1.now 16 size ∙ copied ∙ ap (λ n. drop n c.loop-i.words) at) ∙ c.loop-i.invariant
