use Rattle.std.proofs.Common.{rules, ◌≡◌, ◌∙◌, ◌+◌, ◌*◌, ◌++◌, length, ap, ap₂, take, sym, arith}
use Rattle.std.proofs.lemmas.List.{take_all}
use Rattle.std.proofs.lemmas.Slice.{take-put_mid, overwrites}
use Rattle.claxon_input.proofs.CrcFolding.{word_bytes, word_taken}
use Rattle.claxon_input.proofs.crc.fold.bytes_of.Goals as goal

pub loop-i-preserved : goal.loop-i-preserved
loop-i-preserved c =
    let i = c.loop-i.i in
    let l = c.loop-i.invariant.0 in
    let copied = c.copy_from_slice.ensures.after ∙ c.to_le_bytes.ensures in
    let size : length c.copy_from_slice.new.self ≡ 8 = ap length copied in
    let words : length c.args.words.now ≡ 32 = search rules in (
      search (rules, overwrites),
      take-put_mid (8 * i) _ c.loop-i.bytes c.copy_from_slice.new.self (8 * (i + 1)) (omega arith) (omega arith)
          ∙ ap₂ (λ x y. x ++ y) c.loop-i.invariant.1 copied ∙ sym (word_taken c.args.words.now i _ (omega arith) (omega arith)),
    )

pub returns : goal.returns
returns c =
    let l = c.loop-i.invariant.0 in
    let end : c.loop-i.i ≡ 16 = omega arith in
    sym (take_all (8 * c.loop-i.i) c.loop-i.bytes (omega arith)) ∙ c.loop-i.invariant.1 ∙ ap (λ n. word_bytes (take n c.args.words.now)) end
