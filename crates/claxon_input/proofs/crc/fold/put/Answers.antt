use Rattle.std.proofs.Common.{◌+◌, ◌*◌, ◌/◌, ◌++◌, ◌∙◌, length, ap, sym, take, arith}
use Rattle.std.proofs.lemmas.List.{take_all, length-set}
use Rattle.claxon_input.proofs.CrcFolding.{word_bytes, word_put}
use Rattle.claxon_input.proofs.crc.fold.put.Goals as goal

pub loop-i-preserved : goal.loop-i-preserved
loop-i-preserved c =
    let i = c.loop-i.i in
    let bs = c.args.bytes.now in
    let l = c.loop-i.invariant.0 in (
      length-set c.loop-i.words (i + 16) c.word.result ∙ l,
      word_put c.loop-i.words (word_bytes (take 16 c.args.words.now)) bs c.as_chunks.result.0.now (length bs / 8) i _ c.word.result (omega arith) c.loop-i.invariant.1
          c.word.ensures c.as_chunks.ensures.front (omega arith) (omega (arith, c.told-bytes)),
    )

pub returns : goal.returns
returns c =
    let l = c.loop-i.invariant.0 in
    let i = c.loop-i.i in
    ap word_bytes (sym (take_all (i + 16) c.loop-i.words (omega arith))) ∙ c.loop-i.invariant.1
    ∙ ap (λ y. word_bytes (take 16 c.args.words.now) ++ y) (take_all (8 * i) c.args.bytes.now (omega (arith, c.told-bytes)))
