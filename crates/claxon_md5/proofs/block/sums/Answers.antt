use Rattle.std.proofs.Common.{◌≡◌, ◌/◌, ◌<◌, ◌∙◌, length, ap, slice_index, sym, arith}
use Rattle.std.proofs.lemmas.List.{length-set}
use Rattle.claxon_md5.specs.Md5.{add, words_of_bytes}
use Rattle.claxon_md5.proofs.Words.{word_at, sum_put}
use Rattle.claxon_md5.proofs.block.sums.Goals as goal

pub loop-i-preserved : goal.loop-i-preserved
loop-i-preserved c =
    let i = c.loop-i.i in
    let sums = c.loop-i.sums in
    let block = c.args.block.now in
    let sines = c.args.sines.now in
    let size : length sums ≡ 16 = c.loop-i.invariant.0 in
    let within : i < length block / 4 = omega (arith, c.told-block) in
    let fours = c.as_chunks.ensures.front in
    let word = c.from_le_bytes.ensures ∙ sym (word_at block _ i _ fours within) in
    let sum = ap (λ n. add n (slice_index sines i)) word in (
      length-set sums i _ ∙ size,
      sum_put (words_of_bytes block) sines sums i _ (omega arith) c.loop-i.invariant.1 sum,
    )
