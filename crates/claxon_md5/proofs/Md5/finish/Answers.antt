use Rattle.std.proofs.Common.{◌∙◌, ap, refl, arith}
use Rattle.claxon_md5.specs.Md5.{zero_count, length_bytes, bytes_of_words, words_after, md5}
use Rattle.claxon_md5.proofs.Padding.{appended}
use Rattle.claxon_md5.proofs.Md5.finish.Goals as goal

pub returns : goal.returns
unfolding md5
returns c = record {
  is_digest = λ xs h.
      let zeros = c.zero_count-zeros.result in
      let more = c.update-2.ensures.hashes_bytes _ (c.update.ensures.hashes_bytes xs h) in
      let zeros_are = c.zero_count-zeros.ensures ∙ ap zero_count (omega arith) in
      let last_is = c.length_bytes.ensures ∙ ap length_bytes (omega arith) in
      let all = appended xs _ _ c.args.self.length zeros h.count zeros_are refl last_is in
      c.bytes_of_words.ensures ∙ ap bytes_of_words (more.words ∙ ap words_after all);
}
