use Rattle.std.proofs.Common.{drop}
use Rattle.claxon.specs.ReadHead.{options_view}
use Rattle.claxon_stream.proofs.HeadAnswers.{answers_are_reading, says_returned}
use Rattle.claxon_stream.proofs.head.laws.head_answers_are_read_heads.Goals as goal

pub returns : goal.returns
returns c = record {
  head_answers_are_read_heads = λ o stream at xs x s end r old new h is e remains never gave.
      says_returned (options_view o) (drop at stream) old new remains never stream xs x r gave (answers_are_reading o stream at xs x s end h is e);
}
