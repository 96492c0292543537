use Rattle.claxon_stream.proofs.HeadOneAnswer.{answers_complete}
use Rattle.claxon_stream.proofs.head.laws.head_answers_are_complete.Goals as goal

pub returns : goal.returns
returns c = record { head_answers_are_complete = answers_complete }
