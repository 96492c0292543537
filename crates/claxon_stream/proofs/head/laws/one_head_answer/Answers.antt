use Rattle.claxon_stream.proofs.HeadOneAnswer.{one_head_answer}
use Rattle.claxon_stream.proofs.head.laws.one_head_answer.Goals as goal

pub returns : goal.returns
returns c = record { one_head_answer = λ s bytes x y new other i j h k. one_head_answer s bytes new other x y i j h k }
