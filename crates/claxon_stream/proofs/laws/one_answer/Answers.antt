use Rattle.claxon_stream.proofs.OneAnswers.{one_answer}
use Rattle.claxon_stream.proofs.laws.one_answer.Goals as goal

pub returns : goal.returns
returns c = record { one_answer = λ stream depth bytes a b position x y new other i j h k. one_answer stream depth bytes a b position new other x y i j h k }
