use Rattle.claxon_stream.proofs.HeadAnswers.{answers_are_reading}
use Rattle.claxon_stream.proofs.head.laws.head_answers_are_reading.Goals as goal

pub returns : goal.returns
returns c = record { head_answers_are_reading = answers_are_reading }
