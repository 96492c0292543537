use Rattle.claxon_stream.proofs.OneAnswers.{is_decoders}
use Rattle.claxon_stream.proofs.laws.answers_are_decoders.Goals as goal

pub returns : goal.returns
returns c = record { answers_are_decoders = λ stream bytes capacity position x new r i e h. is_decoders stream bytes capacity position new x r i e h }
