use Rattle.claxon_stream.proofs.OneAnswers.{same_answers}
use Rattle.claxon_stream.proofs.laws.cuts_dont_matter.Goals as goal

pub returns : goal.returns
returns c = record { cuts_dont_matter = λ stream depth bytes at end other xs ys e h k. same_answers stream depth bytes at end other xs ys e h k }
