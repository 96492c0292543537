use Rattle.claxon_stream.proofs.HeadOneAnswer.{same_head_answers}
use Rattle.claxon_stream.proofs.head.laws.head_cuts_dont_matter.Goals as goal

pub returns : goal.returns
returns c = record { head_cuts_dont_matter = same_head_answers }
