use Rattle.claxon_stream.proofs.OneFinds.{find_is_first}
use Rattle.claxon_stream.proofs.find_laws.find_is_first.Goals as goal

pub returns : goal.returns
returns c = record { find_is_first = λ known depth bytes position cost x new after h e. find_is_first known depth bytes position cost x new after h e }
