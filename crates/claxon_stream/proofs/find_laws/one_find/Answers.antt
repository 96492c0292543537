use Rattle.claxon_stream.proofs.OneFinds.{one_find}
use Rattle.claxon_stream.proofs.find_laws.one_find.Goals as goal

pub returns : goal.returns
returns c = record { one_find = λ known depth bytes position cost x y new other after later i j h k. one_find known depth bytes position cost x y new other after later i j h k }
