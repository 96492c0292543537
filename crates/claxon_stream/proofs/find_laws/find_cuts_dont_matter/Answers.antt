use Rattle.claxon_stream.proofs.FindChains.{cuts_dont_matter}
use Rattle.claxon_stream.proofs.find_laws.find_cuts_dont_matter.Goals as goal

pub returns : goal.returns
returns c = record { find_cuts_dont_matter = λ known depth bytes at cost xs ys e h k. cuts_dont_matter known depth bytes at cost xs ys e h k }
