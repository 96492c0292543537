use Rattle.std.proofs.Common.{refl}
use Rattle.claxon_stream.proofs.FrameEnds.{nothing_noted}
use Rattle.claxon_stream.proofs.ending.FrameEnd.new.Goals as goal

pub returns : goal.returns
returns c = record { knows = nothing_noted _ refl refl refl refl; summed = refl }
