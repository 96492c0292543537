use Rattle.claxon_stream.proofs.FindFrames.{is_find_frames}
use Rattle.claxon_stream.proofs.find_laws.finds_are_find_frames.Goals as goal

pub returns : goal.returns
returns c = record { finds_are_find_frames = λ known depth bytes position budget cost x new after r left i e enough h. is_find_frames known depth bytes budget cost enough position x new after r left i e h }
