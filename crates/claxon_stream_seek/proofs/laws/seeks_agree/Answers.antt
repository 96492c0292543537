use Rattle.claxon_stream_seek.proofs.SeekAnswers.{seeks_agree}
use Rattle.claxon_stream_seek.proofs.laws.seeks_agree.Goals as goal

pub returns : goal.returns
returns c = record { seeks_agree = λ known depth s stream x y h k. seeks_agree known depth s stream x y h k }
