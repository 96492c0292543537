use Rattle.claxon_stream_seek.proofs.SeekAnswers.{not_found_is_none}
use Rattle.claxon_stream_seek.proofs.laws.not_found_is_none.Goals as goal

pub returns : goal.returns
returns c = record { not_found_is_none = λ known depth s stream h. not_found_is_none known depth s stream h }
