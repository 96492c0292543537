use Rattle.std.proofs.Common.{[]}
use Rattle.claxon_verify.proofs.Tails.{any_after}
use Rattle.claxon_verify.proofs.trailing.BytesAfter.with_frame.Goals as goal

pub returns : goal.returns
returns c = λ others t tail. any_after t [] others c.with_byte.result (c.with_byte.ensures t tail)
