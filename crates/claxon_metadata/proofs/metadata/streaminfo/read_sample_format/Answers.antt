use Rattle.std.proofs.Common.{rules, arith}
use Rattle.std.proofs.lemmas.Grind.{common_steps}
use Rattle.claxon_format.specs.read.Streaminfo.{format_at}
use Rattle.claxon_input.proofs.ByteFields.{consumes_big}
use Rattle.claxon_input.proofs.ConsecutiveCalls.{consumes_then}
use Rattle.claxon_metadata.proofs.metadata.streaminfo.read_sample_format.Goals as goal

pub returns-clause-gives : goal.returns-clause-gives
unfolding format_at
returns-clause-gives g c =
    consumes_then _ (consumes_big g.R.ReadBytes.source 4 c.in_ok-high.high (search rules) c.in_ok-high.ensures.is_sound) (consumes_big g.R.ReadBytes.source 4 c.in_ok-low.low (search rules) c.in_ok-low.ensures.is_sound)
    (λ p q. rw (p, q) (grind (arith, common_steps)))
