use Rattle.std.proofs.Common.{◌≡◌, refl, true, ltb, rules}
use Rattle.std.proofs.lemmas.Bool.{lt-ltb}
use Rattle.claxon_input.proofs.ByteFields.{exit_little, consumes_little}
use Rattle.claxon_input.proofs.ConsecutiveCalls.{consumes_map}
use Rattle.claxon_input.proofs.Faults.{stops_fault}
use Rattle.claxon_metadata.proofs.metadata.comment.read_length.Goals as goal

pub returns-then-length-most-clause-is_read : goal.returns-then-length-most-clause-is_read
returns-then-length-most-clause-is_read g c f is named =
    let long : ltb c.args.most c.in_ok-length.length ≡ true = lt-ltb _ _ c.if-length-most.true in
    stops_fault f refl named is (consumes_map _ (consumes_little g.R.ReadBytes.source c.in_ok-length.length (search rules) c.in_ok-length.ensures.is_sound) (λ p. rw (p, long) refl))

pub returns-in_err-length-clause-is_read : goal.returns-in_err-length-clause-is_read
returns-in_err-length-clause-is_read g c f is named =
    exit_little g.R.ReadBytes.source _ _ _ _ _ c.from_residual.ensures.1 c.in_err-length.ensures.failure_or_eof

pub returns-clause-is_read : goal.returns-clause-is_read
returns-clause-is_read g c f is named = search (rules, consumes_little g.R.ReadBytes.source c.in_ok-length.length (search rules) c.in_ok-length.ensures.is_sound)
