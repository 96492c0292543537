use Rattle.std.proofs.Common.{ℕ, Vec, arith, rules}
use Rattle.std.proofs.lemmas.Result.{err_from_is_err_and}
use Rattle.claxon_format.specs.read.MetadataBlocks.{application_at}
use Rattle.claxon_format.specs.Fault.{fault_text}
use Rattle.claxon_input.proofs.ByteFields.{consumes_big, failure_or_big}
use Rattle.claxon_input.proofs.ConsecutiveCalls.{consumes_then}
use Rattle.claxon_input.proofs.Memory.{exit_with_memory}
use Rattle.claxon_metadata.specs.MetadataBlock.{content_view}
use Rattle.claxon_metadata.proofs.ContentByType.{application_stops}
use Rattle.claxon_metadata.proofs.metadata.read_application_block.Goals as goal

pub returns-in_err-id-clause-gives : goal.returns-in_err-id-clause-gives
unfolding application_at fault_text
returns-in_err-id-clause-gives g c = search (rules, failure_or_big g.R.ReadBytes.source 4 c.in_err-id.ensures.failure_or_eof)

pub returns-in_err-bytes-clause-gives : goal.returns-in_err-bytes-clause-gives
returns-in_err-bytes-clause-gives g c =
    exit_with_memory (content_view {A = g.row.A.Denot}) (λ (bytes : Vec ℕ g.row.A.Denot). bytes.items) _ (err_from_is_err_and c.from_residual-in_err-bytes.result c.from_residual-in_err-bytes.ensures.1)
    (application_stops (omega arith) (omega arith) (consumes_big g.R.ReadBytes.source 4 c.in_ok-id.id (search rules) c.in_ok-id.ensures.is_sound)) c.in_err-bytes.ensures.gives

pub returns-clause-gives : goal.returns-clause-gives
unfolding application_at fault_text
returns-clause-gives g c = consumes_then _ (consumes_big g.R.ReadBytes.source 4 c.in_ok-id.id (search rules) c.in_ok-id.ensures.is_sound) c.in_ok-bytes.ensures.gives (λ p q. search rules)
