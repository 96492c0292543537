use Rattle.std.proofs.Common.{Bool, refl, sym, ◌∙◌}
use Rattle.std.proofs.lemmas.Result.{err_from_is_err_and}
use Rattle.claxon_format.specs.Fault.{SecondStreaminfo, fault_text}
use Rattle.claxon_input.proofs.ConsecutiveCalls.{consumes_map, consumes_none}
use Rattle.claxon_input.proofs.Faults.{stops_fault}
use Rattle.claxon_input.proofs.Memory.{exit_with_memory}
use Rattle.claxon_heads.specs.StreamHead.{found_block_view}
use Rattle.claxon_heads.specs.declared.head.Seen.{Seen}
use Rattle.claxon_heads.proofs.StreamHeads.{other_done, other_info, other_stops}
use Rattle.claxon_heads.proofs.head.read_other_block.Goals as goal

pub returns-in_err-is_last-clause-gives : goal.returns-in_err-is_last-clause-gives
returns-in_err-is_last-clause-gives g c =
    exit_with_memory (λ (x : Bool × Seen). x) (found_block_view {A = g.row.A.Denot}) _ (err_from_is_err_and c.from_residual.result c.from_residual.ensures.1)
    (consumes_none _ _ (other_stops c.args.seen _)) c.in_err-is_last.ensures.gives

pub returns-then-is_info-clause-gives : goal.returns-then-is_info-clause-gives
unfolding fault_text
returns-then-is_info-clause-gives g c =
    stops_fault SecondStreaminfo refl refl (refl, refl)
    (consumes_map _ c.in_ok-is_last.ensures.gives (λ p. other_info c.args.seen (found_block_view (c.in_ok-is_last.is_last, c.in_ok-is_last.block)) _ _ p (sym c.is_info.ensures ∙ c.if-is_info.true)))

pub returns-clause-gives : goal.returns-clause-gives
returns-clause-gives g c =
    consumes_map _ c.in_ok-is_last.ensures.gives (λ p. rw c.with.ensures (other_done c.args.seen (found_block_view (c.in_ok-is_last.is_last, c.in_ok-is_last.block)) _ _ p (sym c.is_info.ensures ∙ c.if-is_info.false)))
