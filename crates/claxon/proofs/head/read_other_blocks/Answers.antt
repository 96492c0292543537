use Rattle.std.proofs.Common.{◌≡◌, Bool, true, false, Err, refl, ap, ◌∙◌, arith, rules}
use Rattle.std.specs.Prelude.{◌&&◌, ◌||◌}
use Rattle.std.specs.Option.{is_some}
use Rattle.std.proofs.lemmas.Result.{err_from_is_err_and}
use Rattle.claxon_format.specs.Fault.{fault_text, TooManyBlocks}
use Rattle.claxon_input.specs.declared.error.Error.{Error}
use Rattle.claxon.specs.ReadHead.{found_view, other_view}
use Rattle.claxon_input.proofs.Faults.{stops_fault}
use Rattle.claxon.proofs.HeadMemory.{out_of_memory_after_blocks}
use Rattle.claxon.proofs.HeadParts.{is_found, others_next, others_done, others_stop, others_too_many}
use Rattle.claxon_input.proofs.Memory.{exit_with_memory}
use Rattle.claxon.proofs.head.read_other_blocks.Goals as goal

pub returns-in_err-is_last-clause-out_of_memory_after_blocks : goal.returns-in_err-is_last-clause-out_of_memory_after_blocks
returns-in_err-is_last-clause-out_of_memory_after_blocks g c =
    out_of_memory_after_blocks _ _ (err_from_is_err_and c.from_residual.result c.from_residual.ensures.1) c.loop-most.invariant.read.consumed_blocks (λ q. c.in_err-is_last.ensures.out_of_memory_after_block_header (ap (λ (z : Error). Err z) q))

pub returns-in_err-is_last-clause-gives : goal.returns-in_err-is_last-clause-gives
returns-in_err-is_last-clause-gives g c =
    exit_with_memory (found_view {A = g.row.A.Denot}) (other_view {A = g.row.A.Denot}) _ (err_from_is_err_and c.from_residual.result c.from_residual.ensures.1)
    (others_stop (omega (arith, c.loop-most-test.true)) c.loop-most.invariant.read) c.in_err-is_last.ensures.gives

pub returns-then-is_last-clause-gives : goal.returns-then-is_last-clause-gives
returns-then-is_last-clause-gives g c =
    let enough : (c.in_ok-is_last.is_last || (c.args.comments_suffice && is_some c.in_ok-is_last.with_block)) ≡ true = search rules in
    let e = ap (λ (z : Bool). c.in_ok-is_last.is_last || (c.args.comments_suffice && z)) (is_found c.in_ok-is_last.with_block) ∙ enough in
    others_done c.in_ok-is_last.is_last (found_view c.in_ok-is_last.with_block) (omega (arith, c.loop-most-test.true)) e c.loop-most.invariant.read c.in_ok-is_last.ensures.gives

pub loop-most-preserved : goal.loop-most-preserved
loop-most-preserved g c =
    let more : (c.in_ok-is_last.is_last || (c.args.comments_suffice && is_some c.in_ok-is_last.with_block)) ≡ false = search rules in
    let e = ap (λ (z : Bool). c.in_ok-is_last.is_last || (c.args.comments_suffice && z)) (is_found c.in_ok-is_last.with_block) ∙ more in
    record {
      places = c.in_ok-is_last.ensures.places;
      read = others_next c.in_ok-is_last.is_last (found_view c.in_ok-is_last.with_block) (omega (arith, c.loop-most-test.true)) e c.loop-most.invariant.read c.in_ok-is_last.ensures.gives;
    }

pub returns-clause-gives : goal.returns-clause-gives
unfolding fault_text
returns-clause-gives g c = stops_fault TooManyBlocks refl refl (refl, refl) (others_too_many (omega (arith, c.loop-most-test.false)) c.loop-most.invariant.read)

pub loop-most-init : goal.loop-most-init
loop-most-init g c = search rules
