use Rattle.std.proofs.Common.{◌∙◌, [], ap, arith}
use Rattle.std.proofs.lemmas.Result.{err_from_is_err_and}
use Rattle.claxon_seek.proofs.BlockMemories.{error_counts, last_counts, none_requested}
use Rattle.claxon_recovery.specs.Budget.{unsearched_positions}
use Rattle.claxon_recovery.specs.Steps.{first_step, step_unsearched}
use Rattle.claxon_recovery.specs.declared.parts.Step.{Step}
use Rattle.claxon_recovery.proofs.Charges.{first_counted, more_unsearched, next_counted}
use Rattle.claxon_recovery.proofs.Damages.{damage_is, first_passed, next_passed, not_memory, stops_later, too_long, within_first}
use Rattle.claxon_recovery.proofs.parts.Parts.damage.Goals as goal

pub take-passed-requires : goal.take-passed-requires
take-passed-requires g c = within_first g.R.ReadBytes.source c.args.cause c.args.self.now c.args.self.now c.new.result c.new.result c.first_step.result c.first_step.ensures c.requires

pub loop-init : goal.loop-init
loop-init g c =
    let old = c.args.self.now in
    let taken = c.take-passed.ensures in
    record {
      passes = first_passed g.R.ReadBytes.source c.args.cause old c.take-passed.new.self c.new.result c.take-passed.result c.first_step.result c.first_step.ensures c.requires old.stream.has_bit_depth c.new.ensures taken.passes taken.keeps_stream taken.takes;
      memory = taken.passes.memory_is;
      counted = first_counted (unsearched_positions old.budget) _ _ _ (step_unsearched (first_step c.args.cause) 0) taken.passes.searched (taken.takes [] 0 c.new.ensures).count (ap (λ (step : Step). step_unsearched step 0) c.first_step.ensures);
    }

pub loop-preserved : goal.loop-preserved
loop-preserved g c =
    let step = c.in_ok-step.ensures.gives in
    let taken = c.take-passed-in-loop.ensures in
    record {
      passes = next_passed g.R.ReadBytes.source c.args.cause c.args.self.now c.loop.self c.search.new.self c.take-passed-in-loop.new.self c.loop.passed c.take-passed-in-loop.result c.loop.counter c.in_ok-step.step c.loop.invariant.passes step.0 step.1 step.3 taken.passes (taken.keeps_stream ∙ c.search.ensures.keeps_stream) taken.takes (step.2 c.if-step.false);
      memory = taken.passes.memory_is ∙ (c.search.ensures.memory_is_counted.granted (λ m. let k = c.in_ok-step.was in cc) ∙ c.loop.invariant.memory);
      counted = next_counted (unsearched_positions c.args.self.now.budget) (unsearched_positions c.loop.self.budget) (unsearched_positions c.search.new.self.budget) _ _ _ c.loop.invariant.passes.unsearched _ (step_unsearched c.in_ok-step.step 0) (step_unsearched (first_step c.args.cause) 0) c.loop.invariant.counted c.loop.invariant.passes.so_far.kept.count (taken.takes _ _ c.loop.invariant.passes.so_far.kept).count (more_unsearched c.in_ok-step.step c.loop.invariant.passes.unsearched) c.in_ok-step.ensures.is_counted taken.passes.searched;
    }

pub returns-then-step-clause-gives : goal.returns-then-step-clause-gives
returns-then-step-clause-gives g c =
    let step = c.in_ok-step.ensures.gives in
    let taken = c.take-passed-in-loop.ensures in
    damage_is g.R.ReadBytes.source c.args.cause c.args.self.now c.loop.self c.search.new.self c.take-passed-in-loop.new.self c.loop.passed c.take-passed-in-loop.result c.loop.counter c.in_ok-step.step c.loop.invariant.passes step.0 step.1 step.3 taken.passes (taken.keeps_stream ∙ c.search.ensures.keeps_stream) taken.takes c.if-step.true

pub returns-clause-gives : goal.returns-clause-gives
returns-clause-gives g c = too_long g.R.ReadBytes.source c.args.cause c.args.self.now c.loop.self c.loop.passed c.loop.counter c.loop.invariant.passes (omega arith) c.too_long.result

pub returns-in_err-step-clause-gives : goal.returns-in_err-step-clause-gives
returns-in_err-step-clause-gives g c =
    let p = err_from_is_err_and c.from_residual.result c.from_residual.ensures.1 in
    rw (p.1, p.2) (stops_later g.R.ReadBytes.source c.args.cause c.args.self.now c.loop.self c.loop.passed c.loop.counter c.loop.invariant.passes c.search.new.self c.in_err-step.field-0.0 c.in_err-step.ensures.gives)

pub returns-clause-memory_is_counted : goal.returns-clause-memory_is_counted
returns-clause-memory_is_counted g c = none_requested _ c.loop.invariant.memory (not_memory c.too_long.result c.too_long.ensures)

pub returns-in_err-step-clause-memory_is_counted : goal.returns-in_err-step-clause-memory_is_counted
returns-in_err-step-clause-memory_is_counted g c =
    let p = err_from_is_err_and c.from_residual.result c.from_residual.ensures.1 in
    rw (p.1, p.2) (last_counts _ c.loop.invariant.memory (error_counts c.search.result c.in_err-step.field-0.0 c.in_err-step.was c.search.ensures.memory_is_counted))

pub returns-then-step-clause-is_counted : goal.returns-then-step-clause-is_counted
returns-then-step-clause-is_counted g c =
    let taken = c.take-passed-in-loop.ensures in
    next_counted (unsearched_positions c.args.self.now.budget) (unsearched_positions c.loop.self.budget) (unsearched_positions c.search.new.self.budget) _ _ _ c.loop.invariant.passes.unsearched _ (step_unsearched c.in_ok-step.step 0) (step_unsearched (first_step c.args.cause) 0) c.loop.invariant.counted c.loop.invariant.passes.so_far.kept.count (taken.takes _ _ c.loop.invariant.passes.so_far.kept).count (more_unsearched c.in_ok-step.step c.loop.invariant.passes.unsearched) c.in_ok-step.ensures.is_counted taken.passes.searched

pub returns-then-step-clause-memory_is_counted : goal.returns-then-step-clause-memory_is_counted
returns-then-step-clause-memory_is_counted g c = none_requested _ (c.take-passed-in-loop.ensures.passes.memory_is ∙ (c.search.ensures.memory_is_counted.granted (λ m. let k = c.in_ok-step.was in cc) ∙ c.loop.invariant.memory)) (λ m. cc)
