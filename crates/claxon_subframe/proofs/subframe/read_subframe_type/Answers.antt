use Rattle.std.proofs.Common.{rules, refl}
use Rattle.std.proofs.lemmas.Result.{err_from_is_err_and}
use Rattle.claxon_format.specs.read.Subframe.{type_at}
use Rattle.claxon_format.specs.Fault.{fault_text}
use Rattle.claxon_input.proofs.ConsecutiveCalls.{io_exit, failure_or_after}
use Rattle.claxon_subframe.proofs.subframe.read_subframe_type.Goals as goal

pub returns-then-branch-clause-gives : goal.returns-then-branch-clause-gives
unfolding type_at fault_text
returns-then-branch-clause-gives g c = search rules

pub returns-in_err-read_leq_u8-clause-gives : goal.returns-in_err-read_leq_u8-clause-gives
unfolding type_at
returns-in_err-read_leq_u8-clause-gives g c =
    io_exit _ (err_from_is_err_and c.from_residual-in_err-read_leq_u8.result c.from_residual-in_err-read_leq_u8.ensures.1)
    (failure_or_after _ c.in_ok-read_bit.ensures.is_read c.in_err-read_leq_u8.ensures.is_read (λ p q. rw (p, c.if-branch.false, q) refl))
