use Rattle.std.proofs.Common.{◌≡◌, false, eqb, refl, arith, rules}
use Rattle.std.proofs.lemmas.Bool.Decides.{nat_tests}
use Rattle.std.proofs.lemmas.Result.{err_from_is_err_and}
use Rattle.claxon_input.proofs.ConsecutiveCalls.{io_exit, failure_or_after}
use Rattle.claxon_format.specs.read.Subframe.{parameters_at}
use Rattle.claxon_subframe.specs.SubframeFields.{parameters_of}
use Rattle.claxon_format.specs.Fault.{fault_text}
use Rattle.claxon_subframe.proofs.subframe.read_lpc_parameters.Goals as goal

pub returns-in_err-read_leq_u8-2-clause-gives : goal.returns-in_err-read_leq_u8-2-clause-gives
unfolding parameters_at
returns-in_err-read_leq_u8-2-clause-gives g c =
    let fine : eqb c.in_ok-read_leq_u8.field-0 15 ≡ false = grind (arith, nat_tests) in
    io_exit parameters_of (err_from_is_err_and c.from_residual-in_err-read_leq_u8-2.result c.from_residual-in_err-read_leq_u8-2.ensures.1)
    (failure_or_after _ c.in_ok-read_leq_u8.ensures.is_read c.in_err-read_leq_u8-2.ensures.is_read (λ p q. rw (p, fine, q) refl))

pub returns-clause-gives : goal.returns-clause-gives
unfolding parameters_at fault_text
returns-clause-gives g c = search rules
