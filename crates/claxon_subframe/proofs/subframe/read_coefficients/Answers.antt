use Rattle.std.proofs.Common.{◌≡◌, ℕ, ℤ, ap, arith, refl, rules, sym, w16, FitsSigned}
use Rattle.std.proofs.lemmas.Int.{to_z-of_z}
use Rattle.std.proofs.lemmas.Result.{err_from_is_err_and}
use Rattle.claxon_format.specs.Bits.{Bits}
use Rattle.claxon_format.specs.read.Bits.{number_at, signed_at, twos_complement}
use Rattle.claxon_format.specs.read.Reading.{Done, Incomplete}
use Rattle.claxon_input.proofs.ConsecutiveCalls.{consumes_map, failure_or_known, io_exit}
use Rattle.claxon_input.proofs.FieldLoops.{times_next, times_end, times_err}
use Rattle.claxon_subframe.proofs.subframe.read_coefficients.Goals as goal

number_is : (bits n : ℕ) (x : ℤ) (s m : Bits) → x ≡ twos_complement bits n → number_at bits s ≡ Done n m → signed_at bits s ≡ Done x m
unfolding signed_at
number_is bits n x s m is e = rw e (ap (λ (y : ℤ). Done y m) (sym is))

no_number : (bits : ℕ) (s : Bits) → number_at bits s ≡ Incomplete → signed_at bits s ≡ Incomplete
unfolding signed_at
no_number bits s e = rw e refl

pub returns-in_err-number : goal.returns-in_err-number
returns-in_err-number g c = record {
  fills_buffer =
      let p = err_from_is_err_and c.from_residual.result c.from_residual.ensures.1 in
      rw (p.1, p.2) (times_err (omega arith) c.loop-coefficient.invariant (io_exit (λ (x : ℤ). x) (_, refl, refl) (failure_or_known _ c.in_err-number.ensures.is_read (λ t. no_number c.args.precision _))));
}

pub loop-coefficient-preserved : goal.loop-coefficient-preserved
loop-coefficient-preserved g c =
    let f : FitsSigned w16 c.extend_sign_u16.result = search rules in
    rw (to_z-of_z w16 c.extend_sign_u16.result f) (times_next c.extend_sign_u16.result (omega arith) c.loop-coefficient.invariant (consumes_map _ c.in_ok-number.ensures.is_read (number_is c.args.precision c.in_ok-number.number c.extend_sign_u16.result _ _ c.extend_sign_u16.ensures)))

pub returns : goal.returns
returns g c = record { fills_buffer = times_end (omega arith) c.loop-coefficient.invariant }
