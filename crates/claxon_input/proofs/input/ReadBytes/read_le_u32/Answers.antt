use Rattle.std.proofs.Common.{rules, arith}
use Rattle.claxon_input.proofs.Sources.{takes_both, failure_or_eof_after, on_err}
use Rattle.claxon_input.proofs.BigEndian.{le_4}
use Rattle.claxon_input.proofs.input.ReadBytes.read_le_u32.Goals as goal

pub returns-in_err-b1-clause-failure_or_eof : goal.returns-in_err-b1-clause-failure_or_eof
returns-in_err-b1-clause-failure_or_eof g c = on_err c.from_residual-in_err-b1.result (failure_or_eof_after 4 1 c.in_ok-b0.ensures.is_sound (omega arith) c.in_err-b1.ensures.failure_or_eof)

pub returns-in_err-b2-clause-failure_or_eof : goal.returns-in_err-b2-clause-failure_or_eof
returns-in_err-b2-clause-failure_or_eof g c = on_err c.from_residual-in_err-b2.result (failure_or_eof_after 4 1 (takes_both c.in_ok-b0.ensures.is_sound c.in_ok-b1.ensures.is_sound) (omega arith) c.in_err-b2.ensures.failure_or_eof)

pub returns-in_err-b3-clause-failure_or_eof : goal.returns-in_err-b3-clause-failure_or_eof
returns-in_err-b3-clause-failure_or_eof g c = on_err c.from_residual-in_err-b3.result (failure_or_eof_after 4 1 (takes_both (takes_both c.in_ok-b0.ensures.is_sound c.in_ok-b1.ensures.is_sound) c.in_ok-b2.ensures.is_sound) (omega arith) c.in_err-b3.ensures.failure_or_eof)

pub returns-clause-is_sound : goal.returns-clause-is_sound
returns-clause-is_sound g c = rw (le_4 c.in_ok-b0.field-0 c.in_ok-b1.field-0 c.in_ok-b2.field-0 c.in_ok-b3.field-0 (search rules) (search rules) (search rules) (search rules)) (takes_both (takes_both (takes_both c.in_ok-b0.ensures.is_sound c.in_ok-b1.ensures.is_sound) c.in_ok-b2.ensures.is_sound) c.in_ok-b3.ensures.is_sound)
