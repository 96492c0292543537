use Rattle.std.proofs.Common.{arith}
use Rattle.std.proofs.lemmas.Grind.{common_steps}
use Rattle.claxon_input.proofs.Sources.{source_failure_with_value, meets_eof_with_value, on_err}
use Rattle.claxon_input.proofs.running.RunningReaderReadBytes.read_u8_or_eof.Goals as goal

pub returns-in_err-found-clause-failure : goal.returns-in_err-found-clause-failure
returns-in_err-found-clause-failure g c = on_err c.from_residual.result (source_failure_with_value (g.S.Running.update c.args.self.now.state) c.in_err-found.ensures.failure)

pub returns-in_default-clause-eof_is_sound : goal.returns-in_default-clause-eof_is_sound
returns-in_default-clause-eof_is_sound g c = rw c.in_default.is (meets_eof_with_value (g.S.Running.update c.args.self.now.state) (rw c.in_default.is at c.in_ok-found.ensures.eof_is_sound))

pub returns-in-Some-clause-eof_is_sound : goal.returns-in-Some-clause-eof_is_sound
returns-in-Some-clause-eof_is_sound g c = grind (arith, common_steps)
