use Rattle.std.proofs.Common.{rules}
use Rattle.claxon_input.proofs.Sources.{failure_or_eof_with_value, on_err}
use Rattle.claxon_input.proofs.running.RunningReaderReadBytes.read_into.Goals as goal

pub returns-in_err-read_into-clause-failure_or_eof : goal.returns-in_err-read_into-clause-failure_or_eof
returns-in_err-read_into-clause-failure_or_eof g c = on_err c.from_residual.result (failure_or_eof_with_value (g.S.Running.update c.args.self.now.state) c.in_err-read_into.ensures.failure_or_eof)

pub returns-clause-are_sound : goal.returns-clause-are_sound
returns-clause-are_sound g c = search rules
