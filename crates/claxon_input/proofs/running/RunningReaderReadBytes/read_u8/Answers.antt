use Rattle.claxon_input.proofs.Sources.{failure_or_eof_with_value, on_err}
use Rattle.claxon_input.proofs.running.RunningReaderReadBytes.read_u8.Goals as goal

pub returns-in_err-byte-clause-failure_or_eof : goal.returns-in_err-byte-clause-failure_or_eof
returns-in_err-byte-clause-failure_or_eof g c = on_err c.from_residual.result (failure_or_eof_with_value (g.S.Running.update c.args.self.now.state) c.in_err-byte.ensures.failure_or_eof)
