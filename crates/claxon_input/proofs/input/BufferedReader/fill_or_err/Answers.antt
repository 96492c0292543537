use Rattle.claxon_input.proofs.Sources.{failure_is_failure_or_eof, on_err}
use Rattle.claxon_input.proofs.input.BufferedReader.fill_or_err.Goals as goal

pub returns-in_err-fill-clause-failure_or_eof : goal.returns-in_err-fill-clause-failure_or_eof
returns-in_err-fill-clause-failure_or_eof g c = on_err c.from_residual.result (failure_is_failure_or_eof 1 c.in_err-fill.ensures.failure)
