use Rattle.std.proofs.Common.{rules}
use Rattle.claxon_input.proofs.error.ErrorFromFromUtf8Error.from.Goals as goal

pub returns : goal.returns
returns g c = search rules
