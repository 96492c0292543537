use Rattle.std.proofs.Common.{rules}
use Rattle.claxon_input.proofs.input.BufferedReader.buffered_bytes.Goals as goal

pub returns : goal.returns
returns g c = search rules
