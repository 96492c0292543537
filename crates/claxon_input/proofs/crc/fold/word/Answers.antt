use Rattle.std.proofs.Common.{rules}
use Rattle.std.proofs.lemmas.Nat.{le_bytes_8}
use Rattle.claxon_input.proofs.crc.fold.word.Goals as goal

pub returns : goal.returns
returns c = le_bytes_8 c.args.bytes.now c.from_le_bytes.result (search rules) (search rules) c.from_le_bytes.ensures
