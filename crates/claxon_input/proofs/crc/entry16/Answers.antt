use Rattle.std.proofs.Common.{rules}
use Rattle.claxon_input.proofs.CrcUpdate.{entry_16}
use Rattle.claxon_input.proofs.crc.entry16.Goals as goal

pub returns : goal.returns
returns c = entry_16 c.args.zeros c.args.index c.requires (search rules)
