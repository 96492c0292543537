use Rattle.std.proofs.Common.{arith}
use Rattle.std.proofs.lemmas.Grind.{common_steps}
use Rattle.claxon_wav.proofs.header.Layout.data_size.Goals as goal

pub returns-then-size-from : goal.returns-then-size-from
returns-then-size-from c = grind (arith, common_steps)
