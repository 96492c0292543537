use Rattle.std.proofs.Common.{arith}
use Rattle.std.proofs.lemmas.Grind.{common_steps}
use Rattle.claxon_wav.proofs.conversion.Conversion.md5_mismatch.Goals as goal

pub returns-in-Wrong : goal.returns-in-Wrong
returns-in-Wrong c = grind (arith, common_steps)
