use Rattle.std.proofs.Common.{arith}
use Rattle.std.proofs.lemmas.Grind.{common_steps}
use Rattle.claxon_verdict.proofs.text.frame_text.Goals as goal

pub returns-then-is_negative_shift : goal.returns-then-is_negative_shift
returns-then-is_negative_shift c = grind (arith, common_steps)

pub returns : goal.returns
returns c = grind (arith, common_steps)
