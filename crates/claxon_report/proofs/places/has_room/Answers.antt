use Rattle.std.proofs.Common.{arith}
use Rattle.std.proofs.lemmas.Grind.{common_steps}
use Rattle.claxon_report.proofs.places.has_room.Goals as goal

pub returns-then-not-is_full : goal.returns-then-not-is_full
returns-then-not-is_full c = grind (arith, common_steps)

pub returns-else-not-is_full : goal.returns-else-not-is_full
returns-else-not-is_full c = grind (arith, common_steps)
