use Rattle.std.proofs.Common.{arith}
use Rattle.std.proofs.lemmas.Grind.{common_steps}
use Rattle.claxon_stream.proofs.finder.FrameFinder.is_worth_a_try.Goals as goal

pub returns-then-not-suffices_for : goal.returns-then-not-suffices_for
returns-then-not-suffices_for c = grind (arith, common_steps)

pub returns : goal.returns
returns c = grind (arith, common_steps)
