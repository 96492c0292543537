use Rattle.std.proofs.Common.{◌-◌}
use Rattle.claxon_seek.proofs.likely.likely_header.Given as goal

abbrev pub decreases-loop-start : goal.decreases-loop-start
decreases-loop-start l = l.len - l.start
