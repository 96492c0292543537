use Rattle.std.proofs.Common.{◌≡◌, take}
use Rattle.claxon_uses.specs.Peak.{greatest}
use Rattle.claxon_uses.proofs.blocks.greatest.Given as goal

abbrev pub invariant-loop-i : goal.invariant-loop-i
invariant-loop-i l = l.greatest ≡ greatest (take l.i l.samples)
