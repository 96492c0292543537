use Rattle.std.proofs.Common.{◌≡◌, take}
use Rattle.claxon_uses.specs.Peak.{peak_of}
use Rattle.claxon_uses.proofs.blocks.block_peak.Given as goal

abbrev pub invariant-loop-ch : goal.invariant-loop-ch
invariant-loop-ch g l = l.peak ≡ peak_of (take l.ch l.block.channels)
