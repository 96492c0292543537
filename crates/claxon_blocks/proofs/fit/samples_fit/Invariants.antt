use Rattle.std.proofs.Common.{take}
use Rattle.std.specs.Prelude.{All, IsTrue, ◌↔◌}
use Rattle.claxon.specs.Bits.{FitsIn}
use Rattle.claxon_blocks.proofs.fit.samples_fit.Given as goal

abbrev pub invariant-loop-channel : goal.invariant-loop-channel
invariant-loop-channel g l = IsTrue l.fit ↔ All (All (FitsIn l.bit_depth)) (take l.channel l.block.channels)
