use Rattle.std.proofs.Common.{take}
use Rattle.std.specs.Prelude.{All, IsTrue, ◌↔◌}
use Rattle.claxon.specs.Bits.{FitsIn}
use Rattle.claxon_blocks.proofs.fit.all_fit.Given as goal

abbrev pub invariant-loop-i : goal.invariant-loop-i
invariant-loop-i l = IsTrue l.fit ↔ All (FitsIn l.bit_depth) (take l.i l.samples)
