use Rattle.std.proofs.Common.{rules, arith}
use Rattle.claxon_input.proofs.BitSteps.{gathered}
use Rattle.claxon_input.proofs.bits.Bitstream.gather_buffered.Goals as goal

pub loop-count-preserved : goal.loop-count-preserved
loop-count-preserved g c =
    let n = gathered c.loop-count.cache c.loop-count.count c.in-Some.byte c.loop-count.invariant.fits (omega arith) (search rules) c.loop-count.invariant.same c.in-Some.ensures.is_sound in
    record { none_early = omega arith; fits = n.0; same = n.1 }
