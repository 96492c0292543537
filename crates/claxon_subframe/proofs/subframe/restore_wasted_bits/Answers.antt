use Rattle.std.proofs.Common.{get_or, pos, rules, FitsSigned, w32, arith}
use Rattle.claxon_format.specs.Subframe.{scaled}
use Rattle.claxon_subframe.proofs.WastedBits.{scaled_is, mapped_more}
use Rattle.claxon_subframe.proofs.subframe.restore_wasted_bits.Goals as goal

pub loop-sample-preserved : goal.loop-sample-preserved
loop-sample-preserved c =
    let f : FitsSigned w32 (get_or c.loop-sample.buffer c.loop-sample.sample-index (pos 0)) = search rules in
    let p = mapped_more (scaled c.args.wasted) c.args.buffer.now c.loop-sample.buffer c.loop-sample.sample-index _ (omega arith) (omega arith) c.loop-sample.invariant.done c.loop-sample.invariant.rest (scaled_is _ c.args.wasted f c.requires) in
    record { done = p.0; rest = p.1 }
