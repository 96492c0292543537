use Rattle.std.proofs.Common.{◌+◌, ◌-◌, ◌*◌, reverse, arith}
use Rattle.std.proofs.lemmas.List.{length-take}
use Rattle.claxon_subframe.specs.PendingSums.{ArePendingSums, AreTaps, FitVectors}
use Rattle.claxon_subframe.specs.PredictorState.{StandsAt}
use Rattle.claxon_subframe.proofs.PendingSums.{are_last, fit_vectors}
use Rattle.claxon_subframe.proofs.RestoreLoopByTwo.{newest_of}
use Rattle.claxon_subframe.proofs.subframe.predictor.high_order.predict_32_taps.Goals as goal

pub first_sums-requires-clause-even : goal.first_sums-requires-clause-even
first_sums-requires-clause-even g c = omega (arith, length-take (4 * g.row.VECTORS + 4) c.args.buffer.now)

pub returns-clause-restored : goal.returns-clause-restored
returns-clause-restored g c =
    let n = 4 * g.row.VECTORS + 4 in
    let fit = fit_vectors c.args.padded.now 32 g.row.VECTORS (28 - 4 * g.row.VECTORS) c.told-padded (omega arith) c.requires.zeros in
    let are : AreTaps (reverse c.args.padded.now) c.taps_of.result × FitVectors g.row.VECTORS (reverse c.args.padded.now) = (c.taps_of.ensures.are_taps, fit) in
    let stands : StandsAt (ArePendingSums (reverse c.args.padded.now)) c.args.buffer.now (4 * g.row.VECTORS + 4) (record { newest = c.of-newest.result; sums = c.in-Some.sums }) = record {
      newest = newest_of c.args.buffer.now n _ _ _ c.of-newest.ensures.are_newest (omega arith);
      sums = c.in-Some.ensures.pending (reverse c.args.padded.now) are;
    } in
    c.restore_front.ensures.restores_front (reverse c.args.padded.now) are (are_last c.args.padded.now c.told-padded c.requires.within) stands
