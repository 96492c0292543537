use Rattle.std.proofs.Common.{◌+◌, ◌-◌, ◌*◌, reverse, refl, arith}
use Rattle.std.proofs.lemmas.List.{length-take}
use Rattle.claxon_subframe.specs.Pairs.{ArePairCoefficients, ArePendingSums16}
use Rattle.claxon_subframe.specs.PredictorState.{StandsAt}
use Rattle.claxon_subframe.proofs.PendingSums.{fit_vectors}
use Rattle.claxon_subframe.proofs.Pairs.{reversed_small}
use Rattle.claxon_subframe.proofs.RestoreLoopByTwo.{newest_of}
use Rattle.claxon_subframe.proofs.subframe.predictor.pairs.predict_pairs.Goals as goal

pub first_sums-requires-clause-even : goal.first_sums-requires-clause-even
first_sums-requires-clause-even g c = omega (arith, length-take (4 * g.row.VECTORS + 4) c.args.buffer.now)

pub returns-in_default-clause-restored : goal.returns-in_default-clause-restored
returns-in_default-clause-restored g c = refl

pub returns-clause-restored : goal.returns-clause-restored
returns-clause-restored g c =
    let n = 4 * g.row.VECTORS + 4 in
    let are : ArePairCoefficients g.row.VECTORS c.pair_taps_of.result (reverse c.args.padded.now) = record {
      pairs = c.pair_taps_of.ensures.are_pair_taps;
      fit = fit_vectors c.args.padded.now 32 g.row.VECTORS (28 - 4 * g.row.VECTORS) c.told-padded (omega arith) c.requires.zeros;
      small = reversed_small c.args.padded.now 65536 c.requires.magnitude;
    } in
    let stands : StandsAt (ArePendingSums16 (reverse c.args.padded.now)) c.args.buffer.now (4 * g.row.VECTORS + 4) (record { newest = c.of-newest.result; sums = c.in-Some.sums }) = record {
      newest = newest_of c.args.buffer.now n _ _ _ c.of-newest.ensures.are_newest (omega arith);
      sums = c.in-Some.ensures.pending (reverse c.args.padded.now) are;
    } in
    c.restore_front.ensures.restores_front (reverse c.args.padded.now) are c.newest_coefficients-last.ensures.are_newest stands
