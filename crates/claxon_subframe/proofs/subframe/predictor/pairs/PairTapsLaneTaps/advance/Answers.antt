use Rattle.std.proofs.Common.{arith}
use Rattle.std.proofs.lemmas.Bool.{ltb-false}
use Rattle.claxon_subframe.proofs.PendingSums.{four_pending_none, nearest_lanes_advanced}
use Rattle.claxon_subframe.proofs.Pairs.{kept_fit_16, kept_fit_32, lanes_16_are, lanes_32_are, shifted_by, pair_is, fit_two, later_pairs_advanced}
use Rattle.claxon_subframe.proofs.subframe.predictor.pairs.PairTapsLaneTaps.advance.Goals as goal

pub shift_two_lanes-requires-clause-before : goal.shift_two_lanes-requires-clause-before
shift_two_lanes-requires-clause-before g c = kept_fit_32 c.requires.sums.later.at_4

pub shift_two_lanes-requires-clause-lanes : goal.shift_two_lanes-requires-clause-lanes
shift_two_lanes-requires-clause-lanes g c = kept_fit_32 c.requires.sums.at_0

pub advance_lanes-requires-clause-before : goal.advance_lanes-requires-clause-before
advance_lanes-requires-clause-before g c = kept_fit_32 c.requires.sums.later.at_8

pub advance_lanes-requires-clause-sums : goal.advance_lanes-requires-clause-sums
advance_lanes-requires-clause-sums g c = kept_fit_32 c.requires.sums.later.at_4

pub advance_lanes-requires-clause-taps : goal.advance_lanes-requires-clause-taps
advance_lanes-requires-clause-taps g c = kept_fit_16 c.requires.taps.at_4

pub advance_lanes-requires-2-clause-before : goal.advance_lanes-requires-2-clause-before
advance_lanes-requires-2-clause-before g c = kept_fit_32 c.requires.sums.later.at_12

pub advance_lanes-requires-2-clause-sums : goal.advance_lanes-requires-2-clause-sums
advance_lanes-requires-2-clause-sums g c = kept_fit_32 c.requires.sums.later.at_8

pub advance_lanes-requires-2-clause-taps : goal.advance_lanes-requires-2-clause-taps
advance_lanes-requires-2-clause-taps g c = kept_fit_16 c.requires.taps.at_8

pub advance_lanes-requires-3-clause-before : goal.advance_lanes-requires-3-clause-before
advance_lanes-requires-3-clause-before g c = kept_fit_32 c.requires.sums.later.at_16

pub advance_lanes-requires-3-clause-sums : goal.advance_lanes-requires-3-clause-sums
advance_lanes-requires-3-clause-sums g c = kept_fit_32 c.requires.sums.later.at_12

pub advance_lanes-requires-3-clause-taps : goal.advance_lanes-requires-3-clause-taps
advance_lanes-requires-3-clause-taps g c = kept_fit_16 c.requires.taps.at_12

pub advance_lanes-requires-4-clause-before : goal.advance_lanes-requires-4-clause-before
advance_lanes-requires-4-clause-before g c = kept_fit_32 c.requires.sums.later.at_20

pub advance_lanes-requires-4-clause-sums : goal.advance_lanes-requires-4-clause-sums
advance_lanes-requires-4-clause-sums g c = kept_fit_32 c.requires.sums.later.at_16

pub advance_lanes-requires-4-clause-taps : goal.advance_lanes-requires-4-clause-taps
advance_lanes-requires-4-clause-taps g c = kept_fit_16 c.requires.taps.at_16

pub advance_lanes-requires-5-clause-before : goal.advance_lanes-requires-5-clause-before
advance_lanes-requires-5-clause-before g c = kept_fit_32 c.requires.sums.later.at_24

pub advance_lanes-requires-5-clause-sums : goal.advance_lanes-requires-5-clause-sums
advance_lanes-requires-5-clause-sums g c = kept_fit_32 c.requires.sums.later.at_20

pub advance_lanes-requires-5-clause-taps : goal.advance_lanes-requires-5-clause-taps
advance_lanes-requires-5-clause-taps g c = kept_fit_16 c.requires.taps.at_20

pub advance_lanes-requires-6-clause-before : goal.advance_lanes-requires-6-clause-before
advance_lanes-requires-6-clause-before g c = kept_fit_32 c.requires.sums.later.at_28

pub advance_lanes-requires-6-clause-sums : goal.advance_lanes-requires-6-clause-sums
advance_lanes-requires-6-clause-sums g c = kept_fit_32 c.requires.sums.later.at_24

pub advance_lanes-requires-6-clause-taps : goal.advance_lanes-requires-6-clause-taps
advance_lanes-requires-6-clause-taps g c = kept_fit_16 c.requires.taps.at_24

pub advance_lanes-requires-7-clause-sums : goal.advance_lanes-requires-7-clause-sums
advance_lanes-requires-7-clause-sums g c = kept_fit_32 c.requires.sums.later.at_28

pub advance_lanes-requires-7-clause-taps : goal.advance_lanes-requires-7-clause-taps
advance_lanes-requires-7-clause-taps g c = kept_fit_16 c.requires.taps.at_28

pub returns-clause-pending : goal.returns-clause-pending
returns-clause-pending g c = λ ks past are old.
    let pair = pair_is c.args.one c.args.two c.pair_lanes-pair.result c.requires.one c.requires.two c.pair_lanes-pair.ensures in
    let small = fit_two c.args.one c.args.two c.requires.one c.requires.two old.small in
    let on = later_pairs_advanced ks past c.args.one c.args.two g.row.VECTORS are.fit are.small small pair in
    record {
      small = small;
      pending = record {
        at_0 = nearest_lanes_advanced ks past c.args.one c.args.two _ (shifted_by c.requires.sums.later.at_4 c.requires.sums.at_0 c.shift_two_lanes.ensures.fits c.shift_two_lanes.ensures.value) old.pending.later.at_4 old.pending.at_0;
        later = record {
          at_4 = on 4 _ _ _ _ c.advance_lanes.result (omega arith) (λ h. absurd cc) c.advance_lanes.ensures.value c.advance_lanes.ensures.zeros (lanes_32_are c.requires.sums.later.at_8 old.pending.later.at_8) (lanes_32_are c.requires.sums.later.at_4 old.pending.later.at_4) (lanes_16_are c.requires.taps.at_4 are.pairs.at_4);
          at_8 = on 8 _ _ _ _ c.advance_lanes-2.result (omega arith) (λ h. absurd cc) c.advance_lanes-2.ensures.value c.advance_lanes-2.ensures.zeros (lanes_32_are c.requires.sums.later.at_12 old.pending.later.at_12) (lanes_32_are c.requires.sums.later.at_8 old.pending.later.at_8) (lanes_16_are c.requires.taps.at_8 are.pairs.at_8);
          at_12 = on 12 _ _ _ _ c.advance_lanes-3.result (omega arith) (λ h. omega (arith, ltb-false)) c.advance_lanes-3.ensures.value c.advance_lanes-3.ensures.zeros (lanes_32_are c.requires.sums.later.at_16 old.pending.later.at_16) (lanes_32_are c.requires.sums.later.at_12 old.pending.later.at_12) (lanes_16_are c.requires.taps.at_12 are.pairs.at_12);
          at_16 = on 16 _ _ _ _ c.advance_lanes-4.result (omega arith) (λ h. omega (arith, ltb-false)) c.advance_lanes-4.ensures.value c.advance_lanes-4.ensures.zeros (lanes_32_are c.requires.sums.later.at_20 old.pending.later.at_20) (lanes_32_are c.requires.sums.later.at_16 old.pending.later.at_16) (lanes_16_are c.requires.taps.at_16 are.pairs.at_16);
          at_20 = on 20 _ _ _ _ c.advance_lanes-5.result (omega arith) (λ h. omega (arith, ltb-false)) c.advance_lanes-5.ensures.value c.advance_lanes-5.ensures.zeros (lanes_32_are c.requires.sums.later.at_24 old.pending.later.at_24) (lanes_32_are c.requires.sums.later.at_20 old.pending.later.at_20) (lanes_16_are c.requires.taps.at_20 are.pairs.at_20);
          at_24 = on 24 _ _ _ _ c.advance_lanes-6.result (omega arith) (λ h. omega (arith, ltb-false)) c.advance_lanes-6.ensures.value c.advance_lanes-6.ensures.zeros (lanes_32_are c.requires.sums.later.at_28 old.pending.later.at_28) (lanes_32_are c.requires.sums.later.at_24 old.pending.later.at_24) (lanes_16_are c.requires.taps.at_24 are.pairs.at_24);
          at_28 = on 28 _ _ _ _ c.advance_lanes-7.result (omega arith) (λ h. omega (arith, ltb-false)) c.advance_lanes-7.ensures.value c.advance_lanes-7.ensures.zeros (four_pending_none ks past 32 (omega arith) are.pairs.long) (lanes_32_are c.requires.sums.later.at_28 old.pending.later.at_28) (lanes_16_are c.requires.taps.at_28 are.pairs.at_28);
        };
      };
    }

pub returns-clause-fit : goal.returns-clause-fit
returns-clause-fit g c = record {
  at_0 = kept_fit_32 c.shift_two_lanes.ensures.fits;
  later = record { at_4 = kept_fit_32 c.advance_lanes.ensures.fits; at_8 = kept_fit_32 c.advance_lanes-2.ensures.fits; at_12 = kept_fit_32 c.advance_lanes-3.ensures.fits; at_16 = kept_fit_32 c.advance_lanes-4.ensures.fits; at_20 = kept_fit_32 c.advance_lanes-5.ensures.fits; at_24 = kept_fit_32 c.advance_lanes-6.ensures.fits; at_28 = kept_fit_32 c.advance_lanes-7.ensures.fits };
}
