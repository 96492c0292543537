use Rattle.std.proofs.Common.{arith}
use Rattle.std.proofs.lemmas.Bool.{ltb-false}
use Rattle.claxon_subframe.proofs.Lanes.{kept_lanes, kept_fit_64, moved_by}
use Rattle.claxon_subframe.proofs.PendingSums.{later_lanes_advanced, four_pending_none, nearest_lanes_advanced, lanes_64_are, sample_lanes, taps_are}
use Rattle.claxon_subframe.proofs.subframe.predictor.high_order.HighOrderTapsLaneTaps.advance.Goals as goal

pub advance_lanes-requires-clause-before : goal.advance_lanes-requires-clause-before
advance_lanes-requires-clause-before g c = kept_fit_64 c.requires.sums.later.at_8

pub advance_lanes-requires-clause-sums : goal.advance_lanes-requires-clause-sums
advance_lanes-requires-clause-sums g c = kept_fit_64 c.requires.sums.later.at_4

pub advance_lanes-requires-clause-for_second : goal.advance_lanes-requires-clause-for_second
advance_lanes-requires-clause-for_second g c = kept_lanes (omega arith) c.requires.taps.second.at_4

pub advance_lanes-requires-clause-for_newest : goal.advance_lanes-requires-clause-for_newest
advance_lanes-requires-clause-for_newest g c = kept_lanes (omega arith) c.requires.taps.newest.at_4

pub advance_lanes-requires-2-clause-before : goal.advance_lanes-requires-2-clause-before
advance_lanes-requires-2-clause-before g c = kept_fit_64 c.requires.sums.later.at_12

pub advance_lanes-requires-2-clause-sums : goal.advance_lanes-requires-2-clause-sums
advance_lanes-requires-2-clause-sums g c = kept_fit_64 c.requires.sums.later.at_8

pub advance_lanes-requires-2-clause-for_second : goal.advance_lanes-requires-2-clause-for_second
advance_lanes-requires-2-clause-for_second g c = kept_lanes (omega arith) c.requires.taps.second.at_8

pub advance_lanes-requires-2-clause-for_newest : goal.advance_lanes-requires-2-clause-for_newest
advance_lanes-requires-2-clause-for_newest g c = kept_lanes (omega arith) c.requires.taps.newest.at_8

pub advance_lanes-requires-3-clause-before : goal.advance_lanes-requires-3-clause-before
advance_lanes-requires-3-clause-before g c = kept_fit_64 c.requires.sums.later.at_16

pub advance_lanes-requires-3-clause-sums : goal.advance_lanes-requires-3-clause-sums
advance_lanes-requires-3-clause-sums g c = kept_fit_64 c.requires.sums.later.at_12

pub advance_lanes-requires-3-clause-for_second : goal.advance_lanes-requires-3-clause-for_second
advance_lanes-requires-3-clause-for_second g c = kept_lanes (omega arith) c.requires.taps.second.at_12

pub advance_lanes-requires-3-clause-for_newest : goal.advance_lanes-requires-3-clause-for_newest
advance_lanes-requires-3-clause-for_newest g c = kept_lanes (omega arith) c.requires.taps.newest.at_12

pub advance_lanes-requires-4-clause-before : goal.advance_lanes-requires-4-clause-before
advance_lanes-requires-4-clause-before g c = kept_fit_64 c.requires.sums.later.at_20

pub advance_lanes-requires-4-clause-sums : goal.advance_lanes-requires-4-clause-sums
advance_lanes-requires-4-clause-sums g c = kept_fit_64 c.requires.sums.later.at_16

pub advance_lanes-requires-4-clause-for_second : goal.advance_lanes-requires-4-clause-for_second
advance_lanes-requires-4-clause-for_second g c = kept_lanes (omega arith) c.requires.taps.second.at_16

pub advance_lanes-requires-4-clause-for_newest : goal.advance_lanes-requires-4-clause-for_newest
advance_lanes-requires-4-clause-for_newest g c = kept_lanes (omega arith) c.requires.taps.newest.at_16

pub advance_lanes-requires-5-clause-before : goal.advance_lanes-requires-5-clause-before
advance_lanes-requires-5-clause-before g c = kept_fit_64 c.requires.sums.later.at_24

pub advance_lanes-requires-5-clause-sums : goal.advance_lanes-requires-5-clause-sums
advance_lanes-requires-5-clause-sums g c = kept_fit_64 c.requires.sums.later.at_20

pub advance_lanes-requires-5-clause-for_second : goal.advance_lanes-requires-5-clause-for_second
advance_lanes-requires-5-clause-for_second g c = kept_lanes (omega arith) c.requires.taps.second.at_20

pub advance_lanes-requires-5-clause-for_newest : goal.advance_lanes-requires-5-clause-for_newest
advance_lanes-requires-5-clause-for_newest g c = kept_lanes (omega arith) c.requires.taps.newest.at_20

pub advance_lanes-requires-6-clause-before : goal.advance_lanes-requires-6-clause-before
advance_lanes-requires-6-clause-before g c = kept_fit_64 c.requires.sums.later.at_28

pub advance_lanes-requires-6-clause-sums : goal.advance_lanes-requires-6-clause-sums
advance_lanes-requires-6-clause-sums g c = kept_fit_64 c.requires.sums.later.at_24

pub advance_lanes-requires-6-clause-for_second : goal.advance_lanes-requires-6-clause-for_second
advance_lanes-requires-6-clause-for_second g c = kept_lanes (omega arith) c.requires.taps.second.at_24

pub advance_lanes-requires-6-clause-for_newest : goal.advance_lanes-requires-6-clause-for_newest
advance_lanes-requires-6-clause-for_newest g c = kept_lanes (omega arith) c.requires.taps.newest.at_24

pub advance_lanes-requires-7-clause-sums : goal.advance_lanes-requires-7-clause-sums
advance_lanes-requires-7-clause-sums g c = kept_fit_64 c.requires.sums.later.at_28

pub advance_lanes-requires-7-clause-for_second : goal.advance_lanes-requires-7-clause-for_second
advance_lanes-requires-7-clause-for_second g c = kept_lanes (omega arith) c.requires.taps.second.at_28

pub advance_lanes-requires-7-clause-for_newest : goal.advance_lanes-requires-7-clause-for_newest
advance_lanes-requires-7-clause-for_newest g c = kept_lanes (omega arith) c.requires.taps.newest.at_28

pub shift_two_lanes-requires-clause-before : goal.shift_two_lanes-requires-clause-before
shift_two_lanes-requires-clause-before g c = kept_fit_64 c.requires.sums.later.at_4

pub shift_two_lanes-requires-clause-lanes : goal.shift_two_lanes-requires-clause-lanes
shift_two_lanes-requires-clause-lanes g c = kept_fit_64 c.requires.sums.at_0

pub returns-clause-pending : goal.returns-clause-pending
returns-clause-pending g c = λ ks past are pending.
    let second = sample_lanes c.args.one c.broadcast-one.result c.ranges.one c.broadcast-one.ensures.lanes c.broadcast-one.ensures.value in
    let newest = sample_lanes c.args.two c.broadcast-two.result c.ranges.two c.broadcast-two.ensures.lanes c.broadcast-two.ensures.value in
    let on = later_lanes_advanced ks past c.args.one c.args.two g.row.VECTORS are.1 second newest in
    record {
      at_0 = nearest_lanes_advanced ks past c.args.one c.args.two _ (moved_by c.requires.sums.later.at_4 c.requires.sums.at_0 c.shift_two_lanes.ensures.fits c.shift_two_lanes.ensures.value) pending.later.at_4 pending.at_0;
      later = record {
        at_4 = on 4 _ _ _ _ _ c.advance_lanes.result (omega arith) (λ h. absurd cc) c.advance_lanes.ensures.value c.advance_lanes.ensures.zeros (lanes_64_are c.requires.sums.later.at_8 pending.later.at_8) (lanes_64_are c.requires.sums.later.at_4 pending.later.at_4) (taps_are c.requires.taps.second.at_4 are.0.second.at_4) (taps_are c.requires.taps.newest.at_4 are.0.newest.at_4);
        at_8 = on 8 _ _ _ _ _ c.advance_lanes-2.result (omega arith) (λ h. absurd cc) c.advance_lanes-2.ensures.value c.advance_lanes-2.ensures.zeros (lanes_64_are c.requires.sums.later.at_12 pending.later.at_12) (lanes_64_are c.requires.sums.later.at_8 pending.later.at_8) (taps_are c.requires.taps.second.at_8 are.0.second.at_8) (taps_are c.requires.taps.newest.at_8 are.0.newest.at_8);
        at_12 = on 12 _ _ _ _ _ c.advance_lanes-3.result (omega arith) (λ h. absurd cc) c.advance_lanes-3.ensures.value c.advance_lanes-3.ensures.zeros (lanes_64_are c.requires.sums.later.at_16 pending.later.at_16) (lanes_64_are c.requires.sums.later.at_12 pending.later.at_12) (taps_are c.requires.taps.second.at_12 are.0.second.at_12) (taps_are c.requires.taps.newest.at_12 are.0.newest.at_12);
        at_16 = on 16 _ _ _ _ _ c.advance_lanes-4.result (omega arith) (λ h. omega (arith, ltb-false)) c.advance_lanes-4.ensures.value c.advance_lanes-4.ensures.zeros (lanes_64_are c.requires.sums.later.at_20 pending.later.at_20) (lanes_64_are c.requires.sums.later.at_16 pending.later.at_16) (taps_are c.requires.taps.second.at_16 are.0.second.at_16) (taps_are c.requires.taps.newest.at_16 are.0.newest.at_16);
        at_20 = on 20 _ _ _ _ _ c.advance_lanes-5.result (omega arith) (λ h. omega (arith, ltb-false)) c.advance_lanes-5.ensures.value c.advance_lanes-5.ensures.zeros (lanes_64_are c.requires.sums.later.at_24 pending.later.at_24) (lanes_64_are c.requires.sums.later.at_20 pending.later.at_20) (taps_are c.requires.taps.second.at_20 are.0.second.at_20) (taps_are c.requires.taps.newest.at_20 are.0.newest.at_20);
        at_24 = on 24 _ _ _ _ _ c.advance_lanes-6.result (omega arith) (λ h. omega (arith, ltb-false)) c.advance_lanes-6.ensures.value c.advance_lanes-6.ensures.zeros (lanes_64_are c.requires.sums.later.at_28 pending.later.at_28) (lanes_64_are c.requires.sums.later.at_24 pending.later.at_24) (taps_are c.requires.taps.second.at_24 are.0.second.at_24) (taps_are c.requires.taps.newest.at_24 are.0.newest.at_24);
        at_28 = on 28 _ _ _ _ _ c.advance_lanes-7.result (omega arith) (λ h. omega (arith, ltb-false)) c.advance_lanes-7.ensures.value c.advance_lanes-7.ensures.zeros (four_pending_none ks past 32 (omega arith) are.0.long) (lanes_64_are c.requires.sums.later.at_28 pending.later.at_28) (taps_are c.requires.taps.second.at_28 are.0.second.at_28) (taps_are c.requires.taps.newest.at_28 are.0.newest.at_28);
      };
    }

pub returns-clause-fit : goal.returns-clause-fit
returns-clause-fit g c = record {
  at_0 = kept_fit_64 c.shift_two_lanes.ensures.fits;
  later = record { at_4 = kept_fit_64 c.advance_lanes.ensures.fits; at_8 = kept_fit_64 c.advance_lanes-2.ensures.fits; at_12 = kept_fit_64 c.advance_lanes-3.ensures.fits; at_16 = kept_fit_64 c.advance_lanes-4.ensures.fits; at_20 = kept_fit_64 c.advance_lanes-5.ensures.fits; at_24 = kept_fit_64 c.advance_lanes-6.ensures.fits; at_28 = kept_fit_64 c.advance_lanes-7.ensures.fits };
}
