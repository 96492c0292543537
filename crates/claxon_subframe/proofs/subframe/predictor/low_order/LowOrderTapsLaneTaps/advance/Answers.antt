use Rattle.std.proofs.Common.{arith}
use Rattle.std.proofs.lemmas.Bool.{ltb-false}
use Rattle.claxon_subframe.proofs.Lanes.{kept_lanes, kept_fit_64, moved_by}
use Rattle.claxon_subframe.proofs.PendingSums.{later_lanes_advanced, four_pending_none, nearest_lanes_advanced, lanes_64_are, sample_lanes, taps_are}
use Rattle.claxon_subframe.proofs.subframe.predictor.low_order.LowOrderTapsLaneTaps.advance.Goals as goal

pub advance_lanes-requires-clause-sums : goal.advance_lanes-requires-clause-sums
advance_lanes-requires-clause-sums g c = kept_fit_64 c.requires.sums.at_8

pub advance_lanes-requires-clause-for_second : goal.advance_lanes-requires-clause-for_second
advance_lanes-requires-clause-for_second g c = kept_lanes (omega arith) c.requires.taps.second.at_8

pub advance_lanes-requires-clause-for_newest : goal.advance_lanes-requires-clause-for_newest
advance_lanes-requires-clause-for_newest g c = kept_lanes (omega arith) c.requires.taps.newest.at_8

pub advance_lanes-requires-2-clause-before : goal.advance_lanes-requires-2-clause-before
advance_lanes-requires-2-clause-before g c = kept_fit_64 c.requires.sums.at_8

pub advance_lanes-requires-2-clause-sums : goal.advance_lanes-requires-2-clause-sums
advance_lanes-requires-2-clause-sums g c = kept_fit_64 c.requires.sums.at_4

pub advance_lanes-requires-2-clause-for_second : goal.advance_lanes-requires-2-clause-for_second
advance_lanes-requires-2-clause-for_second g c = kept_lanes (omega arith) c.requires.taps.second.at_4

pub advance_lanes-requires-2-clause-for_newest : goal.advance_lanes-requires-2-clause-for_newest
advance_lanes-requires-2-clause-for_newest g c = kept_lanes (omega arith) c.requires.taps.newest.at_4

pub shift_two_lanes-requires-clause-before : goal.shift_two_lanes-requires-clause-before
shift_two_lanes-requires-clause-before g c = kept_fit_64 c.requires.sums.at_4

pub shift_two_lanes-requires-clause-lanes : goal.shift_two_lanes-requires-clause-lanes
shift_two_lanes-requires-clause-lanes g c = kept_fit_64 c.requires.sums.at_0

pub returns-clause-pending : goal.returns-clause-pending
returns-clause-pending g c = λ ks past are pending.
    let second = sample_lanes c.args.one c.broadcast-one.result c.ranges.one c.broadcast-one.ensures.lanes c.broadcast-one.ensures.value in
    let newest = sample_lanes c.args.two c.broadcast-two.result c.ranges.two c.broadcast-two.ensures.lanes c.broadcast-two.ensures.value in
    let on = later_lanes_advanced ks past c.args.one c.args.two g.row.VECTORS are.1 second newest in
    record {
      at_8 = on 8 _ _ _ _ _ c.advance_lanes.result (omega arith) (λ h. omega (arith, ltb-false)) c.advance_lanes.ensures.value c.advance_lanes.ensures.zeros (four_pending_none ks past 12 (omega arith) are.0.long) (lanes_64_are c.requires.sums.at_8 pending.at_8) (taps_are c.requires.taps.second.at_8 are.0.second.at_8) (taps_are c.requires.taps.newest.at_8 are.0.newest.at_8);
      at_4 = on 4 _ _ _ _ _ c.advance_lanes-2.result (omega arith) (λ h. absurd cc) c.advance_lanes-2.ensures.value c.advance_lanes-2.ensures.zeros (lanes_64_are c.requires.sums.at_8 pending.at_8) (lanes_64_are c.requires.sums.at_4 pending.at_4) (taps_are c.requires.taps.second.at_4 are.0.second.at_4) (taps_are c.requires.taps.newest.at_4 are.0.newest.at_4);
      at_0 = nearest_lanes_advanced ks past c.args.one c.args.two _ (moved_by c.requires.sums.at_4 c.requires.sums.at_0 c.shift_two_lanes.ensures.fits c.shift_two_lanes.ensures.value) pending.at_4 pending.at_0;
    }

pub returns-clause-fit : goal.returns-clause-fit
returns-clause-fit g c = record {
  at_8 = kept_fit_64 c.advance_lanes.ensures.fits;
  at_4 = kept_fit_64 c.advance_lanes-2.ensures.fits;
  at_0 = kept_fit_64 c.shift_two_lanes.ensures.fits;
}
