use Rattle.std.proofs.Common.{◌∙◌, get_or, pos, rules, FitsSigned, w32}
use Rattle.std.proofs.lemmas.Int.{to_z-of_z}
use Rattle.claxon_subframe.specs.TwelveLanes.{AreTwelvePending}
use Rattle.claxon_subframe.proofs.Lanes.{kept_fit_64, same_fit_64}
use Rattle.claxon_subframe.proofs.RestoreLoopByTwo.{narrowed}
use Rattle.claxon_subframe.proofs.PredictorState.{one_restored}
use Rattle.claxon_subframe.proofs.subframe.predictor.low_order.restore_one.Goals as goal

pub followed_by_two-newest-requires-clause-lanes_fit64 : goal.followed_by_two-newest-requires-clause-lanes_fit64
followed_by_two-newest-requires-clause-lanes_fit64 c = kept_fit_64 c.requires.twelve_fit64.at_0

pub returns-clause-restored : goal.returns-clause-restored
returns-clause-restored c = λ ks last stands.
    let xs = c.args.buffer.now in
    let i = c.args.i in
    let first : FitsSigned w32 (get_or c.args.buffer.now c.args.i (pos 0)) = search rules in
    let new = c.followed_by_two-newest.result in
    one_restored (AreTwelvePending ks) ks xs _ c.args.shift i _ _ _ c.args.last c.args.state new c.requires.within last stands
    (same_fit_64 c.requires.twelve_fit64.at_0 ∙ stands.sums.at_0) (to_z-of_z w32 _ first) c.followed_by_two-newest.ensures.is_followed_by_two
    (narrowed new.second c.low_bits.result c.followed_by_two-newest.ensures.second c.low_bits.ensures)
