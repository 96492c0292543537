use Rattle.std.proofs.Common.{◌+◌, ◌-◌, ◌*◌, List, ℤ, length, take, drop, reverse, subst, arith}
use Rattle.std.proofs.lemmas.List.{length-drop, length-reverse, length-take, take_all}
use Rattle.claxon_subframe.specs.PendingSums.{AreNewest}
use Rattle.claxon_subframe.specs.TwelveLanes.{AreTwelvePending}
use Rattle.claxon_subframe.proofs.PredictorState.{of_some}
use Rattle.claxon_subframe.proofs.RestoreLoopByTwo.{newest_of, past_split}
use Rattle.claxon_subframe.proofs.TwelveLanes.{twelve_enough}
use Rattle.claxon_subframe.proofs.subframe.predictor.low_order.state_after.Goals as goal

pub returns-clause-newest : goal.returns-clause-newest
returns-clause-newest g c =
    let xs = c.args.samples.now in
    let n = length xs in
    subst (λ (l : List ℤ). AreNewest (reverse l) c.of-newest.result) (take_all n xs (omega arith)) (newest_of xs n (n - 5) (n - (n - 5)) _ c.of-newest.ensures.are_newest (omega arith))

pub returns-clause-sums : goal.returns-clause-sums
returns-clause-sums g c = λ ks are fit.
    let xs = c.args.samples.now in
    let n = length xs in
    let d = n - (4 * g.row.VECTORS + 4) in
    let near = reverse (take (n - d) (drop d xs)) in
    let whole = subst (λ (l : List ℤ). AreTwelvePending ks l c.unwrap-sums.result) (past_split xs d (n - d) n (omega arith))
    (twelve_enough ks near (reverse (take d xs)) g.row.VECTORS c.unwrap-sums.result fit
    (omega (arith, length-reverse (take (n - d) (drop d xs)), length-take (n - d) (drop d xs), length-drop d xs)) (of_some _ c.unwrap-sums.ensures c.first_sums.ensures.pending ks (are, fit))) in
    subst (λ (l : List ℤ). AreTwelvePending ks (reverse l) c.unwrap-sums.result) (take_all n xs (omega arith)) whole
