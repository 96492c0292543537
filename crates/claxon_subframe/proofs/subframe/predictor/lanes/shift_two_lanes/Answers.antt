use Rattle.std.proofs.Common.{◌≡◌, ◌∷◌, [], rules}
use Rattle.claxon_subframe.proofs.Lanes.{four_of, fit_64_moved}
use Rattle.claxon_subframe.proofs.subframe.predictor.lanes.shift_two_lanes.Goals as goal

moved : goal.returns-clause-value
moved c =
    let x = four_of c.args.before c.requires.before in
    let y = four_of c.args.lanes c.requires.lanes in
    let x-is : c.args.before ≡ x.a ∷ x.b ∷ x.c ∷ x.d ∷ [] = x.is in
    let y-is : c.args.lanes ≡ y.a ∷ y.b ∷ y.c ∷ y.d ∷ [] = y.is in
    rw (x-is, y-is) (search (rules, x.c_is, x.d_is, y.a_is, y.b_is))

pub returns-clause-value : goal.returns-clause-value
returns-clause-value c = moved c

pub returns-clause-fits : goal.returns-clause-fits
returns-clause-fits c = fit_64_moved c.requires.before c.requires.lanes (moved c)
