use Rattle.std.proofs.Common.{◌≡◌, ◌∷◌, ◌∙◌, ◌+ℤ◌, List, ℤ, get_or, pos, sym, ap, to_z, of_z, w32, w64}
use Rattle.std.proofs.lemmas.Int.{to_z-of_z}
use Rattle.claxon_format.specs.Predict.{wrap, linear}
use Rattle.claxon_subframe.specs.PendingSums.{five_before}
use Rattle.claxon_subframe.proofs.Lanes.{kept_fit_64, same_fit_64}
use Rattle.claxon_subframe.proofs.PendingSums.{one_is, two_is, followed_twice}
use Rattle.claxon_subframe.proofs.RestoreLoopByTwo.{as_i64, passed_scaled_up}
use Rattle.claxon_subframe.proofs.subframe.predictor.lanes.NewestFive.followed_by_two.Goals as goal

pub scaled_up-nearest-requires-clause-lanes_fit64 : goal.scaled_up-nearest-requires-clause-lanes_fit64
scaled_up-nearest-requires-clause-lanes_fit64 c = kept_fit_64 c.requires.lanes_fit64

pub returns-clause-is_followed_by_two : goal.returns-clause-is_followed_by_two
returns-clause-is_followed_by_two c = λ ks rest new es.
    let same = same_fit_64 c.requires.lanes_fit64 in
    let one : to_z w64 (of_z w64 c.sample_of-one.result) ≡ c.sample_of-one.result = as_i64 c.sample_of-one.result c.sample_of-one.ensures.fits_signed in
    let two : to_z w64 (of_z w64 c.sample_of-two.result) ≡ c.sample_of-two.result = as_i64 c.sample_of-two.result c.sample_of-two.ensures.fits_signed in
    let nearest : to_z w32 (of_z w32 c.args.nearest) ≡ c.args.nearest = to_z-of_z w32 c.args.nearest c.ranges.nearest in
    let farther : to_z w32 (of_z w32 c.args.farther) ≡ c.args.farther = to_z-of_z w32 c.args.farther c.ranges.farther in
    let past = five_before c.args.self rest in
    let second-is = c.followed_by.ensures.is_followed.second ∙ c.followed_by-before.ensures.is_followed.newest in
    record {
      second = second-is ∙ one
          ∙ one_is ks rest c.args.pending _ _ _ c.sample_of-one.result c.args.coefficients _ c.args.self c.args.shift new c.but_fifth.ensures.is_but_fifth es (ap (λ (l : List ℤ). get_or l 3 (pos 0)) same) (passed_scaled_up _ (to_z w32 (of_z w32 c.args.nearest)) _ c.args.shift c.scaled_up-nearest.ensures.nearest) c.sample_of-one.ensures.is_sample
          ∙ ap (λ (v : ℤ). wrap (linear ks c.args.shift past +ℤ v)) nearest;
      newest = c.followed_by.ensures.is_followed.newest ∙ two
          ∙ two_is ks rest c.args.pending _ _ _ _ c.sample_of-two.result c.args.coefficients c.args.self c.followed_by-before.result c.args.shift new c.followed_by-before.ensures.is_followed es (ap (λ (l : List ℤ). get_or l 2 (pos 0)) same) (passed_scaled_up _ (to_z w32 (of_z w32 c.args.farther)) _ c.args.shift c.scaled_up-nearest.ensures.farther) c.sample_of-two.ensures.is_sample
          ∙ ap (λ (v : ℤ). wrap (linear ks c.args.shift (to_z w64 (of_z w64 c.sample_of-one.result) ∷ past) +ℤ v)) farther
          ∙ ap (λ (v : ℤ). wrap (linear ks c.args.shift (v ∷ past) +ℤ c.args.farther)) (sym second-is);
      past = followed_twice c.args.self c.followed_by-before.result c.followed_by.result _ _ rest c.followed_by-before.ensures.is_followed c.followed_by.ensures.is_followed;
    }
