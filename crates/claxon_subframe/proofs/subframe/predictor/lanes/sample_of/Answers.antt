use Rattle.std.proofs.Common.{rules, arith, to_z, of_z, w64, ◌≡◌}
use Rattle.std.proofs.Math.Facts.{sfits_to_z, Fits-of_z}
use Rattle.std.proofs.lemmas.Int.{ints}
use Rattle.claxon_subframe.specs.PendingSums.{plus_five}
use Rattle.claxon_subframe.proofs.PendingSums.{IsScaledSum, scaled_sum_more, scaled_sum_sample, sample_fits}
use Rattle.claxon_subframe.proofs.subframe.predictor.lanes.sample_of.Goals as goal

pub returns-clause-is_sample : goal.returns-clause-is_sample
returns-clause-is_sample c = λ sum residual e.
    let ks = c.args.coefficients in
    let xs = c.args.samples in
    let a : to_z w64 (of_z w64 c.args.coefficients.fifth) ≡ c.args.coefficients.fifth = search rules in
    let b : to_z w64 (of_z w64 c.args.coefficients.fourth) ≡ c.args.coefficients.fourth = search rules in
    let d : to_z w64 (of_z w64 c.args.coefficients.third) ≡ c.args.coefficients.third = search rules in
    let f : to_z w64 (of_z w64 c.args.coefficients.second) ≡ c.args.coefficients.second = search rules in
    let g : to_z w64 (of_z w64 c.args.coefficients.newest) ≡ c.args.coefficients.newest = search rules in
    let h : to_z w64 (of_z w64 c.args.samples.fifth) ≡ c.args.samples.fifth = search rules in
    let i : to_z w64 (of_z w64 c.args.samples.fourth) ≡ c.args.samples.fourth = search rules in
    let j : to_z w64 (of_z w64 c.args.samples.third) ≡ c.args.samples.third = search rules in
    let k : to_z w64 (of_z w64 c.args.samples.second) ≡ c.args.samples.second = search rules in
    let l : to_z w64 (of_z w64 c.args.samples.newest) ≡ c.args.samples.newest = search rules in
    let start : IsScaledSum c.args.scaled sum residual c.args.shift = record { is = e } in
    let up = scaled_sum_more c.add_product.ensures.adds_product (scaled_sum_more c.add_product-two.ensures.adds_product (scaled_sum_more c.add_product-three.ensures.adds_product (scaled_sum_more c.add_product-four.ensures.adds_product (scaled_sum_more c.add_product-five.ensures.adds_product start)))) in
    scaled_sum_sample (plus_five sum ks xs) c.requires up (simp (a, b, d, f, g, h, i, j, k, l) (omega (arith, ints)))

pub returns-clause-fits_signed : goal.returns-clause-fits_signed
returns-clause-fits_signed c = sample_fits _ (sfits_to_z (Fits-of_z {z = c.add_product.result} (record { sfits = c.add_product.type_inv })))
