use Rattle.std.proofs.Common.{◌≡◌, ℕ, ◌<◌, ◌≤◌, ◌-◌, ◌*◌, ◌%◌, ◌^◌, pos, get_or, arith, rules, FitsSigned, w32, ap, ◌∙◌}
use Rattle.std.proofs.lemmas.Int.{to_z-of_z}
use Rattle.std.proofs.Math.Nat.{pow-le-pow_right, mod-eq_of_lt}
use Rattle.std.specs.Float.{Float, binary32}
use Rattle.std.specs.Float.Ieee
use Rattle.claxon_c.specs.Convert.{full_scale}
use Rattle.claxon_c.proofs.NumbersStored.{number_stored}
use Rattle.claxon_c.proofs.convert.put_float.Goals as goal

pub loop-i-preserved : goal.loop-i-preserved
unfolding full_scale
loop-i-preserved c =
    let x = get_or c.args.samples.now c.loop-i.i (pos 0) in
    let f : FitsSigned w32 x = search rules in
    let places : c.args.bits - 1 ≤ 31 = omega (arith, c.requires.few_bits) in
    let most : 2 ^ (c.args.bits - 1) ≤ 2 ^ 31 = pow-le-pow_right (omega arith) places in
    let small : 1 * 2 ^ (c.args.bits - 1) < 2 ^ 32 = omega arith in
    let one : 1 * 2 ^ (c.args.bits - 1) % 2 ^ 32 ≡ 2 ^ (c.args.bits - 1) = mod-eq_of_lt small ∙ omega arith in
    let number : c.nearest_float.result ≡ Ieee.of_int binary32 x = c.nearest_float.ensures ∙ ap (Ieee.of_int binary32) (to_z-of_z w32 x f) in
    let scale : c.nearest_u32_to_f32-most.result ≡ Ieee.of_int binary32 (pos (2 ^ (c.args.bits - 1))) = c.nearest_u32_to_f32-most.ensures ∙ ap (λ (n : ℕ). Ieee.of_int binary32 (pos n)) one in
    number_stored (full_scale c.args.bits) c.args.samples.now c.loop-i.i c.loop-i.numbers _ c.loop-i-test.true (omega arith) c.loop-i.invariant
    (ap (λ (y : Float). Ieee.div binary32 y c.nearest_u32_to_f32-most.result) number ∙ ap (λ (y : Float). Ieee.div binary32 (Ieee.of_int binary32 x) y) scale)
