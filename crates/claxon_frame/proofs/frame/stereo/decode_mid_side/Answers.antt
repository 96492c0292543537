use Rattle.std.proofs.Common.{◌≡◌, length, ◌<◌, get_or, pos, rules, arith, sym, ap, ap₂, refl, ◌∙◌, FitsSigned, w32}
use Rattle.claxon_format.specs.read.Stereo.{left_of, right_of, decoded_pair}
use Rattle.claxon_frame.specs.Block.{chunks}
use Rattle.claxon_frame.proofs.Decorrelation.{mid_left_is, mid_right_is, zipped_here, zipped_next, zipped_end, halves_are}
use Rattle.claxon_frame.proofs.frame.stereo.decode_mid_side.Goals as goal

pub loop-i-preserved : goal.loop-i-preserved
loop-i-preserved c =
    let fm : FitsSigned w32 (get_or c.loop-i.mid c.loop-i.i (pos 0)) = search rules in
    let fs : FitsSigned w32 (get_or c.loop-i.side c.loop-i.i (pos 0)) = search rules in
    let split = c.split_at_mut-mid.ensures in
    let in_mid : c.loop-i.i < length c.split_at_mut-mid.result.0.now = omega (arith, split.front_len) in
    let in_side : c.loop-i.i < length c.split_at_mut-mid.result.1.now = omega (arith, split.back_len) in
    let in_new_mid : c.loop-i.i < length c.loop-i.mid = omega (arith, c.loop-i.auto.mid) in
    let in_new_side : c.loop-i.i < length c.loop-i.side = omega (arith, c.loop-i.auto.side) in
    let mid = zipped_here in_new_mid in_mid c.loop-i.invariant.left in
    let side = zipped_here in_new_side in_side c.loop-i.invariant.right in
    record {
      left = zipped_next _ in_mid in_side in_new_mid in_mid c.loop-i.invariant.left (mid_left_is _ _ _ fm fs (search rules) refl ∙ ap₂ (left_of 10) mid side);
      right = zipped_next _ in_mid in_side in_new_side in_side c.loop-i.invariant.right (mid_right_is _ _ _ fm fs (search rules) refl ∙ ap₂ (right_of 10) mid side);
    }

pub returns : goal.returns
returns c = record {
  pair_is_decoded = λ n e.
      let split = c.split_at_mut-mid.ensures in
      let mid : length c.split_at_mut-mid.result.0.now ≡ n = omega (arith, split.front_len) in
      let side : length c.split_at_mut-mid.result.1.now ≡ n = omega (arith, split.back_len) in
      let new_mid : length c.loop-i.mid ≡ n = omega (arith, c.loop-i.auto.mid) in
      let new_side : length c.loop-i.side ≡ n = omega (arith, c.loop-i.auto.side) in
      halves_are 10 n _ _ _ _ mid side new_mid new_side (zipped_end (omega arith) (omega arith) (omega arith) c.loop-i.invariant.left) (zipped_end (omega arith) (omega arith) (omega arith) c.loop-i.invariant.right)
      ∙ ap (λ t. decoded_pair 10 (chunks 2 n t)) (sym split.value);
}
