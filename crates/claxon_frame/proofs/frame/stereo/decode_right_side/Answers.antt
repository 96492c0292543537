use Rattle.std.proofs.Common.{◌≡◌, length, ◌<◌, get_or, pos, rules, arith, sym, ap, ◌∙◌, FitsSigned, w32}
use Rattle.claxon_format.specs.read.Stereo.{left_of, decoded_pair}
use Rattle.claxon_frame.specs.Block.{chunks}
use Rattle.claxon_frame.proofs.Decorrelation.{right_side_is, zipped_here, zipped_next, zipped_end, zipped_second, halves_are}
use Rattle.claxon_frame.proofs.frame.stereo.decode_right_side.Goals as goal

pub loop-i-preserved : goal.loop-i-preserved
loop-i-preserved c =
    let fr : FitsSigned w32 (get_or c.split_at_mut-side.result.1.now c.loop-i.i (pos 0)) = search rules in
    let fs : FitsSigned w32 (get_or c.loop-i.side c.loop-i.i (pos 0)) = search rules in
    let split = c.split_at_mut-side.ensures in
    let in_side : c.loop-i.i < length c.split_at_mut-side.result.0.now = omega (arith, split.front_len) in
    let in_right : c.loop-i.i < length c.split_at_mut-side.result.1.now = omega (arith, split.back_len) in
    let in_new : c.loop-i.i < length c.loop-i.side = omega (arith, c.loop-i.auto.side) in
    zipped_next _ in_side in_right in_new in_side c.loop-i.invariant (right_side_is _ _ fs fr ∙ ap (λ z. left_of 9 z (get_or c.split_at_mut-side.result.1.now c.loop-i.i (pos 0))) (zipped_here in_new in_side c.loop-i.invariant))

pub returns : goal.returns
returns c = record {
  pair_is_decoded = λ n e.
      let split = c.split_at_mut-side.ensures in
      let side : length c.split_at_mut-side.result.0.now ≡ n = omega (arith, split.front_len) in
      let right : length c.split_at_mut-side.result.1.now ≡ n = omega (arith, split.back_len) in
      let new : length c.loop-i.side ≡ n = omega (arith, c.loop-i.auto.side) in
      halves_are 9 n _ _ _ _ side right new right (zipped_end (omega arith) (omega arith) (omega arith) c.loop-i.invariant) (zipped_second _ _ (side ∙ sym right))
      ∙ ap (λ t. decoded_pair 9 (chunks 2 n t)) (sym split.value);
}
