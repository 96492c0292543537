use Rattle.std.proofs.Common.{◌≡◌, length, ◌<◌, get_or, pos, rules, arith, sym, ap, ◌∙◌, FitsSigned, w32}
use Rattle.claxon_format.specs.read.Stereo.{right_of, decoded_pair}
use Rattle.claxon_frame.specs.Block.{chunks}
use Rattle.claxon_frame.proofs.Decorrelation.{left_side_is, zipped_here, zipped_next, zipped_end, zipped_first, halves_are}
use Rattle.claxon_frame.proofs.frame.stereo.decode_left_side.Goals as goal

pub loop-i-preserved : goal.loop-i-preserved
loop-i-preserved c =
    let fl : FitsSigned w32 (get_or c.split_at_mut-left.result.0.now c.loop-i.i (pos 0)) = search rules in
    let fs : FitsSigned w32 (get_or c.loop-i.side c.loop-i.i (pos 0)) = search rules in
    let split = c.split_at_mut-left.ensures in
    let in_left : c.loop-i.i < length c.split_at_mut-left.result.0.now = omega (arith, split.front_len) in
    let in_side : c.loop-i.i < length c.split_at_mut-left.result.1.now = omega (arith, split.back_len) in
    let in_new : c.loop-i.i < length c.loop-i.side = omega (arith, c.loop-i.auto.side) in
    zipped_next _ in_left in_side in_new in_side c.loop-i.invariant (left_side_is _ _ fl fs ∙ ap (right_of 8 _) (zipped_here in_new in_side c.loop-i.invariant))

pub returns : goal.returns
returns c = record {
  pair_is_decoded = λ n e.
      let split = c.split_at_mut-left.ensures in
      let left : length c.split_at_mut-left.result.0.now ≡ n = omega (arith, split.front_len) in
      let side : length c.split_at_mut-left.result.1.now ≡ n = omega (arith, split.back_len) in
      let new : length c.loop-i.side ≡ n = omega (arith, c.loop-i.auto.side) in
      halves_are 8 n _ _ _ _ left side left new (zipped_first _ _ (left ∙ sym side)) (zipped_end (omega arith) (omega arith) (omega arith) c.loop-i.invariant)
      ∙ ap (λ t. decoded_pair 8 (chunks 2 n t)) (sym split.value);
}
