use Rattle.std.proofs.Common.{◌≡◌, ◌≤◌, ◌∙◌, ◌+◌, length, pos, get_or, ap, sym, arith, rules}
use Rattle.std.proofs.Math.Nat.{mul-le-mul_right}
use Rattle.std.specs.Int.{w32, cast_unsigned, to_le_bytes}
use Rattle.claxon_md5.specs.WholeBytes.{sample_width}
use Rattle.claxon_md5.proofs.WholeBytes.{whole_bytes_of_samples-none, same_size, put}
use Rattle.claxon_md5.proofs.packing.pack.Goals as goal

pub loop-sample-init : goal.loop-sample-init
loop-sample-init c = record {
  size = search rules;
  place = omega arith;
  packed = sym (whole_bytes_of_samples-none c.args.bit_depth);
}

pub loop-sample-preserved : goal.loop-sample-preserved
loop-sample-preserved c =
    let samples = c.args.samples.now in
    let i = c.loop-sample.sample-index in
    let n = c.args.bit_depth in
    let at = c.loop-sample.at in
    let buffer = c.loop-sample.buffer in
    let put_bytes = c.copy_from_slice.new.self in
    let narrow : sample_width n ≤ 4 = omega arith in
    let below = mul-le-mul_right i narrow in
    let place : at + 4 ≤ length buffer = omega arith in
    let x = get_or samples i (pos 0) in
    let bytes : put_bytes ≡ to_le_bytes w32 (cast_unsigned w32 x) = search rules in
    record {
      size = same_size buffer put_bytes at _ place (ap length bytes) (omega arith)
          ∙ c.loop-sample.invariant.size;
      place = omega arith;
      packed = put n samples i (pos 0) buffer put_bytes at _ _ c.loop-sample-test.true (omega arith)
          narrow (omega arith) bytes c.loop-sample.invariant.packed;
    }
