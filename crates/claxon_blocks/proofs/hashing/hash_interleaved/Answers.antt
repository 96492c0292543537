use Rattle.std.proofs.Common.{◌≡◌, ◌+◌, ◌-◌, subst, arith}
use Rattle.claxon.specs.Interleave.{interleave_range}
use Rattle.claxon.specs.Streams.{duration_of}
use Rattle.claxon_md5.specs.HasherCalls.{HashesSamples}
use Rattle.claxon_blocks.proofs.HashedBlocks.{no_range_hashed, next_range_hashed, all_ranges_hashed}
use Rattle.claxon_blocks.proofs.hashing.hash_interleaved.Goals as goal

pub loop-from-init : goal.loop-from-init
loop-from-init g c = record {
  within = omega arith;
  hashed = no_range_hashed c.args.bit_depth c.args.block.now.channels c.args.md5.now;
}

pub loop-from-preserved : goal.loop-from-preserved
loop-from-preserved g c =
    let n = c.args.bit_depth in
    let channels = c.args.block.now.channels in
    let from = c.loop-from.from in
    let count = c.min.result in
    let width : from + count - from ≡ count = omega arith in
    let hashed = subst
    (λ k. HashesSamples n (interleave_range channels from k) c.loop-from.md5 c.hash_range.new.md5)
    width c.hash_range.ensures.hashes_samples in
    record {
      within = omega (arith, c.duration-duration.ensures.value);
      hashed = next_range_hashed n channels from count c.args.md5.now _ _
          c.loop-from.invariant.hashed hashed;
    }

pub returns : goal.returns
returns g c =
    let channels = c.args.block.now.channels in
    let whole : c.loop-from.from ≡ duration_of channels =
    omega (arith, c.duration-duration.ensures.value, c.loop-from.invariant.within) in
    record {
      hashes_block = all_ranges_hashed c.args.bit_depth channels _ _ _ whole
          c.loop-from.invariant.hashed;
    }
