use Rattle.std.proofs.Common.{◌≡◌, ◌∙◌, ap, sym, subst, arith}
use Rattle.claxon.specs.Streams.{interleave}
use Rattle.claxon_md5.specs.HasherCalls.{HashesBytes, HashesSamples}
use Rattle.claxon_md5.specs.WholeBytes.{sample_width, whole_bytes_of_samples}
use Rattle.claxon_blocks.proofs.HashedBlocks.{mono_interleaved, stereo_interleaved, same_width}
use Rattle.claxon_blocks.proofs.hashing.hash_block.Goals as goal

pub returns-then-channels-eq1 : goal.returns-then-channels-eq1
returns-then-channels-eq1 g c =
    let one = sym c.channels-channels.ensures.value ∙ c.if-channels-eq1.true in
    let all = mono_interleaved c.args.block.now.channels c.channel.result.now one
    c.channel.ensures.samples c.channel.ensures.len in
    record {
      hashes_block = subst
          (λ xs. HashesSamples c.args.bit_depth xs c.args.md5.now c.update_samples.new.self)
          all c.update_samples.ensures.hashes_samples;
    }

pub returns-then-div_ceil-eq2 : goal.returns-then-div_ceil-eq2
returns-then-div_ceil-eq2 g c =
    let n = c.args.bit_depth in
    let channels = c.args.block.now.channels in
    let left = c.channel-then-div_ceil-eq2 in
    let right = c.channel-then-div_ceil-eq2-2 in
    let two = sym c.channels-channels.ensures.value ∙ c.if-channels-eq2.true in
    let all = stereo_interleaved channels left.result.now right.result.now two left.ensures.samples
    right.ensures.samples left.ensures.len right.ensures.len in
    let width : sample_width n ≡ 2 = omega (arith, c.div_ceil.ensures, c.if-div_ceil-eq2.true) in
    let bytes = ap (whole_bytes_of_samples 16) all
    ∙ sym (same_width n 16 (interleave channels) width) in
    record {
      hashes_block = subst (λ xs. HashesBytes xs c.args.md5.now c.hash_pairs.new.md5) bytes
          c.hash_pairs.ensures.hashes_samples;
    }
