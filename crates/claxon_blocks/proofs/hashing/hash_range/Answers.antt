use Rattle.std.proofs.Common.{◌≡◌, ◌-◌, ◌∙◌, subst}
use Rattle.claxon.specs.Interleave.{interleave_range}
use Rattle.claxon.proofs.Interleaving.{all_themselves}
use Rattle.claxon_md5.specs.HasherCalls.{HashesSamples}
use Rattle.claxon_blocks.proofs.hashing.hash_range.Goals as goal

pub returns : goal.returns
returns g c =
    let from = c.args.from in
    let part = interleave_range c.args.block.now.channels from (c.args.to - from) in
    let interleaved : c.interleave.new.buffer ≡ part = c.interleave.ensures ∙ all_themselves part in
    record {
      hashes_samples = subst
          (λ xs. HashesSamples c.args.bit_depth xs c.args.md5.now c.update_samples.new.self)
          interleaved c.update_samples.ensures.hashes_samples;
    }
