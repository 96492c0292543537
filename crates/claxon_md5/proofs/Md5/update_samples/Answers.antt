use Rattle.std.proofs.Common.{◌≡◌, ◌+◌, ◌-◌, ◌∙◌, take, drop, ap, subst, arith}
use Rattle.std.proofs.lemmas.Grind.{common_steps}
use Rattle.std.proofs.Math.Seq.{take-add}
use Rattle.claxon_md5.specs.HasherCalls.{HashesBytes, HashesSamples}
use Rattle.claxon_md5.specs.WholeBytes.{whole_bytes_of_samples}
use Rattle.claxon_md5.proofs.WholeBytes.{hashes_none, hashes_more}
use Rattle.claxon_md5.proofs.Md5.update_samples.Goals as goal

pub loop-at-init : goal.loop-at-init
loop-at-init c = record {
  within = omega arith;
  hashed = hashes_none c.args.bit_depth c.args.self.now;
}

pub loop-at-preserved : goal.loop-at-preserved
loop-at-preserved c = record {
  within = omega arith;
  hashed =
      let samples = c.args.samples.now in
      let n = c.args.bit_depth in
      let at = c.loop-at.at in
      let count = c.min.result in
      let new = c.update.new.self in
      let piece = take count (drop at samples) in
      let width : at + count - at ≡ count = omega arith in
      let packed = c.pack-count.ensures.packed
      ∙ ap (λ m. whole_bytes_of_samples n (take m (drop at samples))) width in
      let hashed : HashesSamples n piece c.loop-at.self new =
      subst (λ bytes. HashesBytes bytes c.loop-at.self new) packed c.update.ensures.hashes_bytes in
      hashes_more n (take at samples) piece (take (at + count) samples) c.args.self.now _ new
      (take-add at count samples) c.loop-at.invariant.hashed hashed;
}

pub returns : goal.returns
returns c = grind (arith, common_steps)
