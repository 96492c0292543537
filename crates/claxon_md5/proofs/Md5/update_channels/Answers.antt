use Rattle.std.proofs.Common.{◌≡◌, ◌+◌, ◌++◌, ◌∙◌, ap, subst, length, drop, arith}
use Rattle.std.proofs.lemmas.List.{length-take-le, take_at}
use Rattle.claxon_md5.specs.HasherCalls.{HashesSamples}
use Rattle.claxon_md5.specs.Planar.{interleaved_part, interleaved_sample}
use Rattle.claxon_md5.proofs.Planar.{map_on}
use Rattle.claxon_md5.proofs.WholeBytes.{hashes_none, hashes_more}
use Rattle.claxon_md5.proofs.Md5.update_channels.Goals as goal

pub loop-from-init : goal.loop-from-init
loop-from-init g c = record {
  within = omega arith;
  hashed = hashes_none c.args.bit_depth c.args.self.now;
}

pub loop-from-preserved : goal.loop-from-preserved
loop-from-preserved g c = record {
  within = omega arith;
  hashed =
      let samples = c.args.samples.now in
      let n = c.args.bit_depth in
      let from = c.loop-from.from in
      let count = c.min-count.result in
      let channels = g.row.CHANNELS in
      let f = interleaved_sample channels samples in
      let new = c.update_samples.new.self in
      let put = c.interleave.new.buffer in
      let buffer = c.loop-from.interleaved in
      let size = length-take-le count buffer (omega arith) in
      let len : length put ≡ count = c.interleave.auto.buffer ∙ size in
      let part = interleaved_part channels samples from count in
      let is : put ≡ part = c.interleave.ensures ∙ ap (interleaved_part channels samples from) size in
      let taken = take_at put (drop count buffer) count len ∙ is in
      let hashed : HashesSamples n part c.loop-from.self new =
      subst (λ xs. HashesSamples n xs c.loop-from.self new) taken c.update_samples.ensures.hashes_samples in
      let none : 0 + from ≡ from = omega arith in
      let whole : interleaved_part channels samples 0 (from + count) ≡ interleaved_part channels samples 0 from ++ part =
      map_on f from 0 count ∙ ap (λ k. interleaved_part channels samples 0 from ++ interleaved_part channels samples k count) none in
      hashes_more n (interleaved_part channels samples 0 from) part _ c.args.self.now _ new whole c.loop-from.invariant.hashed hashed;
}
