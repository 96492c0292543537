use Rattle.std.proofs.Common.{◌≡◌, ◌≤◌, ap₂, length, refl, subst, sym, ◌∙◌, arith, List, ℕ, ℤ}
use Rattle.claxon.specs.Streams.{interleave}
use Rattle.claxon_c.proofs.PlanarHashing.{interleaved_is}
use Rattle.claxon_md5.specs.HasherCalls.{HashesSamples}
use Rattle.claxon_md5.specs.Planar.{interleaved_samples}
use Rattle.claxon_c.proofs.md5.claxon_md5_planar.Goals as goal

pub returns-clause-are_hashed : goal.returns-clause-are_hashed
returns-clause-are_hashed c = λ is. (
  refl,
  λ channels count planar.
      let some : 1 ≤ length channels = omega (arith, is.some_channels, count) in
      let order : interleaved_samples c.args.channels c.args.samples.now ≡ interleave channels = ap₂ (λ (n : ℕ) (s : List ℤ). interleaved_samples n s) (sym count) planar.are ∙ interleaved_is channels some planar.same_length in
      subst (λ (s : List ℤ). HashesSamples c.args.bits_per_sample s c.args.hasher.now c.update_planar.new.self) order c.update_planar.ensures.hashes_planar,
)
