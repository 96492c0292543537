use Rattle.std.proofs.Common.{◌≡◌, ◌∷◌, [], ◌+◌, ◌-◌, ◌∙◌, ap, length, refl, subst, arith}
use Rattle.std.specs.List.{between}
use Rattle.std.proofs.lemmas.List.Edits.{length-between}
use Rattle.claxon.specs.Interleave.{interleave_range}
use Rattle.claxon.proofs.Interleaving.{stereo_part}
use Rattle.claxon_md5.specs.HasherCalls.{HashesBytes}
use Rattle.claxon_md5.specs.WholeBytes.{whole_bytes_of_samples}
use Rattle.claxon_blocks.proofs.HashedBlocks.{no_range_hashed, next_range_hashed, all_ranges_hashed}
use Rattle.claxon_blocks.proofs.hashing.hash_pairs.Goals as goal

pub loop-from-init : goal.loop-from-init
loop-from-init c = record {
  within = omega arith;
  hashed = no_range_hashed 16 (c.args.left.now ∷ c.args.right.now ∷ []) c.args.md5.now;
}

pub loop-from-preserved : goal.loop-from-preserved
loop-from-preserved c =
    let left = c.args.left.now in
    let right = c.args.right.now in
    let from = c.loop-from.from in
    let count = c.min.result in
    let to = from + count in
    let s = between from to left in
    let t = between from to right in
    let width : count ≡ to - from = omega arith in
    let within : length s ≡ count = length-between left from to (omega arith) ∙ omega arith in
    let part : interleave_range (s ∷ t ∷ []) 0 (length s)
    ≡ interleave_range (left ∷ right ∷ []) from count =
    stereo_part (left ∷ right ∷ []) left right s t from to count refl refl refl refl refl width
    within in
    let packed = c.pack_pairs.ensures ∙ ap (whole_bytes_of_samples 16) part in
    let hashed = subst (λ bytes. HashesBytes bytes c.loop-from.md5 c.update.new.self) packed
    c.update.ensures.hashes_bytes in
    record {
      within = omega arith;
      hashed = next_range_hashed 16 (left ∷ right ∷ []) from count c.args.md5.now _ _
          c.loop-from.invariant.hashed hashed;
    }

pub returns : goal.returns
returns c =
    let whole : c.loop-from.from ≡ length c.args.left.now =
    omega (arith, c.loop-from.invariant.within) in
    record {
      hashes_samples = all_ranges_hashed 16 (c.args.left.now ∷ c.args.right.now ∷ []) _ _ _ whole
          c.loop-from.invariant.hashed;
    }
