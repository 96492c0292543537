use Rattle.std.proofs.Common.{◌≡◌, ◌∷◌, [], ◌++◌, ◌∙◌, ap₂, get_or, length, pos, refl, take}
use Rattle.std.proofs.Common.{arith, rules}
use Rattle.std.specs.Int.{cast_unsigned, to_le_bytes, w32}
use Rattle.claxon.proofs.Interleaving.{all_ranges, no_range, stereo_more}
use Rattle.claxon_md5.specs.WholeBytes.{whole_bytes_of_sample, whole_bytes_of_samples}
use Rattle.claxon_blocks.proofs.HashedBlocks.{pair_bytes_16}
use Rattle.claxon_blocks.proofs.hashing.pack_pairs.Goals as goal

pub loop-i-init : goal.loop-i-init
loop-i-init c =
    no_range (whole_bytes_of_sample 16) (c.args.left.now ∷ c.args.right.now ∷ []) 4
    c.args.buffer.now

pub loop-i-preserved : goal.loop-i-preserved
loop-i-preserved c =
    let s = c.args.left.now in
    let t = c.args.right.now in
    let i = c.loop-i.i in
    let put = c.copy_from_slice.new.self in
    let x = get_or s i (pos 0) in
    let y = get_or t i (pos 0) in
    let low : c.cast_unsigned-low.result ≡ cast_unsigned w32 x = search rules in
    let high : c.cast_unsigned-high.result ≡ cast_unsigned w32 y = search rules in
    let two = pair_bytes_16 c.cast_unsigned-low.result c.cast_unsigned-high.result _ refl in
    let bytes : put ≡ whole_bytes_of_sample 16 x ++ whole_bytes_of_sample 16 y =
    c.copy_from_slice.ensures.after ∙ c.to_le_bytes.ensures ∙ two
    ∙ ap₂ (λ m n. take 2 (to_le_bytes w32 m) ++ take 2 (to_le_bytes w32 n)) low high in
    stereo_more (whole_bytes_of_sample 16) 2 (λ z. refl) s t i 4 _ c.loop-i.buffer put refl
    (omega arith) bytes refl refl refl c.loop-i.invariant

pub returns : goal.returns
unfolding whole_bytes_of_samples
returns c =
    all_ranges (whole_bytes_of_sample 16) (c.args.left.now ∷ c.args.right.now ∷ []) 4
    (length c.args.left.now) c.loop-i.i c.loop-i.buffer (omega arith) (omega arith)
    c.loop-i.invariant
