-- The interleaved samples of a block, which are hashed one range after another.
use Rattle.std.proofs.Common.{◌≡◌, ℕ, ◌+◌, ◌-◌, ◌*◌, ◌/◌, ◌%◌, ◌^◌, ℤ, List, [], ◌∷◌, ◌++◌}
use Rattle.std.proofs.Common.{take, length, refl, sym, ap, subst, ◌∙◌, arith}
use Rattle.std.specs.Int.{cast_unsigned, to_le_bytes, w32}
use Rattle.std.specs.List.{flat_map}
use Rattle.std.specs.Prelude.{Some, slice_get}
use Rattle.std.proofs.lemmas.Slice.{between_to_end}
use Rattle.claxon.specs.Interleave.{interleave_range}
use Rattle.claxon.specs.Streams.{duration_of, interleave}
use Rattle.claxon.proofs.Interleaving.{range_none, range_more, range_all, mono_part, stereo_part}
use Rattle.claxon_md5.specs.HasherCalls.{HashesSamples}
use Rattle.claxon_md5.specs.WholeBytes.{sample_width, whole_bytes_of_samples}
use Rattle.claxon_md5.specs.declared.Md5.{Md5}
use Rattle.claxon_md5.proofs.WholeBytes.{hashes_none, hashes_more}

-- ---- ranges of interchannel samples

pub no_range_hashed : (n : ℕ) (channels : List (List ℤ)) (hasher : Md5)
    → HashesSamples n (interleave_range channels 0 0) hasher hasher
no_range_hashed n channels hasher =
    subst (λ xs. HashesSamples n xs hasher hasher) (sym (range_none channels 0))
    (hashes_none n hasher)

pub next_range_hashed : (n : ℕ) (channels : List (List ℤ)) (from count : ℕ) (old mid new : Md5)
    → HashesSamples n (interleave_range channels 0 from) old mid
    → HashesSamples n (interleave_range channels from count) mid new
    → HashesSamples n (interleave_range channels 0 (from + count)) old new
next_range_hashed n channels from count old mid new before after =
    let first = interleave_range channels 0 from in
    let start : 0 + from ≡ from = omega arith in
    let all = range_more channels 0 from count
    ∙ ap (λ k. first ++ interleave_range channels k count) start in
    hashes_more n first (interleave_range channels from count)
    (interleave_range channels 0 (from + count)) old mid new all before after

pub all_ranges_hashed : (n : ℕ) (channels : List (List ℤ)) (count : ℕ) (old new : Md5)
    → count ≡ duration_of channels
    → HashesSamples n (interleave_range channels 0 count) old new
    → HashesSamples n (interleave channels) old new
all_ranges_hashed n channels count old new whole hashed =
    let all = ap (interleave_range channels 0) whole ∙ range_all channels in
    subst (λ xs. HashesSamples n xs old new) all hashed

-- ---- blocks of one and of two channels

pub mono_interleaved : (channels : List (List ℤ)) (channel : List ℤ)
    → length channels ≡ 1
    → slice_get channels 0 ≡ Some channel
    → length channel ≡ duration_of channels
    → channel ≡ interleave channels
mono_interleaved channels channel one found size =
    let n = duration_of channels in
    let whole = sym (between_to_end channel 0 n (omega (arith, size))) in
    let width : n ≡ n - 0 = omega arith in
    mono_part channels channel channel 0 n n one found whole width size ∙ range_all channels

pub stereo_interleaved : (channels : List (List ℤ)) (left right : List ℤ)
    → length channels ≡ 2
    → slice_get channels 0 ≡ Some left
    → slice_get channels 1 ≡ Some right
    → length left ≡ duration_of channels
    → length right ≡ duration_of channels
    → interleave (left ∷ right ∷ []) ≡ interleave channels
stereo_interleaved channels left right two first second size same_size =
    let n = duration_of channels in
    let all_left = sym (between_to_end left 0 n (omega (arith, size))) in
    let all_right = sym (between_to_end right 0 n (omega (arith, same_size))) in
    let width : n ≡ n - 0 = omega arith in
    sym (range_all (left ∷ right ∷ []))
    ∙ stereo_part channels left right left right 0 n n two first second all_left all_right width
    size
    ∙ range_all channels

-- ---- samples that take two bytes each

-- two numbers of 16 bits as one of 32 bits
pub pair_bytes_16 : (low high n : ℕ) → n ≡ high * 2 ^ 16 % 2 ^ 32 + low % 65536
    → to_le_bytes w32 n ≡ take 2 (to_le_bytes w32 low) ++ take 2 (to_le_bytes w32 high)
pair_bytes_16 low high n n_is =
    let a : n % 256 ≡ low % 256 = omega arith in
    let b : n / 256 % 256 ≡ low / 256 % 256 = omega arith in
    let c : n / 65536 % 256 ≡ high % 256 = omega arith in
    let d : n / 16777216 % 256 ≡ high / 256 % 256 = omega arith in
    rw (a, b, c, d) refl

-- samples of bit depths that take the same number of bytes
pub same_width : (m n : ℕ) (xs : List ℤ) → sample_width m ≡ sample_width n
    → whole_bytes_of_samples m xs ≡ whole_bytes_of_samples n xs
unfolding whole_bytes_of_samples
same_width m n xs width =
    ap (λ k. flat_map (λ x. take k (to_le_bytes w32 (cast_unsigned w32 x))) xs) width
