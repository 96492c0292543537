-- Samples of some bit depths, computed from the definition.
use Rattle.std.proofs.Common.{◌≡◌, [], ◌∷◌, refl, pos, negsuc}
use Rattle.claxon_md5.specs.WholeBytes.{whole_bytes_of_sample, whole_bytes_of_samples}

least_of_4_bits : whole_bytes_of_sample 4 (negsuc 7) ≡ 0xf8 ∷ []
least_of_4_bits = refl

minus_one_of_12_bits : whole_bytes_of_sample 12 (negsuc 0) ≡ 0xff ∷ 0xff ∷ []
minus_one_of_12_bits = refl

greatest_of_16_bits : whole_bytes_of_sample 16 (pos 32767) ≡ 0xff ∷ 0x7f ∷ []
greatest_of_16_bits = refl

least_of_20_bits : whole_bytes_of_sample 20 (negsuc 524287) ≡ 0x00 ∷ 0x00 ∷ 0xf8 ∷ []
least_of_20_bits = refl

two_of_24_bits : whole_bytes_of_samples 24 (pos 0x123456 ∷ negsuc 1 ∷ [])
    ≡ 0x56 ∷ 0x34 ∷ 0x12 ∷ 0xfe ∷ 0xff ∷ 0xff ∷ []
unfolding whole_bytes_of_samples
two_of_24_bits = refl

least_of_32_bits : whole_bytes_of_sample 32 (negsuc 2147483647) ≡ 0x00 ∷ 0x00 ∷ 0x00 ∷ 0x80 ∷ []
least_of_32_bits = refl
