-- Samples in the fewest whole bytes, for the MD5 sum in a streaminfo (RFC 9639, section 8.2).
use Rattle.std.specs.Prelude.{ℕ, ◌+◌, ◌/◌, ℤ, List, take, flat_map}
use Rattle.std.specs.Int.{w32, cast_unsigned, to_le_bytes}

-- how many bytes a sample takes: the fewest that hold its bits
abbrev pub sample_width : ℕ → ℕ
sample_width bit_depth = (bit_depth + 7) / 8

-- The two's complement of a sample in that many bytes, the low-order byte first: the first bytes
-- of its two's complement in 32 bits.
abbrev pub whole_bytes_of_sample : ℕ → ℤ → List ℕ
whole_bytes_of_sample bit_depth sample =
    take (sample_width bit_depth) (to_le_bytes w32 (cast_unsigned w32 sample))

-- the bytes of samples, one sample after another
unfoldable pub whole_bytes_of_samples : ℕ → List ℤ → List ℕ
whole_bytes_of_samples bit_depth samples = flat_map (whole_bytes_of_sample bit_depth) samples
