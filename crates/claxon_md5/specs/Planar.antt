-- Samples of channels of the same length, one channel after another.
use Rattle.std.specs.Prelude.{ℕ, ℤ, pos, ◌+◌, ◌*◌, ◌/◌, ◌%◌, List, get_or, length, map}
use Rattle.std.specs.List.{range_with_len}
use Rattle.claxon_md5.specs.HasherCalls.{HashesSamples}
use Rattle.claxon_md5.specs.declared.Md5.{Md5}

-- sample k of the interleaved ones: it is of channel k % channels, and has the index k / channels
abbrev pub interleaved_sample : ℕ → List ℤ → ℕ → ℤ
interleaved_sample channels samples k =
    get_or samples (k % channels * (length samples / channels) + k / channels) (pos 0)

-- so many of the interleaved samples, from one on
abbrev pub interleaved_part : ℕ → List ℤ → ℕ → ℕ → List ℤ
interleaved_part channels samples from count =
    map (interleaved_sample channels samples) (range_with_len from count)

-- the same samples, interleaved: the first of each channel, the second of each, and so on
abbrev pub interleaved_samples : ℕ → List ℤ → List ℤ
interleaved_samples channels samples = interleaved_part channels samples 0 (length samples)

-- They are hashed too, interleaved.
abbrev pub HashesPlanar : ℕ → ℕ → List ℤ → Md5 → Md5 → Type 0
HashesPlanar channels bit_depth samples old new =
    HashesSamples bit_depth (interleaved_samples channels samples) old new
