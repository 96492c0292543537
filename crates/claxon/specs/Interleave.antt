-- Samples that are stored interleaved.
use Rattle.std.specs.Prelude.{
  ◌≡◌,
  ℕ,
  ◌+◌,
  ◌-◌,
  ◌*◌,
  ◌<◌,
  ℤ,
  pos,
  List,
  [],
  ◌∷◌,
  ◌++◌,
  length,
  take,
  drop,
  get_or,
  refl,
}
use Rattle.std.specs.Int.{cast_unsigned, to_le_bytes, w32}
use Rattle.std.specs.List.{flat_map, range_with_len}
use Rattle.claxon_format.specs.Streams.{samples_at}

-- a sample as itself
abbrev pub sample_itself : ℤ → List ℤ
sample_itself x = x ∷ []

-- a sample as four little-endian bytes in two's complement
unfoldable pub sample_bytes : ℤ → List ℕ
sample_bytes x = to_le_bytes w32 (cast_unsigned w32 x)

pub length-sample_bytes : (x : ℤ) → length (sample_bytes x) ≡ 4
unfolding sample_bytes
length-sample_bytes x = refl

-- `count` interchannel samples from index `from`, interleaved
unfoldable pub interleave_range : List (List ℤ) → ℕ → ℕ → List ℤ
interleave_range channels from count = flat_map (samples_at channels) (range_with_len from count)

-- the units of the interchannel samples from index `from` up to `to`, where `units` are those of
-- a sample
abbrev pub stored_between : {U : Type 0} → (ℤ → List U) → List (List ℤ) → ℕ → ℕ → List U
stored_between units channels from to =
    flat_map units (interleave_range channels from (to - from))

-- chunk i of a buffer in chunks of `size` units
abbrev pub nth_chunk : {U : Type 0} → ℕ → ℕ → List U → List U
nth_chunk size i buffer = take size (drop (i * size) buffer)

-- In chunk i these units follow the first `at` units, which are unchanged.
abbrev pub PutAfter : {U : Type 0} → ℕ → ℕ → ℕ → List U → List U → List U → Type 0
PutAfter size at i put old new =
    take (at + length put) (nth_chunk size i new) ≡ take at (nth_chunk size i old) ++ put

-- In each interchannel sample the sample of channel `ch` is put after those of the channels before
-- it. A sample has `size` units.
abbrev pub PutsChannel : {U : Type 0} → (ℤ → List U) → ℕ → List ℤ → ℕ → ℕ → List U → List U → Type 0
PutsChannel units size samples ch channels old new =
    (i : ℕ) → i < length samples → PutAfter (size * channels) (size * ch) i
    (units (get_or samples i (pos 0))) old new
