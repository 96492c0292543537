-- The samples of a block as the bytes of a WAV file.
use Rattle.std.specs.Prelude.{
  All,
  ◌≡◌,
  ◌==◌,
  ℕ,
  ◌+◌,
  ◌-◌,
  ◌*◌,
  ◌^◌,
  ◌%◌,
  ◌≤◌,
  ℤ,
  List,
  length,
  if◌then◌else◌,
  take,
  IsErrAnd,
  Result,
  OnOk,
}
use Rattle.std.specs.Int.{cast_unsigned, to_le_bytes, w32}
use Rattle.std.specs.List.{flat_map}
use Rattle.claxon.specs.Bits.{FitsIn}
use Rattle.claxon.specs.Streams.{interleave}
use Rattle.claxon.specs.Block.{BlockValue}
use Rattle.claxon.specs.Errors.TheVariants.{OutOfMemory}
use Rattle.claxon_wav.specs.WavError.{IsMemory}
use Rattle.claxon_wav.specs.WaveFile.{sample_size}
use Rattle.claxon_wav.specs.declared.error.Error.{Error}
use Rattle.claxon_wav.specs.declared.error.Error.TheVariants.{Claxon, WideSample}

-- the value of silence: 8-bit samples are unsigned
abbrev pub silence : ℕ → ℕ
silence size = if size == 1 then 128 else 0

-- a sample shifted up by `shift` bits, as a 32-bit number
abbrev pub shifted_sample : ℕ → ℕ → ℤ → ℕ
shifted_sample shift silence x = (cast_unsigned w32 x * 2 ^ shift % 2 ^ 32 + silence) % 2 ^ 32

-- A sample as `size` little-endian bytes; its valid bits are the most significant ones.
unfoldable pub bytes_of_sample : ℕ → ℕ → ℤ → List ℕ
bytes_of_sample size valid_bits x =
    take size (to_le_bytes w32 (shifted_sample (8 * size - valid_bits) (silence size) x))

-- the bytes of samples, one after another
abbrev pub packed_samples : ℕ → List ℤ → List ℕ
packed_samples valid_bits xs = flat_map (bytes_of_sample (sample_size valid_bits) valid_bits) xs

-- the bytes of a block's interleaved samples
abbrev pub packed_block : ℕ → BlockValue → List ℕ
packed_block valid_bits block = packed_samples valid_bits (interleave block.channels)

-- `WideSample` says that not all samples fit in the valid bits. Any other error is `OutOfMemory`.
abbrev pub IsTooWide : ℕ → Error → List ℤ → Type 0
IsTooWide valid_bits WideSample xs = All (FitsIn valid_bits) xs → ⊥
IsTooWide valid_bits error xs = error ≡ Claxon OutOfMemory

-- Buffers of these capacities hold n samples, and their bytes.
abbrev pub HaveCapacity : ℕ → ℕ → ℕ → ℕ → Type 0
HaveCapacity valid_bits n interleaved bytes =
    (n ≤ interleaved) × (n * sample_size valid_bits ≤ bytes)

-- Buffers of these capacities hold the samples of the block, and their bytes.
abbrev pub HoldBlock : ℕ → BlockValue → ℕ → ℕ → Type 0
HoldBlock valid_bits block interleaved bytes =
    HaveCapacity valid_bits (length (interleave block.channels)) interleaved bytes

-- With these capacities no memory is refused.
abbrev pub PackHasMemory : ℕ → BlockValue → Result (Unit {0}) Error → ℕ → ℕ → Type 0
PackHasMemory valid_bits block r interleaved bytes =
    IsErrAnd r IsMemory → HoldBlock valid_bits block interleaved bytes → ⊥

-- An Ok left these capacities.
abbrev pub PackTakesRoom : ℕ → BlockValue → Result (Unit {0}) Error → ℕ → ℕ → Type 0
PackTakesRoom valid_bits block r interleaved bytes =
    OnOk r (HoldBlock valid_bits block interleaved bytes)
