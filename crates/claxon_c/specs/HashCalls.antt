-- What the calls for the MD5 sum of samples do.
use Rattle.std.specs.Prelude.{◌≡◌, ◌≢◌, ◌≤◌, ◌%◌, ℕ, ℤ, List, Some, length}
use Rattle.claxon.specs.Block.{AreOfLength, joined}
use Rattle.claxon.specs.Frame.{IsBitDepth}
use Rattle.claxon.specs.Streams.{duration_of, interleave}
use Rattle.claxon_md5.specs.HasherCalls.{HashesSamples, IsDigest}
use Rattle.claxon_md5.specs.declared.Md5.{Md5}
use Rattle.claxon_c.specs.Status.{ok, unsupported}

-- With 1 to 32 bits per sample the status is `ok`, and the samples are hashed.
abbrev pub CSamplesAreHashed : ℕ → List ℤ → ℕ → Md5 → Md5 → Type 0
CSamplesAreHashed bit_depth samples status old new =
    IsBitDepth (Some bit_depth) → (status ≡ ok) × HashesSamples bit_depth samples old new

-- With another number the status is `unsupported`.
abbrev pub COtherDepthIsUnsupported : ℕ → ℕ → Type 0
COtherDepthIsUnsupported bit_depth status =
    (IsBitDepth (Some bit_depth) → ⊥) → status ≡ unsupported

-- There are samples of 1 to 32 bits, and of 1 to 8 channels as many of each.
pub record IsPlanar (bit_depth channels count : ℕ) : Type 0 where
  pub depth : IsBitDepth (Some bit_depth)
  pub some_channels : 1 ≤ channels
  pub few_channels : channels ≤ 8
  pub same_lengths : count % channels ≡ 0

-- The samples are those of these channels of the same length, one channel after another.
pub record ArePlanarOf (channels : List (List ℤ)) (samples : List ℤ) : Type 0 where
  pub same_length : AreOfLength (duration_of channels) channels
  pub are : samples ≡ joined channels

-- Then the status is `ok`, and the interleaved samples of the channels are hashed.
abbrev pub CPlanarAreHashed : ℕ → ℕ → List ℤ → ℕ → Md5 → Md5 → Type 0
CPlanarAreHashed bit_depth count samples status old new =
    IsPlanar bit_depth count (length samples)
    → (status ≡ ok) × ((channels : List (List ℤ)) → length channels ≡ count
    → ArePlanarOf channels samples → HashesSamples bit_depth (interleave channels) old new)

-- Otherwise the status is `unsupported`.
abbrev pub COtherPlanarIsUnsupported : ℕ → ℕ → ℕ → ℕ → Type 0
COtherPlanarIsUnsupported bit_depth channels count status =
    (IsPlanar bit_depth channels count → ⊥) → status ≡ unsupported

-- The hasher is changed by `ok` alone.
abbrev pub HasherIsKept : ℕ → Md5 → Md5 → Type 0
HasherIsKept status old new = status ≢ ok → new ≡ old

-- The sum is that of the bytes that were hashed.
abbrev pub CSumIsFound : Md5 → List ℕ → Type 0
CSumIsFound hasher sum = IsDigest hasher sum
