-- The frames of a stream, one after another, and the sample at which each begins.
use Rattle.std.specs.Prelude.{
  ◌≡◌,
  ◌⊎◌,
  ℕ,
  zero,
  suc,
  ◌+◌,
  ◌^◌,
  ◌<◌,
  ◌≤◌,
  Bool,
  true,
  false,
  List,
  [],
  ◌∷◌,
  length,
  slice_get,
  Option,
  Some,
  IfSome,
}
use Rattle.claxon.specs.BlockInfos.{BlockInfo}
use Rattle.claxon.specs.StreamInfos.{StreamInfo}

-- a frame: its position in the stream, the one after its last byte, and what its header says
pub record Placed : Type 0 where
  pub at : ℕ
  pub end : ℕ
  pub info : BlockInfo

-- It is frame i of these.
abbrev pub IsFrame : List Placed → ℕ → Placed → Type 0
IsFrame frames i x = slice_get frames i ≡ Some x

-- the sample of each channel at which frame i begins: as many as the frames before it have
abbrev pub begins_at : List Placed → ℕ → ℕ
begins_at frames zero = 0
begins_at [] (suc i) = 0
begins_at (x ∷ frames) (suc i) = x.info.duration + begins_at frames i

-- Of each frame i the bit says whether the block size is variable, and this is its coded number.
abbrev pub IsNumbered : Bool → (ℕ → ℕ) → List Placed → Type 0
IsNumbered is_variable number frames =
    (i : ℕ) (x : Placed) → IsFrame frames i x
    → (x.info.is_variable ≡ is_variable) × (x.info.number ≡ number i)

module _ (frames : List Placed) where
  -- Numbers are those of samples, as the bit says (RFC 9639, section 9.1.5).
  abbrev pub IsVariable : Type 0
  IsVariable = IsNumbered true (λ i. begins_at frames i) frames

  -- Numbers are those of samples, from before the header had that bit.
  abbrev pub IsOfOldEncoder : Type 0
  IsOfOldEncoder = IsNumbered false (λ i. begins_at frames i) frames

  -- Numbers are those of frames, as the bit says (RFC 9639, section 9.1.5).
  abbrev pub IsFixed : Type 0
  IsFixed = IsNumbered false (λ i. i) frames

  -- Frames stand one after another, whatever is between them, are numbered in one of these ways,
  -- and have as many samples as 64 bits say.
  pub record IsTimeline : Type 0 where
    pub numbers : IsVariable ⊎ (IsOfOldEncoder ⊎ IsFixed)
    pub samples : (i : ℕ) (x : Placed) → IsFrame frames i x → 1 ≤ x.info.duration
    pub bytes : (i : ℕ) (x : Placed) → IsFrame frames i x → x.at < x.end
    pub ascend : (i k : ℕ) (x y : Placed) → IsFrame frames i x → IsFrame frames k y → i < k
        → x.end ≤ y.at
    pub total : (i : ℕ) → begins_at frames i < 2 ^ 64

  -- Each frame begins where the one before it ends.
  abbrev pub AreTogether : Type 0
  AreTogether =
      (i : ℕ) (x y : Placed) → IsFrame frames i x → IsFrame frames (i + 1) y → x.end ≡ y.at

  -- All blocks but the last have one size. It is the streaminfo's, if that has one; then frames
  -- aren't numbered as by an old encoder.
  pub record IsSteady (known : Option StreamInfo) : Type 0 where
    pub size : ℕ
    pub same : (i : ℕ) (x : Placed) → IsFrame frames i x → i + 1 < length frames
        → x.info.duration ≡ size
    pub as_known : IfSome known (λ info.
        info.min_block_size ≡ info.max_block_size
        → (IsVariable ⊎ IsFixed) × (1 < length frames → info.min_block_size ≡ size))
