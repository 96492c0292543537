-- The next frame of a stream, after any damage, and what it says of the stream.
use Rattle.std.specs.Prelude.{
  ◌≡◌,
  ◌⊎◌,
  ◌+◌,
  ◌%◌,
  ◌^◌,
  ◌≤◌,
  ℕ,
  IfErr,
  IfOk,
  List,
  [],
  ◌++◌,
  length,
  min,
  Option,
  None,
  Some,
  Result,
}
use Rattle.claxon.specs.BlockInfos.{BlockInfo}
use Rattle.claxon.specs.Errors.{Error}
use Rattle.claxon.specs.Errors.TheVariants.{OutOfMemory}
use Rattle.claxon.specs.MetadataBlock.{or_zero}
use Rattle.claxon.specs.Source.{Source}
use Rattle.claxon.specs.StreamInfos.{StreamInfo}
use Rattle.claxon_blocks.specs.FirstBytes.{AreZeros}
use Rattle.claxon_recovery.specs.AtStart.{StreamFrame}
use Rattle.claxon_recovery.specs.Budget.{CountsUnsearched}
use Rattle.claxon_recovery.specs.Parts.{
  Goes,
  NoFrames,
  PartFails,
  SourceIsKnown,
  parts_budget,
  parts_known,
  parts_position,
  unread,
}
use Rattle.claxon_recovery.specs.declared.part.FrameThere.{FrameThere}
use Rattle.claxon_recovery.specs.declared.parts.Parts.{Parts}

-- ---- where it stands

-- At the first positions, as many as the bytes of `front`, no frame of the stream begins; but so
-- many of them, modulo 2 ^ 64, weren't searched.
pub record NoneIn (known : Option StreamInfo) (s front : List ℕ) (count : ℕ) : Type 0 where
  pub unsearched : ℕ
  pub count_is : unsearched % 2 ^ 64 ≡ count % 2 ^ 64
  pub none : NoFrames known s (length front) unsearched

-- The first frame of s, of which m is left after it. The first byte of s is at the position
-- `start`.
pub record IsNextFrame (known : Option StreamInfo) (start : ℕ) (s m : List ℕ) (count : ℕ)
    (there : FrameThere) : Type 0 where
  pub front : List ℕ
  pub bytes : List ℕ
  pub joined : s ≡ front ++ (bytes ++ m)
  pub none : NoneIn known s front count
  pub frame : StreamFrame known there.frame bytes
  pub start_is : there.start % 2 ^ 64 ≡ (start + length front) % 2 ^ 64
  pub end_is : there.end % 2 ^ 64 ≡ (start + length front + length bytes) % 2 ^ 64

-- That frame, or there is none, and nothing is left.
abbrev pub IsNext : Option StreamInfo → ℕ → List ℕ → List ℕ → ℕ → Option FrameThere → Type 0
IsNext known start s m count (Some there) = IsNextFrame known start s m count there
IsNext known start s m count None = NoneIn known s s count × (m ≡ [])

module _ {R : Type 0} (source : R → Source ℕ) (old new : Parts R) where
  -- The frame that is answered is the first one, where the bytes are known, and no read of the
  -- source failed. The positions that weren't searched are counted by the budget.
  abbrev pub NextFrameIsThere : Result (Option FrameThere) Error → Type 0
  NextFrameIsThere result = IfOk result (λ found.
      (count : ℕ) × CountsUnsearched count (parts_budget old) (parts_budget new)
      × Goes source old new
      (λ s m. IsNext (parts_known old) (parts_position old) s m count found))

  -- An Err says that memory was refused, that a read failed, or that too many bytes are no frame.
  abbrev pub NextFrameErrIsExcused : Result (Option FrameThere) Error → Type 0
  NextFrameErrIsExcused result = IfErr result (λ e.
      (e ≡ OutOfMemory)
      ⊎ (PartFails source old new e
      ⊎ (SourceIsKnown source old → 2 ^ 64 ≤ length (unread source old) + 1)))

-- ---- what a frame says

-- The streaminfo says what is known of the stream of this frame.
pub record IsInfoOfFrame (block : BlockInfo) (info : StreamInfo) : Type 0 where
  pub channels : info.channels ≡ block.channels
  pub bit_depth : 1 ≤ block.bit_depth → block.bit_depth ≤ 32
      → info.bits_per_sample ≡ block.bit_depth
  pub rate : info.sample_rate ≡ or_zero block.sample_rate
  pub min_block_size : info.min_block_size ≡ min block.duration 65535
  pub max_block_size : info.max_block_size ≡ min block.duration 65535
  pub min_frame_size : info.min_frame_size ≡ None
  pub max_frame_size : info.max_frame_size ≡ None
  pub samples : info.samples ≡ None
  pub md5 : AreZeros info.md5sum
