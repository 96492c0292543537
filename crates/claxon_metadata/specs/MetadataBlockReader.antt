-- What clauses know of a `MetadataBlockReader`, and what one call of its `next` does.
use Rattle.std.specs.Prelude.{ℕ, Option, None, Some, Result, Bool, true, IfErr, ◌≡◌, MatchBool}
use Rattle.claxon_format.specs.MetadataBlocks.{BlockCode, BlockFault}
use Rattle.claxon_format.specs.read.MetadataBlocks.{block_at}
use Rattle.claxon_input.specs.declared.error.Error.{Error}
use Rattle.claxon_input.specs.Promises.{Promises}
use Rattle.claxon_input.specs.Source.{Source}
use Rattle.claxon_input.specs.State.{bytes_in}
use Rattle.claxon_input.specs.Gives.{GivesOrOutOfMemory}
use Rattle.claxon_metadata.specs.declared.metadata.MetadataBlock.{MetadataBlock}
use Rattle.claxon_metadata.specs.declared.metadata.MetadataBlockReader.{MetadataBlockReader}
use Rattle.claxon_metadata.specs.ReadMetadataBlock.{AtMostBlockIsConsumed, ResultHasBounds}
use Rattle.claxon_metadata.specs.MetadataBlock.{OutOfMemoryAfterBlockHeader, metadata_block_view}

-- the wrapped reader
abbrev pub reader_input : {R A : Type 0} → MetadataBlockReader R A → R
reader_input r = r.input

-- the last block was read, or an Err was returned
abbrev pub has_ended : {R A : Type 0} → MetadataBlockReader R A → Bool
has_ended r = r.done

-- A block with its header was read, or an Err was returned. Nothing follows an Err, nor a block
-- with the last-block flag.
pub record ReadsBlock {R A : Type 0} (source : R → Source ℕ) (old : MetadataBlockReader R A)
    (result : Result (MetadataBlock A) Error) (new : MetadataBlockReader R A) : Type 0 where
  pub bounds : ResultHasBounds result
  pub memory : OutOfMemoryAfterBlockHeader result (bytes_in source (reader_input old))
  pub within : AtMostBlockIsConsumed source (reader_input old) (reader_input new)
  pub promises : Promises (metadata_block_view (has_ended new)) result BlockCode BlockFault
      (bytes_in source (reader_input old)) (bytes_in source (reader_input new))
  pub gives : GivesOrOutOfMemory (metadata_block_view (has_ended new)) result block_at
      (bytes_in source (reader_input old)) (bytes_in source (reader_input new))
  pub ended : IfErr result (λ error. has_ended new ≡ true)

-- one call of `next` before the end
abbrev pub BlockStep : {R A : Type 0} → (R → Source ℕ) → MetadataBlockReader R A
    → Option (Result (MetadataBlock A) Error) → MetadataBlockReader R A → Type 0
BlockStep source old None new = ⊥
BlockStep source old (Some result) new = ReadsBlock source old result new

-- one call of `next`: after the end it returns None and changes nothing
abbrev pub ReaderStep : {R A : Type 0} → (R → Source ℕ) → MetadataBlockReader R A
    → Option (Result (MetadataBlock A) Error) → MetadataBlockReader R A → Type 0
ReaderStep source old result new =
    MatchBool (has_ended old) ((result ≡ None) × (new ≡ old)) (BlockStep source old result new)
