-- What a call answers that seeks to a sample, and decodes its block.
use Rattle.std.specs.Prelude.{◌≡◌, ℕ, List, drop, Option, None, Some, Result, Ok, Err}
use Rattle.claxon.specs.Block.{BlockValue}
use Rattle.claxon.specs.BlockInfos.{BlockInfo}
use Rattle.claxon.specs.Errors.{Error}
use Rattle.claxon.specs.Frame.{Frame}
use Rattle.claxon.specs.FrameReader.{block_view}
use Rattle.claxon.specs.Promises.{IsOutOfMemory}
use Rattle.claxon.specs.StreamInfos.{StreamInfo}
use Rattle.claxon_seek.specs.AtStart.{BeginsWithLength}
use Rattle.claxon_seek.specs.Find.{WantedFrame, WantedHeader, known_format}
use Rattle.claxon_seek.specs.Seek.{found_at, not_found, stopped_at}
use Rattle.claxon_seek.specs.declared.search.BlockSearch.{BlockSearch}
use Rattle.claxon_seek.specs.declared.search.BlockSearch.TheVariants.{Found, NotFound, OverBudget}
use Rattle.claxon_seek.specs.declared.search.FoundBlock.{FoundBlock}
use Rattle.claxon_seek.specs.declared.search.Search.{Search}

-- the same answer without the block
abbrev pub searched : Result BlockSearch Error → Result Search Error
searched (Ok (Found found)) = Ok (found_at found.frame)
searched (Ok (NotFound undecided)) = Ok (not_found undecided)
searched (Ok (OverBudget to)) = Ok (stopped_at to)
searched (Err e) = Err e

-- the answer of a search that found a frame and decoded it
abbrev pub decoded_at : ℕ → BlockInfo → ℕ → BlockValue → BlockSearch
decoded_at at info len block =
    Found (record { frame = record { position = at; block = info }; len = len; block = block })

module _ (known : Option StreamInfo) (bytes : List ℕ) where
  -- At the position of the frame the bytes begin with the code of its block, which has this length.
  abbrev pub HasBlock : FoundBlock → Type 0
  HasBlock found =
      BeginsWithLength (Frame (known_format known) (block_view found.block))
      (drop found.frame.position bytes) found.len

  -- The block that is returned is that of the frame.
  abbrev pub BlockIsDecoded : Result BlockSearch Error → Type 0
  BlockIsDecoded (Ok (Found found)) = HasBlock found
  BlockIsDecoded _ = Unit {0}

  -- A frame whose block has the sample begins at the position, and is returned, or none does.
  -- `OutOfMemory`, and no other Err, is returned only where the header of one begins there.
  abbrev pub BlockThere : ℕ → ℕ → Result (Option FoundBlock) Error → Type 0
  BlockThere at sample (Ok (Some found)) =
      (found.frame.position ≡ at)
      × WantedFrame known (Some sample) (drop at bytes) found.frame.block × HasBlock found
  BlockThere at sample (Ok None) =
      (info : BlockInfo) → WantedFrame known (Some sample) (drop at bytes) info → ⊥
  BlockThere at sample (Err e) =
      IsOutOfMemory {A = Option FoundBlock} (Err e)
      × ((info : BlockInfo) × WantedHeader known (Some sample) (drop at bytes) info)
