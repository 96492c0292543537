use Rattle.std.proofs.Common.{◌≡◌, Bool, true, Ok, Err, refl, ap}
use Rattle.claxon_format.specs.read.MetadataBlocks.{block_at}
use Rattle.claxon_format.proofs.MetadataBlocks.{Reads-block}
use Rattle.claxon_input.specs.declared.error.Error.{Error}
use Rattle.claxon_input.specs.declared.error.Error.TheVariants.{OutOfMemory}
use Rattle.claxon_input.proofs.Promises.{promises}
use Rattle.claxon_metadata.specs.declared.metadata.MetadataBlock.{MetadataBlock}
use Rattle.claxon_metadata.specs.MetadataBlock.{metadata_block_view}
use Rattle.claxon_input.proofs.Memory.{err_any_view}
use Rattle.claxon_metadata.proofs.metadata.MetadataBlockReader.read_next.Goals as goal

pub returns-in-Ok : goal.returns-in-Ok
returns-in-Ok g c = record {
  reads_block =
      record {
        bounds = c.in-Ok.ensures.bounds;
        memory = λ out_of_memory known. absurd cc;
        within = c.in-Ok.ensures.at_most_block_is_consumed;
        promises = promises Reads-block (metadata_block_view c.in-Ok.is_last) (Ok c.in-Ok.block) _ _ c.in-Ok.ensures.is_read;
        gives = c.in-Ok.ensures.is_read;
        ended = tt;
      };
}

pub returns-in-Err : goal.returns-in-Err
returns-in-Err g c = record {
  reads_block =
      let out_of_memory_or_gives = err_any_view (metadata_block_view {A = g.row.A.Denot} true) (λ (found : Bool × MetadataBlock g.row.A.Denot). metadata_block_view found.0 found.1) c.in-Err.error block_at _ _ c.in-Err.ensures.is_read in
      record {
        bounds = tt;
        memory = λ out_of_memory. c.in-Err.ensures.out_of_memory_after_block_header (let same : c.in-Err.error ≡ OutOfMemory = cc out_of_memory in ap (λ (z : Error). Err z) same);
        within = c.in-Err.ensures.at_most_block_is_consumed;
        promises = promises Reads-block (metadata_block_view true) (Err c.in-Err.error) _ _ out_of_memory_or_gives;
        gives = out_of_memory_or_gives;
        ended = refl;
      };
}
