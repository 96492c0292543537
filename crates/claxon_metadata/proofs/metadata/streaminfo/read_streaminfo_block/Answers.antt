use Rattle.std.proofs.Common.{◌≡◌, refl, arith}
use Rattle.claxon_format.specs.read.MetadataBlocks.{info_body_at}
use Rattle.claxon_format.specs.read.Streaminfo.{streaminfo_at}
use Rattle.claxon_input.proofs.ConsecutiveCalls.{consumes_none, gives_after}
use Rattle.claxon_metadata.proofs.metadata.streaminfo.read_streaminfo_block.Goals as goal

pub returns-clause-is_read : goal.returns-clause-is_read
unfolding info_body_at
returns-clause-is_read g c =
    let whole : c.args.length ≡ 34 = omega arith in
    gives_after _ c.read_streaminfo.result _ (consumes_none _ (λ s m. info_body_at c.args.length s ≡ streaminfo_at m) (rw whole refl)) c.read_streaminfo.ensures.gives
