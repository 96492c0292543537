use Rattle.std.proofs.Common.{Global, rules, ◌≡◌, length, min}
use Rattle.claxon.specs.MetadataBlock.{content_view}
use Rattle.claxon_c.proofs.BlockContents.{body_is_read, like_least}
use Rattle.claxon_c.proofs.contents.read_body.Goals as goal

pub returns-clause-is_read : goal.returns-clause-is_read
returns-clause-is_read c =
    let e = c.read_metadata_block.ensures in
    let m = c.min-length.result in
    let least : m ≡ min (length c.args.content.now) 4294967295 = search rules in
    body_is_read (content_view {A = Global}) c.args.block_type m c.args.content c.new.result c.read_metadata_block.new.input c.new.ensures.position c.new.ensures.inner c.requires (like_least m (length c.args.content.now) least)
    c.read_metadata_block.result e.is_sound e.is_complete e.fault_is_sound e.fault_is_complete e.out_of_memory_after_lengths.0 e.out_of_memory_after_lengths.1
