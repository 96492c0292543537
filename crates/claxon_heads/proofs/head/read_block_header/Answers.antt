use Rattle.std.proofs.Common.{rules}
use Rattle.claxon_format.specs.read.Metadata.{block_header_at}
use Rattle.claxon_input.proofs.ByteFields.{consumes_byte, consumes_big}
use Rattle.claxon_heads.proofs.head.read_block_header.Goals as goal

pub returns : goal.returns
unfolding block_header_at
returns g c =
    record { gives = search (rules, consumes_byte g.R.ReadBytes.source c.in_ok-first.first (search rules) c.in_ok-first.ensures.is_sound, consumes_big g.R.ReadBytes.source 3 c.in_ok-length.length (search rules) c.in_ok-length.ensures.is_sound) }
