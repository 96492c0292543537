use Rattle.std.proofs.Common.{rules}
use Rattle.claxon_format.specs.read.Streaminfo.{sizes_at}
use Rattle.claxon_input.proofs.ByteFields.{consumes_big, failure_or_big}
use Rattle.claxon_metadata.proofs.metadata.streaminfo.read_size_bounds.Goals as goal

pub returns-in_err-min_block_size-clause-gives : goal.returns-in_err-min_block_size-clause-gives
unfolding sizes_at
returns-in_err-min_block_size-clause-gives g c =
    search (rules, failure_or_big g.R.ReadBytes.source 2 c.in_err-min_block_size.ensures.failure_or_eof)

pub returns-in_err-max_block_size-clause-gives : goal.returns-in_err-max_block_size-clause-gives
unfolding sizes_at
returns-in_err-max_block_size-clause-gives g c =
    search (rules, consumes_big g.R.ReadBytes.source 2 c.in_ok-min_block_size.min_block_size (search rules) c.in_ok-min_block_size.ensures.is_sound, failure_or_big g.R.ReadBytes.source 2 c.in_err-max_block_size.ensures.failure_or_eof)

pub returns-in_err-min_frame_size-clause-gives : goal.returns-in_err-min_frame_size-clause-gives
unfolding sizes_at
returns-in_err-min_frame_size-clause-gives g c =
    search (rules, consumes_big g.R.ReadBytes.source 2 c.in_ok-min_block_size.min_block_size (search rules) c.in_ok-min_block_size.ensures.is_sound, consumes_big g.R.ReadBytes.source 2 c.in_ok-max_block_size.max_block_size (search rules) c.in_ok-max_block_size.ensures.is_sound, failure_or_big g.R.ReadBytes.source 3 c.in_err-min_frame_size.ensures.failure_or_eof)

pub returns-in_err-max_frame_size-clause-gives : goal.returns-in_err-max_frame_size-clause-gives
unfolding sizes_at
returns-in_err-max_frame_size-clause-gives g c =
    search (rules, consumes_big g.R.ReadBytes.source 2 c.in_ok-min_block_size.min_block_size (search rules) c.in_ok-min_block_size.ensures.is_sound, consumes_big g.R.ReadBytes.source 2 c.in_ok-max_block_size.max_block_size (search rules) c.in_ok-max_block_size.ensures.is_sound, consumes_big g.R.ReadBytes.source 3 c.in_ok-min_frame_size.min_frame_size (search rules) c.in_ok-min_frame_size.ensures.is_sound, failure_or_big g.R.ReadBytes.source 3 c.in_err-max_frame_size.ensures.failure_or_eof)

pub returns-clause-gives : goal.returns-clause-gives
unfolding sizes_at
returns-clause-gives g c =
    search (rules, consumes_big g.R.ReadBytes.source 2 c.in_ok-min_block_size.min_block_size (search rules) c.in_ok-min_block_size.ensures.is_sound, consumes_big g.R.ReadBytes.source 2 c.in_ok-max_block_size.max_block_size (search rules) c.in_ok-max_block_size.ensures.is_sound, consumes_big g.R.ReadBytes.source 3 c.in_ok-min_frame_size.min_frame_size (search rules) c.in_ok-min_frame_size.ensures.is_sound, consumes_big g.R.ReadBytes.source 3 c.in_ok-max_frame_size.max_frame_size (search rules) c.in_ok-max_frame_size.ensures.is_sound)
