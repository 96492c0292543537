use Rattle.std.proofs.Common.{rules}
use Rattle.claxon_frame.proofs.frame.header.previous_block_size.Goals as goal

pub returns-then-format : goal.returns-then-format
returns-then-format c = search rules

pub returns-else-format : goal.returns-else-format
returns-else-format c = search rules
