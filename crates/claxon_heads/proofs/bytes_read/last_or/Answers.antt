use Rattle.claxon_heads.proofs.LastBytes.{last_at}
use Rattle.claxon_heads.proofs.bytes_read.last_or.Goals as goal

pub returns-in-len1-up : goal.returns-in-len1-up
returns-in-len1-up c = last_at c.args.other c.args.bytes.now c.in-len1-up.len_at_least
