use Rattle.std.proofs.Common.{rules}
use Rattle.claxon_c.proofs.status.claxon_status_text.Goals as goal

pub returns : goal.returns
returns c = search rules
