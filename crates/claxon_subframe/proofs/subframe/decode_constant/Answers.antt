use Rattle.std.proofs.Common.{rules}
use Rattle.claxon_subframe.proofs.subframe.decode_constant.Goals as goal

pub returns : goal.returns
returns g c = record { fills_buffer = search rules }
