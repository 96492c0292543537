use Rattle.std.proofs.Common.{rules}
use Rattle.claxon_frame.proofs.frame.header.parts.ChannelAssignment.channels.Goals as goal

pub returns-in_default : goal.returns-in_default
returns-in_default c = search rules
