use Rattle.std.proofs.Common.{arith}
use Rattle.std.proofs.lemmas.Grind.{common_steps}
use Rattle.claxon_c.proofs.head.show_content.Goals as goal

pub returns-in-StreamInfo : goal.returns-in-StreamInfo
returns-in-StreamInfo c = grind (arith, common_steps)

pub returns-in-VorbisComment : goal.returns-in-VorbisComment
returns-in-VorbisComment c = grind (arith, common_steps)

pub returns-in_default : goal.returns-in_default
returns-in_default c = grind (arith, common_steps)
