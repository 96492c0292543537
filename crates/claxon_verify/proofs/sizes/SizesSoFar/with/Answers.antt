use Rattle.std.proofs.Common.{refl}
use Rattle.claxon_verify.proofs.BlockSizes.{first_size, next_size}
use Rattle.claxon_verify.proofs.sizes.SizesSoFar.with.Goals as goal

pub returns-in-None : goal.returns-in-None
returns-in-None c = record { adds_size = λ frames frame is long are. first_size c.args.header.now c.args.duration c.args.self _ frame is long frames c.in-None.is refl refl refl refl are }

pub returns-in-Some : goal.returns-in-Some
returns-in-Some c = record { adds_size = λ frames frame is long are. next_size c.args.header.now c.args.duration c.args.self _ frame is long frames c.in-Some.first c.in-Some.is refl refl refl c.changed_after.ensures are }
