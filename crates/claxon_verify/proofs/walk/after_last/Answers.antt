use Rattle.claxon_verify.proofs.Trailed.{none_last, one_last}
use Rattle.claxon_verify.proofs.walk.after_last.Goals as goal

pub returns-then-span : goal.returns-then-span
returns-then-span c = record { keeps = none_last c.args.span c.args.last c.args.after c.if-span.true }

pub returns-else-span : goal.returns-else-span
returns-else-span c = record { keeps = one_last c.args.span c.args.last c.args.after c.with_byte.result c.if-span.false c.with_byte.ensures }
