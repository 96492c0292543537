use Rattle.std.proofs.Common.{sym, subst}
use Rattle.claxon_stream_seek.specs.Kept.{kept_clock}
use Rattle.claxon_stream_seek.specs.declared.clock.Clock.{Clock}
use Rattle.claxon_c.specs.Clock.{CNoteKeepsOrder, CNoteKeepsRight, CNoteKnowsUnit, CNoteKnowsVariable}
use Rattle.claxon_c.proofs.clock.claxon_clock_note.Goals as goal

pub returns-clause-keeps_right : goal.returns-clause-keeps_right
returns-clause-keeps_right c =
    subst (λ (k : Clock). CNoteKeepsRight c.args.frame.now (kept_clock c.args.clock.now) k) (sym c.new.ensures) (rw (c.clock-told.ensures, c.said-said.ensures) at c.note.ensures.keeps_right)

pub returns-clause-keeps_order : goal.returns-clause-keeps_order
returns-clause-keeps_order c =
    subst (λ (k : Clock). CNoteKeepsOrder c.args.frame.now (kept_clock c.args.clock.now) k) (sym c.new.ensures) (rw (c.clock-told.ensures, c.said-said.ensures) at c.note.ensures.keeps_order)

pub returns-clause-knows_unit : goal.returns-clause-knows_unit
returns-clause-knows_unit c =
    subst (λ (k : Clock). CNoteKnowsUnit c.args.frame.now (kept_clock c.args.clock.now) k) (sym c.new.ensures) (rw (c.clock-told.ensures, c.said-said.ensures) at c.note.ensures.knows_unit)

pub returns-clause-knows_variable : goal.returns-clause-knows_variable
returns-clause-knows_variable c =
    subst (λ (k : Clock). CNoteKnowsVariable c.args.frame.now k) (sym c.new.ensures) (rw c.said-said.ensures at c.note.ensures.knows_variable)
