use Rattle.std.proofs.Common.{◌∙◌, ap, arith, length}
use Rattle.std.proofs.lemmas.Result.{err_from_is_err_and}
use Rattle.claxon_recovery.proofs.Reading.{on_fail}
use Rattle.claxon_recovery.proofs.window.Window.fill.Goals as goal

pub read_more-requires : goal.read_more-requires
read_more-requires g c = let shown = ap length c.pending.ensures in omega (arith, c.requires, c.loop-self.invariant.most, c.loop-self-test.true, shown)

pub returns-in_err-read_more-clause-err : goal.returns-in_err-read_more-clause-err
returns-in_err-read_more-clause-err g c =
    let p = err_from_is_err_and c.from_residual.result c.from_residual.ensures.1 in
    rw (p.1, p.2) (on_fail g.R.ReadBytes.source c.in_err-read_more.field-0.0 c.loop-self.invariant.reads c.in_err-read_more.ensures.err)

pub returns-in_err-read_more-clause-most : goal.returns-in_err-read_more-clause-most
returns-in_err-read_more-clause-most g c = c.read_more.ensures.most ∙ c.loop-self.invariant.most

pub returns-then-not-branch-clause-most : goal.returns-then-not-branch-clause-most
returns-then-not-branch-clause-most g c = c.read_more.ensures.most ∙ c.loop-self.invariant.most

pub returns-clause-most : goal.returns-clause-most
returns-clause-most g c = c.loop-self.invariant.most
