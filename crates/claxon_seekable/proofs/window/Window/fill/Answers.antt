use Rattle.std.proofs.Common.{sym, ap, ◌∙◌, length, arith}
use Rattle.claxon_seekable.proofs.Windows.{is_fuller}
use Rattle.claxon_seekable.proofs.window.Window.fill.Goals as goal

pub loop-self-smaller : goal.loop-self-smaller
loop-self-smaller g c =
    is_fuller c.args.wanted c.loop-self.self c.read_more.new.self (sym c.has_end.ensures ∙ c.if-not-has_end.true) (omega (arith, c.loop-self-test.true, ap length c.held.ensures)) c.in_ok-read_more.ensures.more
