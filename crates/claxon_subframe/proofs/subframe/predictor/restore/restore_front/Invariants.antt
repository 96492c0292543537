use Rattle.std.proofs.Common.{◌≡◌, ◌+◌, ◌*◌, List, ℤ, length}
use Rattle.claxon_format.specs.Predict.{linear}
use Rattle.claxon_subframe.specs.PendingSums.{AreNewest}
use Rattle.claxon_subframe.specs.PredictorState.{StandsAt, AreRestored}
use Rattle.claxon_subframe.proofs.subframe.predictor.restore.restore_front.Given as goal

abbrev pub invariant-loop-ten : goal.invariant-loop-ten
invariant-loop-ten g l = record {
  kept : length l.buffer ≡ length l.fn.buffer;
  fits : g.T.LaneTaps.fit l.current.sums;
  restored : (ks : List ℤ) → g.T.LaneTaps.coefficients l.taps ks → AreNewest ks l.last → StandsAt (g.T.LaneTaps.pending ks) l.fn.buffer l.start l.fn.state
      → AreRestored (g.T.LaneTaps.pending ks) (linear ks l.shift) l.fn.buffer l.start l.buffer (l.start + 10 * l.ten) l.current;
}
