use Rattle.std.proofs.Common.{FitsSigned, get_or, pos, rules, arith, w32}
use Rattle.claxon_subframe.proofs.RestoreLoopByTwo.{newest_read, widened}
use Rattle.claxon_subframe.proofs.subframe.predictor.lanes.NewestFive.of.Goals as goal

pub returns : goal.returns
returns c = record {
  are_newest =
      let fifth : FitsSigned w32 (get_or c.args.samples.now 0 (pos 0)) = search rules in
      let fourth : FitsSigned w32 (get_or c.args.samples.now 1 (pos 0)) = search rules in
      let third : FitsSigned w32 (get_or c.args.samples.now 2 (pos 0)) = search rules in
      let second : FitsSigned w32 (get_or c.args.samples.now 3 (pos 0)) = search rules in
      let newest : FitsSigned w32 (get_or c.args.samples.now 4 (pos 0)) = search rules in
      newest_read c.args.samples.now _ (omega arith)
      (record {
        fifth = widened _ _ fifth c.from.ensures;
        fourth = widened _ _ fourth c.from-2.ensures;
        third = widened _ _ third c.from-3.ensures;
        second = widened _ _ second c.from-4.ensures;
        newest = widened _ _ newest c.from-5.ensures;
      });
}
