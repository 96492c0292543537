use Rattle.std.proofs.Common.{get_or, pos, rules, FitsSigned, w16}
use Rattle.claxon_subframe.proofs.Pairs.{widened_16, last_five_are}
use Rattle.claxon_subframe.proofs.subframe.predictor.pairs.newest_coefficients.Goals as goal

pub returns : goal.returns
returns c = record {
  are_newest =
      let f27 : FitsSigned w16 (get_or c.args.padded.now 27 (pos 0)) = search rules in
      let f28 : FitsSigned w16 (get_or c.args.padded.now 28 (pos 0)) = search rules in
      let f29 : FitsSigned w16 (get_or c.args.padded.now 29 (pos 0)) = search rules in
      let f30 : FitsSigned w16 (get_or c.args.padded.now 30 (pos 0)) = search rules in
      let f31 : FitsSigned w16 (get_or c.args.padded.now 31 (pos 0)) = search rules in
      last_five_are c.args.padded.now _ c.told-padded (widened_16 _ _ f27 c.from.ensures) (widened_16 _ _ f28 c.from-2.ensures) (widened_16 _ _ f29 c.from-3.ensures) (widened_16 _ _ f30 c.from-4.ensures) (widened_16 _ _ f31 c.from-5.ensures);
}
