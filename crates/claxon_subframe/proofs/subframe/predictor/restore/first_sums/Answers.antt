use Rattle.std.proofs.Common.{◌+◌, ◌*◌, get_or, take, reverse, pos, refl, subst, rules, arith, FitsSigned, w32, List, ℤ}
use Rattle.std.proofs.lemmas.List.{take_all}
use Rattle.claxon_subframe.proofs.RestoreLoopByTwo.{both_read, widened}
use Rattle.claxon_subframe.proofs.subframe.predictor.restore.first_sums.Goals as goal

pub loop-pair-init : goal.loop-pair-init
loop-pair-init g c = record { fit = c.no_sums-sums.ensures.fit; pending = λ ks are. c.no_sums-sums.ensures.pending ks }

pub loop-pair-preserved : goal.loop-pair-preserved
loop-pair-preserved g c =
    let first : FitsSigned w32 (get_or c.args.samples.now (2 * c.loop-pair.pair) (pos 0)) = search rules in
    let second : FitsSigned w32 (get_or c.args.samples.now (2 * c.loop-pair.pair + 1) (pos 0)) = search rules in
    record {
      fit = c.advance-sums.ensures.fit;
      pending = λ ks are.
          subst (λ (l : List ℤ). g.T.LaneTaps.pending ks l c.advance-sums.result)
          (both_read c.args.samples.now (2 * c.loop-pair.pair) (2 * c.loop-pair.pair + 1) (2 * (c.loop-pair.pair + 1)) _ _ (widened _ _ first c.from-one.ensures) (widened _ _ second c.from-two.ensures) refl (omega arith) (omega arith))
          (c.advance-sums.ensures.pending ks (reverse (take (2 * c.loop-pair.pair) c.args.samples.now)) are (c.loop-pair.invariant.pending ks are));
    }

pub returns-clause-pending : goal.returns-clause-pending
returns-clause-pending g c = λ ks are.
    subst (λ (l : List ℤ). g.T.LaneTaps.pending ks (reverse l) c.loop-pair.sums) (take_all (2 * c.loop-pair.pair) c.args.samples.now (omega arith)) (c.loop-pair.invariant.pending ks are)
