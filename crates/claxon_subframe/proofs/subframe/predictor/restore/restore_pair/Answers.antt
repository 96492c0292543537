use Rattle.std.proofs.Common.{◌+◌, ◌∙◌, get_or, take, reverse, pos, refl, sym, rules, arith, subst, ℤ, FitsSigned, to_z, of_z, w32, w64}
use Rattle.std.proofs.lemmas.Bool.{false≢true}
use Rattle.std.proofs.lemmas.Int.{to_z-of_z}
use Rattle.claxon_subframe.proofs.Lanes.{kept_fit_64, same_fit_64}
use Rattle.claxon_subframe.proofs.RestoreLoopByTwo.{as_i64, narrowed}
use Rattle.claxon_subframe.proofs.PredictorState.{pair_restored}
use Rattle.claxon_subframe.proofs.subframe.predictor.restore.restore_pair.Goals as goal

pub followed_by_two-newest-requires-clause-lanes_fit64 : goal.followed_by_two-newest-requires-clause-lanes_fit64
followed_by_two-newest-requires-clause-lanes_fit64 g c = kept_fit_64 c.next_four-pending.ensures.lanes_fit64

pub returns-clause-restores_pair : goal.returns-clause-restores_pair
returns-clause-restores_pair g c = λ ks are last stands.
    let xs = c.args.buffer.now in
    let i = c.args.i in
    let first : FitsSigned w32 (get_or c.args.buffer.now c.args.i (pos 0)) = search rules in
    let after : FitsSigned w32 (get_or c.args.buffer.now (c.args.i + 1) (pos 0)) = search rules in
    let new = c.followed_by_two-newest.result in
    let one = narrowed new.second c.low_bits.result c.followed_by_two-newest.ensures.second c.low_bits.ensures in
    let two = narrowed new.newest c.low_bits-2.result c.followed_by_two-newest.ensures.newest c.low_bits-2.ensures in
    let pending = same_fit_64 c.next_four-pending.ensures.lanes_fit64 ∙ c.next_four-pending.ensures.pending ks (reverse (take i xs)) stands.sums in
    record {
      ok = pair_restored (g.T.LaneTaps.pending ks) ks xs _ c.args.shift i (i + 1) (i + 2) _ _ _ _ _ _ c.args.last c.args.state _ refl (omega arith) (omega arith) last stands
          pending (to_z-of_z w32 _ first) (to_z-of_z w32 _ after) c.followed_by_two-newest.ensures.is_followed_by_two one two
          (one ∙ sym (as_i64 new.second c.followed_by_two-newest.ensures.second)) (two ∙ sym (as_i64 new.newest c.followed_by_two-newest.ensures.newest))
          (c.advance-sums.ensures.pending ks (reverse (take i xs)) are stands.sums);
      err = tt;
    }

pub returns-then-not-both_fit-clause-all : goal.returns-then-not-both_fit-clause-all
returns-then-not-both_fit-clause-all g c = λ each.
    let new = c.followed_by_two-newest.result in
    let fit = c.followed_by_two-newest.ensures in
    let fits = λ (z : ℤ) (f : FitsSigned w32 z). each (to_z w64 (of_z w64 z)) (subst (λ (y : ℤ). FitsSigned w32 y) (sym (as_i64 z f)) f) in
    absurd (false≢true (sym c.if-not-both_fit.true ∙ c.both_fit.ensures.1 (fits new.second fit.second, fits new.newest fit.newest)))
