use Rattle.std.proofs.Common.{◌≡◌, inl, inr, ℕ, ◌+◌, refl, subst}
use Rattle.std.specs.Prelude.{Option}
use Rattle.claxon.specs.BlockInfos.{BlockInfo}
use Rattle.claxon_stream_seek.specs.Clock.{HasLast, time_after}
use Rattle.claxon_stream_seek.specs.declared.clock.Clock.{Clock}
use Rattle.claxon_stream_seek.proofs.Clocks.{keeps_order, keeps_right, keeps_unit, knows_variable, learns_unit, next_follows}
use Rattle.claxon_stream_seek.proofs.clock.Clock.note.Goals as goal

last_of : (end : ℕ) (info : BlockInfo) (o after : Option ℕ) (between new : Clock) → o ≡ after → HasLast end info o between new → HasLast end info after between new
last_of end info o after between new is h = subst (λ (x : Option ℕ). HasLast end info x between new) is h

pub returns-clause-keeps_right : goal.returns-clause-keeps_right
returns-clause-keeps_right c = λ known frames steady t r i e.
    let info = c.args.frame.now in
    let last = last_of c.args.end info _ (time_after c.time-time.result info.duration) c.learnt_by-learnt.result c.with_last.result c.time_after.ensures c.with_last.ensures in
    keeps_right c.time-time.result c.learnt_by-learnt.ensures last frames t known steady r i e
    (c.time-time.ensures.is_exact known frames steady t r i (record { at = c.args.at; end = c.args.end; info = info }) e refl refl)

pub returns-clause-keeps_order : goal.returns-clause-keeps_order
returns-clause-keeps_order c = λ frames t together i seen e.
    let info = c.args.frame.now in
    let last = last_of c.args.end info _ (time_after c.time-time.result info.duration) c.learnt_by-learnt.result c.with_last.result c.time_after.ensures c.with_last.ensures in
    keeps_order c.time-time.result c.learnt_by-learnt.ensures last frames t i e
    (c.time-time.ensures.is_in_order frames t together i (record { at = c.args.at; end = c.args.end; info = info }) seen e refl refl)

pub returns-clause-knows_unit : goal.returns-clause-knows_unit
returns-clause-knows_unit c = λ known frames steady t r i e k.
    let info = c.args.frame.now in
    let last = last_of c.args.end info _ (time_after c.time-time.result info.duration) c.learnt_by-learnt.result c.with_last.result c.time_after.ensures c.with_last.ensures in
    elim k [
      | inl unit ↦ keeps_unit c.time-time.result c.learnt_by-learnt.ensures last frames t known steady r (i + 1) e unit
      | inr pair ↦ (let y = pair.3 in
          learns_unit c.time-time.result c.learnt_by-learnt.ensures last frames t known steady r (i + 1) e pair.0
          (next_follows frames t c.args.self.now i y.0 (record { at = c.args.at; end = c.args.end; info = info }) y.1 pair.1 y.2 e) pair.2)
    ]

pub returns-clause-knows_variable : goal.returns-clause-knows_variable
returns-clause-knows_variable c = knows_variable c.args.at c.args.frame.now c.args.self.now c.learnt_by-learnt.result c.with_last.result c.learnt_by-learnt.ensures c.with_last.ensures.counts
