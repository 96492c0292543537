use Rattle.std.proofs.Common.{◌≡◌, inl, inr, ℕ, false, sym, ap, ◌∙◌}
use Rattle.std.specs.Prelude.{◌⊎◌, Some}
use Rattle.claxon_stream_seek.specs.Clock.{follows}
use Rattle.claxon_stream_seek.proofs.Clocks.{known_numbered, not_in_order, time_next, time_numbered}
use Rattle.claxon_stream_seek.proofs.clock.Clock.time.Goals as goal
use Rattle.claxon_stream_seek.proofs.clock.Clock.time.Goals.{else-self-via-then-self+else-follows, else-self-via-else-self}

pub returns-then-follows-clause-is_exact : goal.returns-then-follows-clause-is_exact
returns-then-follows-clause-is_exact c = λ known frames steady t r i x e p q.
    time_next frames t i x e c.args.at c.args.frame.now p q c.args.self.now known steady r (sym c.follows.ensures ∙ c.if-follows.true) c.if-self.true

pub returns-then-follows-clause-is_known : goal.returns-then-follows-clause-is_known
returns-then-follows-clause-is_known c = λ known frames steady t r i x e p q k.
    ap (λ (n : ℕ). Some n) (time_next frames t i x e c.args.at c.args.frame.now p q c.args.self.now known steady r (sym c.follows.ensures ∙ c.if-follows.true) c.if-self.true)

pub returns-clause-is_exact : goal.returns-clause-is_exact
returns-clause-is_exact c = λ known frames steady t r i x e p q.
    time_numbered frames t i x e c.args.at c.args.frame.now p q c.args.self.now known steady r c.if-frame.false c.if-frame-eq0.false c.time_by_number.result c.time_by_number.ensures

pub returns-clause-is_known : goal.returns-clause-is_known
returns-clause-is_known c = λ known frames steady t r i x e p q k.
    known_numbered frames t i x e c.args.at c.args.frame.now p q c.args.self.now known steady r c.if-frame.false c.if-frame-eq0.false c.time_by_number.result c.time_by_number.ensures k

pub returns-clause-is_in_order : goal.returns-clause-is_in_order
returns-clause-is_in_order c = λ frames t together i x seen e p q.
    let other : (c.args.self.now.has_time ≡ false) ⊎ (follows c.args.self.now c.args.at c.args.frame.now ≡ false) = elim c.else-self.branch [
      | else-self-via-then-self+else-follows w ↦ inr (sym w.follows.ensures ∙ w.if-follows.false)
      | else-self-via-else-self w ↦ inl w.if-self.false
    ] in
    absurd (not_in_order frames t i x e c.args.at c.args.frame.now p q c.args.self.now together seen c.if-frame-eq0.false other)
