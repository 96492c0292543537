use Rattle.std.proofs.lemmas.Grind.{common_steps}
use Rattle.std.proofs.Common.{◌≡◌, inl, inr, Bool, true, false, not, refl, arith}
use Rattle.std.specs.Prelude.{IsTrue}
use Rattle.claxon_stream.proofs.frames.FrameDecoder.is_worth_a_try.Goals as goal

is_true : (b : Bool) → not b ≡ false → IsTrue b
is_true true e = refl
is_true false e = absurd cc

pub returns-then-may_be_in : goal.returns-then-may_be_in
returns-then-may_be_in c = record {
  position = refl;
  budget = refl;
  faults = refl;
  tried = c.may_be_in.ensures.tried;
  summed = omega (arith, c.may_be_in.ensures.summed);
  waits = λ e. c.if-is_due.false;
  knows = λ stream bytes start known. let k = c.may_be_in.ensures.may_end stream bytes start known in
      (k.0, λ waits. inr (c.is_spent.ensures.0 (is_true c.is_spent.result waits)), λ late tried. k.2 c.if-may_be_in.true);
}

pub returns-else-may_be_in : goal.returns-else-may_be_in
returns-else-may_be_in c = record {
  position = refl;
  budget = refl;
  faults = refl;
  tried = c.may_be_in.ensures.tried;
  summed = omega (arith, c.may_be_in.ensures.summed);
  waits = λ e. c.if-is_due.false;
  knows = λ stream bytes start known. let k = c.may_be_in.ensures.may_end stream bytes start known in
      (k.0, λ waits. inl (k.1 c.if-may_be_in.false), λ late tried. absurd cc);
}

pub returns-then-is_due : goal.returns-then-is_due
returns-then-is_due c = grind (arith, common_steps)
