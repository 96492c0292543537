use Rattle.std.proofs.Common.{length, arith, take, ap, sym, ◌∙◌}
use Rattle.claxon.specs.Bits.{bits_of}
use Rattle.claxon_verify.proofs.Tails.{first_two}
use Rattle.claxon_verify.proofs.trailing.BytesAfter.with_two.Goals as goal

pub returns-in-len2-up : goal.returns-in-len2-up
returns-in-len2-up c = record {
  two = λ m bytes first t tail.
      let two = ap (take 2) (sym c.as_slice.ensures) ∙ first_two c.as_slice.result.now c.in-len2-up.len_at_least in
      c.with_both.ensures m bytes (ap bits_of (sym two) ∙ first.2) t tail;
  fewer = λ few. absurd (let two = c.in-len2-up.len_at_least in let n = ap length c.as_slice.ensures in omega (arith, few, two, n));
}

pub returns-in_default : goal.returns-in_default
returns-in_default c = record {
  two = λ m bytes first t tail. absurd (let few = c.in_default.len_below in let two = first.1 in let n = ap length c.as_slice.ensures in omega (arith, few, two, n));
  fewer = λ few. c.with_frame.ensures;
}
