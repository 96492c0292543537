use Rattle.std.proofs.Common.{◌≡◌, false, rules, arith}
use Rattle.claxon_format.specs.Fault.{fault_text}
use Rattle.claxon_format.specs.read.CodedNumber.{coded_number_at}
use Rattle.claxon_format.specs.CodedNumber.{bad_first}
use Rattle.claxon_input.proofs.ByteFields.{consumes_byte, first_number}
use Rattle.claxon_input.proofs.ConsecutiveCalls.{gives_after, consumes_map}
use Rattle.claxon_frame.proofs.ContinuationBytes.{one_byte, more_bytes, coded_good, coded_one}
use Rattle.claxon_frame.proofs.frame.header.read_var_length_int.Goals as goal

pub returns-then-ones-eq0 : goal.returns-then-ones-eq0
returns-then-ones-eq0 g c = record { gives = rw c.from.ensures (consumes_map _ (consumes_byte g.R.ReadBytes.source c.in_ok-first.first (search rules) c.in_ok-first.ensures.is_sound) (λ p. coded_one _ _ (one_byte c.in_ok-first.first c.leading_ones-ones.result (search rules) c.leading_ones-ones.ensures c.if-ones-eq0.true) p)) }

pub read_continuation_bytes-requires-clause-number : goal.read_continuation_bytes-requires-clause-number
read_continuation_bytes-requires-clause-number g c =
    let good : bad_first c.in_ok-first.first ≡ false = search rules in
    let m = more_bytes c.in_ok-first.first c.leading_ones-ones.result (search rules) c.leading_ones-ones.ensures c.if-ones-eq0.false good in
    rw c.from-2.ensures m.1.0

pub returns : goal.returns
returns g c = record {
  gives =
      let good : bad_first c.in_ok-first.first ≡ false = search rules in
      let m = more_bytes c.in_ok-first.first c.leading_ones-ones.result (search rules) c.leading_ones-ones.ensures c.if-ones-eq0.false good in
      gives_after _ c.read_continuation_bytes.result _ (consumes_map _ (consumes_byte g.R.ReadBytes.source c.in_ok-first.first (search rules) c.in_ok-first.ensures.is_sound) (λ p. rw c.from-2.ensures (coded_good _ _ m.0 p))) c.read_continuation_bytes.ensures.gives;
}

pub returns-then-matches : goal.returns-then-matches
unfolding coded_number_at fault_text
returns-then-matches g c = grind (arith, first_number)
