use Rattle.std.proofs.Common.{rules, arith, ◌∙◌, w32}
use Rattle.std.proofs.lemmas.Int.{to_z-of_z}
use Rattle.claxon_subframe.proofs.RiceCodeShifts.{encoded_code_from}
use Rattle.claxon_subframe.proofs.SignExtension.{number_from}
use Rattle.claxon_subframe.proofs.subframe.rice.RiceCodeGroupCode.decode_value.Goals as goal

pub returns : goal.returns
returns c = record {
  gives_buffered_or_none = λ rest.
      let low = number_from c.args.self.parameter _ _ (omega arith) (c.in_ok-low.ensures.gives_buffered_or_none rest) in
      encoded_code_from c.args.self.parameter c.in_ok-quotient.quotient c.in_ok-low.low _ _ _ _ c.args.self.bound (c.in_ok-quotient.ensures.gives_buffered_or_none rest) low (to_z-of_z w32 c.cast_signed.result (search rules) ∙ c.cast_signed.ensures);
}
