use Rattle.std.proofs.Common.{rules, arith, ◌∙◌, w32, FitsSigned}
use Rattle.std.proofs.lemmas.Int.{to_z-of_z}
use Rattle.claxon_subframe.proofs.SignExtension.{number_from, sample_from}
use Rattle.claxon_subframe.proofs.subframe.verbatim.VerbatimGroupCode.decode_value.Goals as goal

pub returns : goal.returns
returns c = record {
  gives_buffered_or_none = λ rest.
      let f : FitsSigned w32 c.extend_sign_u32.result = search rules in
      sample_from c.args.self.bit_depth c.in_ok-number.number _ _ _ (number_from c.args.self.bit_depth _ _ (omega arith) (c.in_ok-number.ensures.gives_buffered_or_none rest)) (to_z-of_z w32 c.extend_sign_u32.result f ∙ c.extend_sign_u32.ensures.value);
}
