use Rattle.std.proofs.Common.{rules, arith, ◌∙◌, w32, FitsSigned}
use Rattle.std.proofs.lemmas.Int.{to_z-of_z}
use Rattle.claxon_subframe.proofs.FirstSample.{first_sample_is, top_fits_32}
use Rattle.claxon_subframe.proofs.Rotations.{rotated_left_nonzero}
use Rattle.claxon_subframe.proofs.subframe.verbatim.VerbatimGroupCode.first_value.Goals as goal

pub overflow_cast-number-2 : goal.overflow_cast-number-2
overflow_cast-number-2 c =
    let fits = top_fits_32 c.args.peeked c.args.self.bit_depth c.args.self.some c.args.self.max_bit_depth (omega arith) in search rules

pub returns-clause-is_first_value : goal.returns-clause-is_first_value
returns-clause-is_first_value c =
    let f : FitsSigned w32 c.extend_sign_u32.result = search rules in
    rw (c.rotate_left-rotated.ensures)
    (first_sample_is c.args.self.bit_depth c.args.peeked _ c.args.self.some c.args.self.max_bit_depth (omega arith) (omega arith) (to_z-of_z w32 c.extend_sign_u32.result f ∙ c.extend_sign_u32.ensures.value))

pub returns-clause-some : goal.returns-clause-some
returns-clause-some c = rw c.rotate_left-rotated.ensures (rotated_left_nonzero c.args.peeked _ (omega arith) c.requires.some (omega arith))
