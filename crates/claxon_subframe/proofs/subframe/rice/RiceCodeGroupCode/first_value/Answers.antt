use Rattle.std.proofs.Common.{rules, arith, ap, ap₂, bit_or, to_z, w32, ◌*◌, ◌%◌, ◌^◌, ◌<◌, ◌∙◌, ℕ}
use Rattle.std.specs.Int.{leading_zeros, w64}
use Rattle.std.proofs.lemmas.Int.{to_z-of_z}
use Rattle.claxon_input.proofs.BitSteps.{mask}
use Rattle.claxon_input.proofs.CacheBits.{highest}
use Rattle.claxon_subframe.proofs.FirstRiceCode.{first_is, mirrored, mirrored_twice, rice_code_bits}
use Rattle.claxon_subframe.proofs.Rotations.{rotated_nonzero, rotated_left_nonzero}
use Rattle.claxon_subframe.proofs.subframe.rice.RiceCodeGroupCode.first_value.Goals as goal

pub returns-clause-few : goal.returns-clause-few
returns-clause-few c =
    let z : ℕ = leading_zeros w64 c.args.peeked in
    let within : z < 64 = (highest c.args.peeked c.requires.some (omega arith)).within in
    rw (rice_code_bits z c.args.self.parameter within c.args.self.bound) (omega arith)

pub returns-clause-is_first_value : goal.returns-clause-is_first_value
returns-clause-is_first_value c =
    let k = c.args.self.parameter in
    let z : ℕ = leading_zeros w64 c.args.peeked in
    let within : z < 64 = (highest c.args.peeked c.requires.some (omega arith)).within in
    let left = c.rotate_left.ensures in
    let rotated = c.rotate_right-rotated.ensures in
    let low = mask c.rotate_right-rotated.result k (omega arith) ∙ ap (λ (t : ℕ). t % 2 ^ k) rotated in
    let code = c.cast_signed-code.ensures ∙ ap₂ (λ (q r : ℕ). to_z w32 (bit_or (q * 2 ^ k % 4294967296) r)) (mirrored_twice z within) low in
    rw (rice_code_bits z k within c.args.self.bound, rotated, to_z-of_z w32 c.cast_signed-code.result (search rules))
    (first_is k c.args.peeked c.rotate_left.result _ _ c.args.self.bound (omega arith) (omega arith) left (omega (arith, mirrored z within)) code)

pub returns-clause-some : goal.returns-clause-some
returns-clause-some c = rw c.rotate_right-rotated.ensures (rotated_nonzero c.rotate_left.result _ (rw c.rotate_left.ensures (rotated_left_nonzero c.args.peeked c.args.self.parameter (omega arith) c.requires.some (omega arith))) (omega arith))
