use Rattle.std.proofs.Common.{◌≡◌, ℕ, ◌*◌, ◌%◌, ◌/◌, ◌^◌, ◌-◌, rules, FitsSigned, ap, of_z, to_z, w16, w32, ◌∙◌}
use Rattle.std.proofs.lemmas.Int.{to_z-of_z}
use Rattle.claxon_c.specs.Convert.{upper_16}
use Rattle.claxon_c.proofs.convert.upper_16.Goals as goal

pub returns : goal.returns
unfolding upper_16
returns c =
    let f : FitsSigned w16 c.cast_signed.result = search rules in
    let bits : c.cast_unsigned.result ≡ of_z w32 c.args.sample = c.cast_unsigned.ensures ∙ ap (of_z w32) (to_z-of_z w32 c.args.sample c.ranges.sample) in
    to_z-of_z w16 c.cast_signed.result f ∙ c.cast_signed.ensures ∙ ap (λ (n : ℕ). to_z w16 (n * 2 ^ (32 - c.args.bits) % 2 ^ 32 / 2 ^ 16)) bits
