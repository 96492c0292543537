use Rattle.std.proofs.Common.{◌≡◌, true, false, refl, sym, ◌∙◌}
use Rattle.std.specs.Prelude.{Err}
use Rattle.claxon.specs.Errors.TheVariants.{OutOfMemory}
use Rattle.claxon_verify.specs.VerifiedParts.{is_byte_left}
use Rattle.claxon_verify.proofs.parts.with_damage.Goals as goal

pub returns-then-is_left-2-clause-adds_damage : goal.returns-then-is_left-2-clause-adds_damage
returns-then-is_left-2-clause-adds_damage c =
    let is : is_byte_left c.args.damage ≡ true = sym c.is_byte_left-is_left.ensures ∙ c.if-is_left-2.true in
    record {
      frames_are = refl;
      samples_are = refl;
      sizes_are = refl;
      md5_is = refl;
      end_is = refl;
      searched = c.or_unsearched.ensures;
      passes = λ e. (refl, refl);
      what = Err (record { error = OutOfMemory; is_32_bit = false; first = c.args.damage.first });
      why = λ e. absurd (let z : true ≡ false = sym is ∙ e in cc);
    }
