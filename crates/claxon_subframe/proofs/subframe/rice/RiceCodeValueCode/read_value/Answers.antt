use Rattle.std.proofs.Common.{◌≡◌, ℤ, rules}
use Rattle.claxon_format.specs.read.Reading.{Done}
use Rattle.claxon_input.specs.Gives.{Consumes}
use Rattle.claxon_input.specs.State.{bits_in}
use Rattle.claxon_input.proofs.ConsecutiveCalls.{consumes_then}
use Rattle.claxon_subframe.specs.RiceCodes.{encoded_code_at}
use Rattle.claxon_subframe.proofs.ConsecutiveFields.{consumes_as}
use Rattle.claxon_subframe.proofs.RiceCodeShifts.{encoded_code_from}
use Rattle.claxon_subframe.proofs.subframe.rice.RiceCodeValueCode.read_value.Goals as goal

pub returns : goal.returns
returns g c = record {
  gives =
      let w : Consumes (bits_in g.R.ReadBytes.source c.args.input.now) (bits_in g.R.ReadBytes.source c.read_leq_u32.new.self) (λ s m. encoded_code_at c.args.self.parameter s ≡ Done c.cast_signed.result m)
      = consumes_then _ c.in_ok-quotient.ensures.is_read c.in_ok-low.ensures.is_read (λ p q. encoded_code_from c.args.self.parameter c.in_ok-quotient.quotient c.in_ok-low.low c.cast_signed.result _ _ _ c.args.self.bound p q c.cast_signed.ensures) in
      let k : (v : ℤ) → c.cast_signed.result ≡ v → Consumes (bits_in g.R.ReadBytes.source c.args.input.now) (bits_in g.R.ReadBytes.source c.read_leq_u32.new.self) (λ s m. encoded_code_at c.args.self.parameter s ≡ Done v m) = λ v e. consumes_as e w in
      search (rules, k);
}
