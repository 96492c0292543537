use Rattle.std.proofs.lemmas.Grind.{common_steps, widths}
use Rattle.std.proofs.Common.{arith, refl, ◌-◌, ◌^◌, ◌/◌, drop, bit_or, ◌∙◌}
use Rattle.claxon_format.specs.Bits.{bits_of}
use Rattle.claxon_input.proofs.CacheBits.{peek_next, peek_kept, peek_fits}
use Rattle.claxon_input.proofs.bits.buffered.BufferedBits.peek.Goals as goal

pub invariant_of-self : goal.invariant_of-self
invariant_of-self c =
    let a = c.args.self.now in
    record { within = omega arith; few_bytes = a.few_bytes; few = omega arith; fits = peek_fits (bit_or a.cache (c.eight_bytes.result / 2 ^ a.count)) a.count }

pub returns-clause-same : goal.returns-clause-same
returns-clause-same c =
    let a = c.args.self.now in
    peek_kept a.cache a.count c.eight_bytes.result a.at _ a.bytes.now a.few a.fits c.eight_bytes.type_inv (omega arith) c.eight_bytes.ensures refl

pub returns-clause-some : goal.returns-clause-some
returns-clause-some c =
    let a = c.args.self.now in
    record {
      within = omega arith;
      after = drop (64 - a.count) (bits_of (drop a.at a.bytes.now));
      next = returns-clause-same c ∙ peek_next a.cache a.count c.eight_bytes.result a.at a.bytes.now a.few a.fits c.eight_bytes.type_inv (omega arith) c.eight_bytes.ensures;
    }

pub overflow_sub-self-6 : goal.overflow_sub-self-6
overflow_sub-self-6 c = grind (arith, common_steps, widths)
