use Rattle.std.proofs.Common.{rules, arith, ℕ, drop, ap, ◌/◌, ◌^◌, ◌++◌, ◌∙◌, sym}
use Rattle.claxon_format.specs.Bits.{Bits, bits_of}
use Rattle.claxon_format.specs.read.Bits.{number_at}
use Rattle.claxon_input.proofs.CacheBits.{done_as, number_in_cache, number_fits}
use Rattle.claxon_input.proofs.bits.buffered.BufferedBits.number.Goals as goal

pub overflow_cast-result : goal.overflow_cast-result
overflow_cast-result c =
    let h = number_fits c.fill.new.self.cache c.args.bits c.requires (omega arith) in search rules

pub returns : goal.returns
returns c = record {
  gives_buffered_or_none = λ rest.
      let a = c.fill.new.self in
      ap (λ (s : Bits). number_at c.args.bits (s ++ rest)) (sym c.fill.ensures)
      ∙ number_in_cache a.cache a.count c.args.bits (bits_of (drop a.at a.bytes.now)) rest c.requires (omega arith) (omega arith) (omega arith)
      ∙ done_as (ap (λ (k : ℕ). a.cache / 2 / 2 ^ k) (omega arith)) (ap (λ (s : Bits). s ++ rest) (sym c.consume.ensures));
}
