use Rattle.std.proofs.Common.{arith, drop, ap, ◌++◌, ◌∙◌, sym}
use Rattle.claxon_format.specs.Bits.{Bits, bits_of}
use Rattle.claxon_format.specs.read.Bits.{unary_at}
use Rattle.claxon_input.proofs.CacheBits.{done_as, unary_in_cache, one_in_cache}
use Rattle.claxon_input.proofs.bits.buffered.BufferedBits.unary.Goals as goal

pub consume-requires : goal.consume-requires
consume-requires c =
    let a = c.fill.new.self in
    one_in_cache a.cache a.count (omega arith) (omega arith) (omega arith) a.fits

pub returns : goal.returns
returns c = record {
  gives_buffered_or_none = λ rest.
      let a = c.fill.new.self in
      ap (λ (s : Bits). unary_at (s ++ rest)) (sym c.fill.ensures)
      ∙ unary_in_cache a.cache a.count (bits_of (drop a.at a.bytes.now)) rest (omega arith) (omega arith) (omega arith) a.fits
      ∙ done_as (omega arith) (ap (λ (s : Bits). s ++ rest) (sym c.consume.ensures));
}
