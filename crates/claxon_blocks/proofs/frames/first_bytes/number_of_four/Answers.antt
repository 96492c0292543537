use Rattle.std.proofs.Common.{◌^◌, arith, sym, ap, ◌∙◌}
use Rattle.claxon.specs.Bits.{Bits, number}
use Rattle.claxon.proofs.CacheBits.{bits_of_four}
use Rattle.claxon.proofs.Numbers.{mod_small, number-bits}
use Rattle.claxon_blocks.proofs.frames.first_bytes.number_of_four.Goals as goal

pub returns : goal.returns
returns c =
    let n = c.from_be_bytes.result in
    let same = bits_of_four c.args.bytes.now 0 n c.requires (λ k. (c.type_inv.bytes k).fits) (omega (arith, c.from_be_bytes.ensures)) in
    sym (mod_small n (2 ^ 32) (omega arith)) ∙ sym (number-bits 32 n) ∙ ap (λ (s : Bits). number s) same
