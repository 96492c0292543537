use Rattle.std.proofs.Common.{rules, arith, ap, ◌++◌, ◌∙◌, length, take}
use Rattle.std.proofs.Math.Nat.{min_comm}
use Rattle.std.proofs.lemmas.List.{take_min}
use Rattle.claxon_format.specs.Bits.{Bits, bits, bits_of}
use Rattle.claxon_input.proofs.CacheBits.{moved_bits_as, moved_fits}
use Rattle.claxon_input.proofs.bits.buffered.BufferedBits.new.Goals as goal

pub invariant_of-result : goal.invariant_of-result
invariant_of-result c = record {
  within = omega arith;
  few_bytes = search rules;
  few = omega arith;
  fits = moved_fits _ c.args.count (omega (arith, c.requires.fits)) (omega arith);
}

pub returns : goal.returns
returns c =
    let all = c.args.bytes.now in
    let least = c.min-most.ensures ∙ min_comm (length all) 65536 in
    ap (λ (s : Bits). s ++ bits_of (take c.min-most.result all)) (moved_bits_as c.args.cache c.args.count (omega arith) c.requires.fits (omega arith))
    ∙ ap (λ bytes. bits c.args.count c.args.cache ++ bits_of bytes) (ap (λ n. take n all) least ∙ take_min 65536 all)
