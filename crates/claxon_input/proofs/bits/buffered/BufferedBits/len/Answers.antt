use Rattle.std.proofs.Common.{arith, drop, take, length-append}
use Rattle.std.proofs.lemmas.List.{length-drop}
use Rattle.claxon_format.specs.Bits.{bits, bits_of}
use Rattle.claxon_format.proofs.Bytes.{length-bits_of}
use Rattle.claxon_input.proofs.CacheBits.{length_in_cache}
use Rattle.claxon_input.proofs.bits.buffered.BufferedBits.len.Goals as goal

pub returns : goal.returns
returns c =
    let a = c.args.self.now in
    record { value = omega (arith, length-append (take a.count (bits 64 a.cache)) (bits_of (drop a.at a.bytes.now)), length_in_cache a.cache a.count (omega arith), length-bits_of (drop a.at a.bytes.now), length-drop a.at a.bytes.now) }
