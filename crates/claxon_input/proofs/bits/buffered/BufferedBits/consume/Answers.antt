use Rattle.std.proofs.Common.{arith, drop}
use Rattle.claxon_format.specs.Bits.{bits_of}
use Rattle.claxon_input.proofs.CacheBits.{taken_off_as, taken_fits_as}
use Rattle.claxon_input.proofs.bits.buffered.BufferedBits.consume.Goals as goal

pub invariant_of-self : goal.invariant_of-self
invariant_of-self c =
    let a = c.args.self.now in
    record { within = a.within; few_bytes = a.few_bytes; few = omega arith; fits = taken_fits_as a.cache a.count c.args.bits (omega arith) c.requires (omega arith) a.fits }

pub returns : goal.returns
returns c =
    let a = c.args.self.now in
    taken_off_as a.cache a.count c.args.bits (bits_of (drop a.at a.bytes.now)) (omega arith) c.requires (omega arith)
