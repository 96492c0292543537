use Rattle.std.proofs.Common.{arith, ◌≤◌, ◌*◌, ◌%◌, ◌≡◌, drop, length}
use Rattle.std.proofs.lemmas.List.{length-drop}
use Rattle.claxon_format.specs.Bits.{bits, bits_of}
use Rattle.claxon_input.proofs.CacheBits.{put_below, put_fits, more_in_cache, top_of_four, bytes_after}
use Rattle.claxon_input.proofs.bits.buffered.BufferedBits.fill.Goals as goal

pub invariant_of-self : goal.invariant_of-self
invariant_of-self c =
    let a = c.args.self.now in
    let y = c.four_bytes.result * 4294967296 % 18446744073709551616 in
    let low : c.four_bytes.result * 4294967296 % 18446744073709551616 % 4294967296 ≡ 0 = omega arith in
    record { within = omega arith; few_bytes = a.few_bytes; few = omega arith; fits = put_fits a.cache a.count y 32 (omega arith) (omega arith) a.fits (omega arith) low }

pub returns : goal.returns
returns c =
    let a = c.args.self.now in
    let y = c.four_bytes.result * 4294967296 % 18446744073709551616 in
    let some : 4 ≤ length (drop a.at a.bytes.now) = omega (arith, length-drop a.at a.bytes.now) in
    more_in_cache a.cache a.count _ 32 (bits 64 y) (bits_of (drop a.at a.bytes.now)) _
    (put_below a.cache a.count y 32 (omega arith) (omega arith) a.fits (omega arith))
    (top_of_four c.four_bytes.result (drop a.at a.bytes.now) (omega arith) some c.four_bytes.ensures)
    (bytes_after a.at 32 4 a.bytes.now (omega arith) (omega arith))
