use Rattle.std.proofs.Common.{◌%◌, ◌^◌, ◌<◌}
use Rattle.std.proofs.lemmas.Nat.{mod_below, pow_pos}
use Rattle.claxon_format.proofs.SignedIntegers.{twos_complement_cases}
use Rattle.claxon_subframe.proofs.SignExtension.{extended_32}
use Rattle.claxon_subframe.proofs.subframe.extend_sign_u32.Goals as goal

pub returns : goal.returns
returns c =
    let e = extended_32 c.args.bits c.args.val c.cast_signed.result c.requires.some c.requires.most (record { sfits = c.cast_signed.type_inv }) c.cast_signed.ensures in
    let below : c.args.val % 2 ^ c.args.bits < 2 ^ c.args.bits = mod_below c.args.val (2 ^ c.args.bits) (pow_pos c.args.bits) in
    let is = twos_complement_cases c.args.bits (c.args.val % 2 ^ c.args.bits) c.requires.some below in
    record { fits_in = rw e is.0; congruent = rw e is.1; value = e }
