use Rattle.std.proofs.Common.{ap, ◌∙◌, get_or, of_z, pos, rules, FitsSigned, w32, arith}
use Rattle.std.proofs.lemmas.Int.{to_z-of_z}
use Rattle.claxon_format.specs.read.Bits.{zigzag_decode}
use Rattle.claxon_subframe.specs.RiceCodes.{decoded}
use Rattle.claxon_subframe.proofs.WastedBits.{mapped_more}
use Rattle.claxon_subframe.proofs.subframe.rice.decode_zigzag.Goals as goal

pub loop-number-preserved : goal.loop-number-preserved
loop-number-preserved c =
    let l = c.loop-number in
    let number : FitsSigned w32 (get_or l.numbers l.number-index (pos 0)) = search rules in
    let decoded_number = to_z-of_z w32 c.rice_to_signed.result (search rules) ∙ c.rice_to_signed.ensures ∙ ap zigzag_decode (c.cast_unsigned.ensures ∙ ap (of_z w32) (to_z-of_z w32 _ number)) in
    let p = mapped_more decoded c.args.numbers.now l.numbers l.number-index _ (omega arith) (omega arith) l.invariant.done l.invariant.rest decoded_number in
    record { done = p.0; rest = p.1 }
