use Rattle.std.proofs.Common.{rules, arith, ◌<◌, false, append-nil, get_or, length}
use Rattle.std.proofs.lemmas.Fmt.{hex_byte as two_hex_digits}
use Rattle.std.proofs.lemmas.Grind.{common_steps}
use Rattle.std.proofs.lemmas.Grind.{flat_map-append}
use Rattle.std.proofs.lemmas.List.{take_more}
use Rattle.claxon_command_line.specs.Text.{md5_text}
use Rattle.claxon_command_line.proofs.text.md5_text.Goals as goal

pub loop-byte-preserved : goal.loop-byte-preserved
loop-byte-preserved g c =
    let md5 = c.args.md5sum.now in
    let i = c.loop-byte.byte-index in
    let here : i < length md5 = search rules in
    let small : get_or md5 i 0 < 256 = search rules in
    let shown = simp (c.laid_out.ensures, c.in_radix.ensures) at c.in_ok-write.ensures.bytes in
    rw (take_more md5 i 0 here, flat_map-append, append-nil, ← c.loop-byte.invariant, ← two_hex_digits false (get_or md5 i 0) small) shown

pub returns-then-eq : goal.returns-then-eq
unfolding md5_text
returns-then-eq g c = record { is_text = search rules }

pub returns : goal.returns
unfolding md5_text
returns g c = record { is_text = grind (arith, common_steps) }
