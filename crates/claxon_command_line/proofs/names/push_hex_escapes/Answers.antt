use Rattle.std.proofs.Common.{◌<◌, false, append-nil, append_assoc, get_or, length, rules}
use Rattle.std.proofs.lemmas.Fmt.{hex_byte as two_hex_digits}
use Rattle.std.proofs.lemmas.Grind.{flat_map-append}
use Rattle.std.proofs.lemmas.List.{take_more}
use Rattle.claxon_command_line.proofs.names.push_hex_escapes.Goals as goal

pub loop-byte-preserved : goal.loop-byte-preserved
loop-byte-preserved g c =
    let bytes = c.args.bytes.now in
    let i = c.loop-byte.byte-index in
    let here : i < length bytes = search rules in
    let small : get_or bytes i 0 < 256 = search rules in
    let shown = simp (c.laid_out.ensures, c.in_radix.ensures) at c.in_ok-write.ensures.bytes in
    rw (take_more bytes i 0 here, flat_map-append, append-nil, ← append_assoc, ← c.loop-byte.invariant, ← two_hex_digits false (get_or bytes i 0) small) shown
