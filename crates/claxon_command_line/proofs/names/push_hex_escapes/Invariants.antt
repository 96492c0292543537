use Rattle.std.proofs.Common.{◌≡◌, ◌++◌, string_bytes, take}
use Rattle.claxon_command_line.specs.Names.{hex_escapes}
use Rattle.claxon_command_line.proofs.names.push_hex_escapes.Given as goal

-- The digits of the bytes so far.
abbrev pub invariant-loop-byte : goal.invariant-loop-byte
invariant-loop-byte g l = string_bytes l.text ≡ string_bytes l.fn.text ++ hex_escapes (take l.byte-index l.bytes)
