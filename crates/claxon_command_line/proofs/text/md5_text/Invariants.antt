use Rattle.std.proofs.Common.{◌≡◌, string_bytes, take}
use Rattle.std.specs.Prelude.{flat_map}
use Rattle.claxon_command_line.specs.Text.{hex_byte}
use Rattle.claxon_command_line.proofs.text.md5_text.Given as goal

-- The digits of the bytes so far.
abbrev pub invariant-loop-byte : goal.invariant-loop-byte
invariant-loop-byte g l = string_bytes l.text ≡ flat_map hex_byte (take l.byte-index l.md5sum)
