use Rattle.std.proofs.Common.{◌≡◌, string_bytes}
use Rattle.std.specs.Prelude.{flat_map}
use Rattle.claxon_command_line.specs.Text.{escaped_char}
use Rattle.claxon_command_line.proofs.text.escaped_text.Given as goal

-- The line has the characters so far.
abbrev pub invariant-loop-c : goal.invariant-loop-c
invariant-loop-c g l = string_bytes l.line ≡ flat_map escaped_char l.yielded
