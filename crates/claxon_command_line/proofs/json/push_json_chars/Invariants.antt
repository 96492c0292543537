use Rattle.std.proofs.Common.{◌≡◌, ◌++◌, string_bytes}
use Rattle.std.specs.Prelude.{flat_map}
use Rattle.claxon_command_line.specs.Json.{json_char}
use Rattle.claxon_command_line.proofs.json.push_json_chars.Given as goal

-- The text has the characters so far.
abbrev pub invariant-loop-c : goal.invariant-loop-c
invariant-loop-c g l = string_bytes l.text ≡ string_bytes l.fn.text ++ flat_map json_char l.yielded
