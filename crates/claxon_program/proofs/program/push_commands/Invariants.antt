use Rattle.std.proofs.Common.{◌≡◌, ◌++◌, string_bytes, take}
use Rattle.claxon_program.specs.Program.{commands_text}
use Rattle.claxon_program.proofs.program.push_commands.Given as goal

-- The lines of the commands so far.
abbrev pub invariant-loop-name : goal.invariant-loop-name
invariant-loop-name l = string_bytes l.text ≡ string_bytes l.fn.text ++ commands_text (take l.name-index l.commands)
