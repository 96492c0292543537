use Rattle.std.proofs.Common.{◌≡◌, ◌++◌, string_bytes, take}
use Rattle.claxon_program.specs.Facts.{numbers_text}
use Rattle.claxon_program.proofs.facts.push_numbers.Given as goal

-- The lines of the numbers so far.
abbrev pub invariant-loop-name : goal.invariant-loop-name
invariant-loop-name g l = string_bytes l.text ≡ string_bytes l.fn.text ++ numbers_text (take l.name-index l.numbers)
