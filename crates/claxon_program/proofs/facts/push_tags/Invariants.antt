use Rattle.std.proofs.Common.{◌≡◌, ◌++◌, string_bytes}
use Rattle.claxon.specs.Tags.{remaining_tags}
use Rattle.claxon_program.specs.Facts.{tags_text}
use Rattle.claxon_program.proofs.facts.push_tags.Given as goal

-- What was added, and the tags that are left.
abbrev pub invariant-loop-name : goal.invariant-loop-name
invariant-loop-name g l = string_bytes l.text ++ tags_text (remaining_tags l.tags) ≡ string_bytes l.fn.text ++ tags_text (remaining_tags l.fn.tags)
