use Rattle.std.proofs.Common.{◌≡◌, ◌++◌, map}
use Rattle.std.specs.Prelude.{string_bytes}
use Rattle.claxon.specs.FlacReader.{tags_of}
use Rattle.claxon.specs.Tags.{remaining_tags}
use Rattle.claxon_uses.specs.TagLines.{tag_line}
use Rattle.claxon_uses.proofs.tags.tag_lines.Given as goal

abbrev pub invariant-loop-name : goal.invariant-loop-name
invariant-loop-name g l = record {
  so_far : map (λ line. string_bytes line) l.lines.items ++ map tag_line (remaining_tags l.name-iterator) ≡ map tag_line (tags_of l.fn.flac);
}
