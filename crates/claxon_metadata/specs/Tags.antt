-- What the iterators over Vorbis comments have still to give.
use Rattle.std.specs.Prelude.{ℕ, List}
use Rattle.claxon_metadata.specs.declared.metadata.tags.Tags.{Tags}
use Rattle.claxon_metadata.specs.declared.metadata.tags.GetTag.{GetTag}
use Rattle.claxon_format.specs.Tags.{tags_of_entries, values}
use Rattle.claxon_metadata.specs.TagEntries.{entries_view}

-- the remaining names and values
abbrev pub remaining_tags : {A : Type 0} → Tags A → List (List ℕ × List ℕ)
remaining_tags t = tags_of_entries (entries_view t.comments.now)

-- the remaining values of the name that is looked for
abbrev pub remaining_values : {A : Type 0} → GetTag A → List (List ℕ)
remaining_values t = values t.needle.now (remaining_tags t.tags)
