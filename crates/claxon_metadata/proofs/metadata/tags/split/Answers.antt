use Rattle.std.proofs.lemmas.Str.{IsCharBoundary-after_ascii}
use Rattle.claxon_metadata.proofs.metadata.tags.split.Goals as goal

pub range_from-requires : goal.range_from-requires
range_from-requires g c = λ _. IsCharBoundary-after_ascii c.as_str-text.result.now c.args.comment.now.1 c.as_str-text.utf8 (rw c.as_str-text.ensures.value c.requires.is_separator_index.inside) (rw c.as_str-text.ensures.value c.requires.is_separator_index.ascii)
