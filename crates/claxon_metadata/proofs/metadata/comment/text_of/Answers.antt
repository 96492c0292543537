use Rattle.std.proofs.Common.{rules}
use Rattle.claxon_format.specs.Fault.{fault_text}
use Rattle.claxon_metadata.proofs.CommentTexts.{text_utf8, text_not_utf8}
use Rattle.claxon_metadata.proofs.metadata.comment.text_of.Goals as goal

pub returns-in_default : goal.returns-in_default
unfolding fault_text
returns-in_default g c = (search rules, text_not_utf8 c.args.bytes.items (λ u. (let k = c.in_default.ensures.succeeds u in absurd cc)))

pub returns : goal.returns
returns g c = (search rules, text_utf8 c.in-Ok.text c.args.bytes.items (search rules))
