use Rattle.std.proofs.Common.{arith}
use Rattle.claxon_c.proofs.TagEntries.{length_read}
use Rattle.claxon_c.proofs.tags.length_at.Goals as goal

pub returns : goal.returns
returns c = length_read c.args.content.now c.args.at c.from_le_bytes.result c.requires (λ k. (c.type_inv.content k).fits) (omega (arith, c.from_le_bytes.ensures))
