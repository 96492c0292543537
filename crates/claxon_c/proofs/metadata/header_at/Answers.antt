use Rattle.std.proofs.Common.{arith}
use Rattle.claxon.proofs.CacheBits.{bits_of_four}
use Rattle.claxon_c.proofs.metadata.header_at.Goals as goal

pub returns : goal.returns
returns c = bits_of_four c.args.bytes.now c.args.at c.from_be_bytes.result c.requires (λ k. (c.type_inv.bytes k).fits) (omega (arith, c.from_be_bytes.ensures))
