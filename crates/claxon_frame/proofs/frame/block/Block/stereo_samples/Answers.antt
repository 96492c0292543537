use Rattle.std.proofs.Common.{arith, rules}
use Rattle.std.proofs.lemmas.Slice.Zip.{length-zip}
use Rattle.claxon_frame.proofs.frame.block.Block.stereo_samples.Goals as goal

pub returns-clause-count : goal.returns-clause-count
returns-clause-count g c = omega (arith, length-zip c.channel.result.now c.channel-2.result.now, c.channel.ensures.len, c.channel-2.ensures.len)

pub returns-clause-right : goal.returns-clause-right
returns-clause-right g c = search rules
