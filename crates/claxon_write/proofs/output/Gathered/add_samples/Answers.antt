use Rattle.std.proofs.Common.{arith}
use Rattle.std.proofs.lemmas.Grind.{common_steps}
use Rattle.claxon_write.specs.SampleBytes.{bytes_of_samples}
use Rattle.claxon_write.proofs.output.Gathered.add_samples.Goals as goal

pub returns : goal.returns
unfolding bytes_of_samples
returns g c = grind (arith, common_steps)
