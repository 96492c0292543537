use Rattle.std.proofs.Common.{rules}
use Rattle.claxon_verdict.proofs.options.FileNamesIterator.next.Goals as goal

pub loop-argument-preserved : goal.loop-argument-preserved
loop-argument-preserved c = search rules
