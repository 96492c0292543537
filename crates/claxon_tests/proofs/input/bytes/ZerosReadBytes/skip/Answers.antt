use Rattle.std.proofs.Common.{replicate, refl}
use Rattle.std.proofs.Math.ListN.{length-replicate}
use Rattle.claxon_tests.proofs.input.bytes.ZerosReadBytes.skip.Goals as goal

pub returns-clause-are_skipped : goal.returns-clause-are_skipped
returns-clause-are_skipped c = (replicate c.args.amount 0, length-replicate c.args.amount 0, record { moved = record { front = tt; loans = refl; values = λ _ _. refl }; errors = refl; empty_reads = refl })
