use Rattle.std.proofs.Common.{◌-◌}
use Rattle.claxon_format.specs.read.Residual.{partition_at}
use Rattle.claxon_input.specs.State.{bits_in}
use Rattle.claxon_subframe.specs.SubframeFields.{method_of}
use Rattle.claxon_subframe.specs.Partitions.{lengths}
use Rattle.claxon_subframe.proofs.PartitionLoop.{PartitionsSoFar}
use Rattle.claxon_subframe.proofs.subframe.decode_residual.Given as goal

abbrev pub invariant-loop-read : goal.invariant-loop-read
invariant-loop-read g l =
    PartitionsSoFar (partition_at (method_of l.partition_type)) (lengths l.n_partitions l.initial.len l.n_samples_per_partition) l.n_partitions l.read l.start l.len l.n_samples_per_partition l.buffer
    (bits_in g.R.ReadBytes.source l.initial.input) (bits_in g.R.ReadBytes.source l.input)

abbrev pub decreases-loop-read : goal.decreases-loop-read
decreases-loop-read g l = l.initial.n_partitions - l.read
