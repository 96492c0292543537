use Rattle.std.proofs.Common.{◌≡◌, ◌≤◌, ◌*◌, ◌-◌}
use Rattle.claxon_subframe.specs.SubframeFields.{method_of}
use Rattle.claxon_subframe.proofs.BufferedPartitions.{BufferedPartitionsSoFar}
use Rattle.claxon_subframe.proofs.subframe.partitions.read_buffered_partitions.Given as goal

abbrev pub invariant-loop-whole : goal.invariant-loop-whole
invariant-loop-whole g l = (l.start ≡ l.whole * l.each) × (l.whole ≤ l.most) × BufferedPartitionsSoFar (method_of l.partition_type) l.each l.whole l.buffer l.initial.buffered l.buffered

abbrev pub decreases-loop-whole : goal.decreases-loop-whole
decreases-loop-whole g l = l.most - l.whole
