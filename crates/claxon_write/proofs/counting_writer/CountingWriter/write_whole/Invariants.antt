use Rattle.std.proofs.Common.{◌≤◌, ◌-◌, length, take}
use Rattle.std.specs.Io.KnownBytes.{Appends}
use Rattle.claxon_write.specs.CountingWriter.{CountsNoFailure, CountsNoFlush, SameInner, inner_contents}
use Rattle.claxon_write.proofs.counting_writer.CountingWriter.write_whole.Given as goal

abbrev pub invariant-loop-at : goal.invariant-loop-at
invariant-loop-at g l = record {
  inside : l.at ≤ length l.bytes;
  written : Appends (inner_contents g.W.Write.contents l.initial.self) (inner_contents g.W.Write.contents l.self) (take l.at l.bytes);
  reference : SameInner l.initial.self l.self;
  none_failed : CountsNoFailure l.initial.self l.self;
  unflushed : CountsNoFlush l.initial.self l.self;
}

abbrev pub decreases-loop-at : goal.decreases-loop-at
decreases-loop-at g l = length l.bytes - l.at
