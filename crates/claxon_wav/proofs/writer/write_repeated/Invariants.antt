use Rattle.std.proofs.Common.{◌≤◌, ◌-◌, replicate}
use Rattle.std.specs.Io.KnownBytes.{Appends}
use Rattle.claxon_write.specs.CountingWriter.{CountsNoFailure, CountsNoFlush, SameInner, inner_contents}
use Rattle.claxon_wav.proofs.writer.write_repeated.Given as goal

abbrev pub invariant-loop-left : goal.invariant-loop-left
invariant-loop-left g l = record {
  most : l.left ≤ l.size;
  written : Appends (inner_contents g.W.Write.contents l.initial.output) (inner_contents g.W.Write.contents l.output) (replicate (l.size - l.left) l.byte);
  reference : SameInner l.initial.output l.output;
  none_failed : CountsNoFailure l.initial.output l.output;
  unflushed : CountsNoFlush l.initial.output l.output;
}

abbrev pub decreases-loop-left : goal.decreases-loop-left
decreases-loop-left g l = l.left
