use Rattle.std.proofs.Common.{◌-◌, ◌≡◌, ◌≤◌}
use Rattle.claxon_write.specs.InnerWriter.{output_name}
use Rattle.claxon.specs.Interleave.{interleave_range}
use Rattle.claxon_write.specs.SampleBytes.{bytes_of_samples}
use Rattle.claxon_write.specs.Written.{IsUnflushed, Puts}
use Rattle.claxon_write.proofs.output.Output.put_block.Given as goal

abbrev pub invariant-loop-from : goal.invariant-loop-from
invariant-loop-from g l = record {
  inside : l.from ≤ l.duration;
  reference : output_name l.self ≡ output_name l.initial.self;
  unflushed : IsUnflushed l.initial.self l.self;
  puts : Puts g.W.Write.contents (bytes_of_samples (interleave_range l.block.channels 0 l.from)) l.initial.self l.self;
}

abbrev pub decreases-loop-from : goal.decreases-loop-from
decreases-loop-from g l = l.duration - l.from
