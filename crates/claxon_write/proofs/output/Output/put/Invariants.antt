use Rattle.std.proofs.Common.{length, take, ◌-◌, ◌≡◌, ◌≤◌}
use Rattle.claxon_write.specs.InnerWriter.{output_name}
use Rattle.claxon_write.specs.Written.{IsUnflushed, Puts}
use Rattle.claxon_write.proofs.output.Output.put.Given as goal

abbrev pub invariant-loop-from : goal.invariant-loop-from
invariant-loop-from g l = record {
  inside : l.from ≤ length l.bytes;
  reference : output_name l.self ≡ output_name l.initial.self;
  unflushed : IsUnflushed l.initial.self l.self;
  puts : Puts g.W.Write.contents (take l.from l.bytes) l.initial.self l.self;
}

abbrev pub decreases-loop-from : goal.decreases-loop-from
decreases-loop-from g l = length l.bytes - l.from
