use Rattle.std.proofs.Common.{◌-◌, ◌≤◌, length, take}
use Rattle.claxon_md5.specs.HasherCalls.{HashesSamples}
use Rattle.claxon_md5.proofs.Md5.update_samples.Given as goal

abbrev pub decreases-loop-at : goal.decreases-loop-at
decreases-loop-at l = length l.samples - l.at

abbrev pub invariant-loop-at : goal.invariant-loop-at
invariant-loop-at l = record {
  within : l.at ≤ length l.samples;
  hashed : HashesSamples l.bit_depth (take l.at l.samples) l.fn.self l.self;
}
