use Rattle.std.proofs.Common.{◌≡◌, ◌+◌, length}
use Rattle.std.specs.Iterator.Adapters.{take_count, take_source}
use Rattle.claxon.specs.SampleRuns.{GaveSamples}
use Rattle.claxon_uses.proofs.samples.first_of.Given as goal

abbrev pub invariant-loop-sample : goal.invariant-loop-sample
invariant-loop-sample g l = record {
  so_far : GaveSamples g.R.ReadBytes.source (take_source l.initial.sample-iterator) l.first.items (take_source l.sample-iterator);
  count : length l.first.items + take_count l.sample-iterator ≡ l.fn.count;
}
