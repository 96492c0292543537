use Rattle.std.proofs.Common.{◌-◌, ◌^◌, vec_len}
use Rattle.claxon.specs.SampleRuns.{GaveSamples}
use Rattle.claxon_uses.proofs.streams.collect_samples.Given as goal

abbrev pub invariant-loop-all : goal.invariant-loop-all
invariant-loop-all g l = record { so_far : GaveSamples g.R.ReadBytes.source l.initial.samples l.all.items l.samples }

abbrev pub decreases-loop-all : goal.decreases-loop-all
decreases-loop-all g l = 2 ^ 64 - vec_len l.all
