-- A clock and a seeker as C keeps them.
use Rattle.std.specs.Prelude.{ℕ, ◌==◌, if◌then◌else◌}
use Rattle.claxon_stream_seek.specs.declared.clock.Clock.{Clock}
use Rattle.claxon_stream_seek.specs.declared.clock.Counted.{Counted}
use Rattle.claxon_stream_seek.specs.declared.clock.Counted.TheVariants.{
  Blocks,
  NotKnown,
  Samples,
  VariableBlocks,
  VaryingBlocks,
}
use Rattle.claxon_stream_seek.specs.declared.clock.kept.KeptClock.{KeptClock}
use Rattle.claxon_stream_seek.specs.declared.seeker.Seeker.{Seeker}
use Rattle.claxon_stream_seek.specs.declared.seeker.Stage.{Stage}
use Rattle.claxon_stream_seek.specs.declared.seeker.Stage.TheVariants.{
  AllBytes,
  Headers,
  LikelyFrame,
}
use Rattle.claxon_stream_seek.specs.declared.seeker.kept.KeptSeeker.{KeptSeeker}

-- what coded numbers count, by its number
abbrev pub kept_counted : ℕ → Counted
kept_counted n =
    if n == 0 then NotKnown else if n == 1 then Samples else if n == 2 then Blocks
    else if n == 4 then VariableBlocks else VaryingBlocks

-- the clock that is kept
abbrev pub kept_clock : KeptClock → Clock
kept_clock k = record {
  has_frame = k.has_frame;
  has_time = k.has_time;
  counted = kept_counted k.counted;
  duration = k.duration;
  number = k.number;
  end = k.end;
  time = k.time;
  block_size = k.block_size;
}

-- the stage, by its number
abbrev pub kept_stage : ℕ → Stage
kept_stage n = if n == 0 then Headers else if n == 1 then LikelyFrame else AllBytes

-- the seeker that is kept
abbrev pub kept_seeker : KeptSeeker → Seeker
kept_seeker k = record {
  stage = kept_stage k.stage;
  steps = k.steps;
  bytes_left = k.bytes_left;
  span = k.span;
  scanned = k.scanned;
  likely = k.likely;
  has_asked = k.has_asked;
  search = record {
    sought = record {
      clock = kept_clock k.clock;
      sample = k.sample;
      first_frame = k.first_frame;
    };
    position = k.position;
    decoder = k.decoder;
    budget = k.budget;
    has_passed_over = k.has_passed_over;
  };
}
