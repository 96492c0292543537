-- Where the frames of a damaged stream stand in time.
use Rattle.std.specs.Prelude.{
  ◌≡◌,
  ◌⊎◌,
  ◌==◌,
  ℕ,
  ◌+◌,
  ◌-◌,
  ◌*◌,
  ◌%◌,
  ◌^◌,
  ◌<◌,
  ◌≤◌,
  ◌&&◌,
  Bool,
  if◌then◌else◌,
  min,
  nat_le,
  nat_lt,
  List,
  Option,
  None,
  Some,
}
use Rattle.std.specs.List.{count_by}
use Rattle.claxon.specs.BlockInfos.{BlockInfo}
use Rattle.claxon.specs.DecodedFrame.{FrameValue, decoded_view}
use Rattle.claxon.specs.Streams.{duration_of}
use Rattle.claxon_recovery.specs.declared.part.FrameThere.{FrameThere}
use Rattle.claxon_rescue.specs.declared.due.Due.{Due}
use Rattle.claxon_rescue.specs.declared.due.Rules.{Rules}
use Rattle.claxon_rescue.specs.declared.losses.LossKind.TheVariants.{LeftOut}
use Rattle.claxon_rescue.specs.declared.losses.LostRange.{LostRange}

-- the first frame is due at this position
abbrev pub first_due : ℕ → Due
first_due byte = record { number = 0; sample = 0; byte = byte }

-- the number of a frame's first sample: that which is due, if it is the next frame; or its coded
-- number tells it, by the streaminfo's block size where that is fixed (section 9.1.5)
abbrev pub frame_time : Rules → Due → BlockInfo → ℕ
frame_time rules due header =
    if header.number == due.number then due.sample
    else if header.is_variable then header.number
    else header.number * rules.info.max_block_size

-- the number of samples of each channel
abbrev pub frame_duration : FrameValue → ℕ
frame_duration frame = duration_of frame.block.channels

-- A frame is in order if it goes on where the samples so far end; or if it begins later, and ends
-- within the limit.
abbrev pub IsInOrder : Rules → Due → FrameValue → Type 0
IsInOrder rules due frame =
    ((frame_time rules due frame.info ≡ due.sample)
    ⊎ ((due.sample < frame_time rules due frame.info)
    × (frame_time rules due frame.info + frame_duration frame ≤ rules.limit)))
    × (frame_time rules due frame.info + frame_duration frame < 2 ^ 64)

-- So many samples are lost before the frame, or it isn't in order.
abbrev pub IsGapBefore : Rules → Due → FrameValue → Option ℕ → Type 0
IsGapBefore rules due frame None = IsInOrder rules due frame → ⊥
IsGapBefore rules due frame (Some gap) =
    IsInOrder rules due frame × (frame_time rules due frame.info ≡ due.sample + gap)

-- ---- frames that stand ahead of others

-- whether a frame begins before this sample, and not before what is due
abbrev pub begins_before : Rules → Due → ℕ → FrameThere → Bool
begins_before rules due sample there =
    nat_le due.sample (frame_time rules due there.frame.info)
    && nat_lt (frame_time rules due there.frame.info) sample

-- whether a frame begins after this sample, and ends within the limit
abbrev pub begins_after : Rules → Due → ℕ → FrameThere → Bool
begins_after rules due sample there =
    nat_lt sample (frame_time rules due there.frame.info)
    && nat_le (frame_time rules due there.frame.info + frame_duration (decoded_view there.frame))
    rules.limit

-- No more of the frames that come next begin before this sample than after it.
abbrev pub FewBegin : Rules → Due → ℕ → List FrameThere → Type 0
FewBegin rules due sample ahead =
    count_by (begins_before rules due sample) ahead
    ≤ count_by (begins_after rules due sample) ahead

-- A frame is written if it is in order; and if it begins later than what is due, no more of the
-- frames that come next begin before it than after it.
abbrev pub IsKept : Rules → Due → FrameThere → List FrameThere → Type 0
IsKept rules due there ahead =
    IsInOrder rules due (decoded_view there.frame)
    × ((frame_time rules due there.frame.info ≡ due.sample)
    ⊎ FewBegin rules due (frame_time rules due there.frame.info) ahead)

-- So many samples are lost before the frame, or it isn't written.
abbrev pub IsGapAmong : Rules → Due → FrameThere → List FrameThere → Option ℕ → Type 0
IsGapAmong rules due there ahead None = IsKept rules due there ahead → ⊥
IsGapAmong rules due there ahead (Some gap) =
    IsKept rules due there ahead × (frame_time rules due there.frame.info ≡ due.sample + gap)

-- ---- numbers that are told

-- a time, if it is below 2^64
abbrev pub time_below : ℕ → Option ℕ
time_below time = if nat_lt time (2 ^ 64) then Some time else None

-- what is due after a frame, before which so many samples are lost
abbrev pub due_after : Due → ℕ → FrameThere → Due
due_after due gap there = record {
  number = (there.frame.info.number
      + (if there.frame.info.is_variable then frame_duration (decoded_view there.frame) else 1))
      % 2 ^ 64;
  sample = due.sample + gap + frame_duration (decoded_view there.frame);
  byte = there.end;
}

-- a number of a sample as it is told
abbrev pub told_sample : ℕ → ℕ
told_sample sample = min sample (2 ^ 64 - 1)

-- the range of a frame that isn't written
abbrev pub left_out : Rules → Due → FrameThere → LostRange
left_out rules due there = record {
  kind = LeftOut;
  start_sample = told_sample (frame_time rules due there.frame.info);
  end_sample = told_sample (
      frame_time rules due there.frame.info + frame_duration (decoded_view there.frame));
  start_byte = there.start;
  end_byte = there.end;
}
