-- What is written of a damaged stream: the samples of its whole frames at their times, and silence
-- where samples are lost.
use Rattle.std.specs.Prelude.{
  All,
  ◌≡◌,
  ◌⊎◌,
  ℕ,
  ◌+◌,
  ◌-◌,
  ◌&&◌,
  if◌then◌else◌,
  max,
  nat_lt,
  pos,
  List,
  [],
  ◌∷◌,
  ◌++◌,
  length,
  replicate,
  Option,
  None,
  Some,
  unwrap_or,
}
use Rattle.std.specs.Global.{Global}
use Rattle.claxon.specs.Bits.{FitsIn}
use Rattle.claxon.specs.DecodedFrames.{DecodedFrame}
use Rattle.claxon.specs.Frame.{Block}
use Rattle.claxon.specs.FrameReader.{block_view}
use Rattle.claxon.specs.StreamInfos.{StreamInfo}
use Rattle.claxon_recovery.specs.declared.part.FrameThere.{FrameThere}
use Rattle.claxon_rescue.specs.Times.{IsKept, due_after, frame_time, left_out}
use Rattle.claxon_rescue.specs.declared.due.Due.{Due}
use Rattle.claxon_rescue.specs.declared.due.Rules.{Rules}
use Rattle.claxon_rescue.specs.declared.losses.LossKind.TheVariants.{Missing}
use Rattle.claxon_rescue.specs.declared.losses.LostRange.{LostRange}

-- ---- frames that count

-- the sample rate in a header, or that of the streaminfo where it has none
abbrev pub rate_or : Option ℕ → ℕ → ℕ
rate_or None rate = rate
rate_or (Some rate) _ = rate

-- The frame has the streaminfo's number of channels and its sample rate, and its samples fit in the
-- bit depth.
abbrev pub IsOfStream : StreamInfo → DecodedFrame Global → Type 0
IsOfStream info frame =
    (length frame.block.channels ≡ info.channels)
    × (rate_or frame.info.sample_rate info.sample_rate ≡ info.sample_rate)
    × All (All (FitsIn info.bits_per_sample)) frame.block.channels

-- Each of these does so.
abbrev pub AreOfStream : StreamInfo → List FrameThere → Type 0
AreOfStream info frames = All (λ (there : FrameThere). IsOfStream info there.frame) frames

-- ---- samples that are lost

-- silence of so many samples per channel, from this sample on
abbrev pub silent_block : ℕ → ℕ → ℕ → Block
silent_block channels from count =
    record { time = from; channels = replicate channels (replicate count (pos 0)) }

-- what is written up to this sample: silence, if that is wanted
abbrev pub gap_blocks : Rules → Due → ℕ → List Block
gap_blocks rules due sample =
    if rules.fills_gaps && nat_lt due.sample sample
    then silent_block rules.info.channels due.sample (sample - due.sample) ∷ [] else []

-- the samples up to this one, which are missing in the bytes up to this position
abbrev pub missing_range : Due → ℕ → ℕ → LostRange
missing_range due sample byte = record {
  kind = Missing;
  start_sample = due.sample;
  end_sample = sample;
  start_byte = due.byte;
  end_byte = byte;
}

-- the same, if there are any
abbrev pub gap_ranges : Due → ℕ → ℕ → List LostRange
gap_ranges due sample byte =
    if nat_lt due.sample sample then missing_range due sample byte ∷ [] else []

-- ---- what frames give: blocks that are written, ranges that are lost, and what is due then

-- The frame's samples are written, after silence for those that are missing before it.
pub record GivesFrame (rules : Rules) (due : Due) (there : FrameThere) (ahead : List FrameThere)
    (blocks : List Block) (lost : List LostRange) (next : Due) : Type 0 where
  pub gap : ℕ
  pub kept : IsKept rules due there ahead
  pub time_is : frame_time rules due there.frame.info ≡ due.sample + gap
  pub blocks_are : blocks ≡ gap_blocks rules due (due.sample + gap)
      ++ block_view there.frame.block ∷ []
  pub lost_are : lost ≡ gap_ranges due (due.sample + gap) there.start
  pub next_is : next ≡ due_after due gap there

-- Nothing is written.
pub record GivesNothing (due : Due) (blocks : List Block) (next : Due) : Type 0 where
  pub none : blocks ≡ []
  pub same : next ≡ due

-- The frame is left out.
pub record LeavesOut (rules : Rules) (due : Due) (there : FrameThere) (ahead : List FrameThere)
    (lost : List LostRange) : Type 0 where
  pub not_kept : IsKept rules due there ahead → ⊥
  pub lost_is : lost ≡ left_out rules due there ∷ []

-- What a frame of the stream gives, after which these come.
abbrev pub FrameGives : Rules → Due → FrameThere → List FrameThere → List Block → List LostRange
    → Due → Type 0
FrameGives rules due there ahead blocks lost next =
    GivesFrame rules due there ahead blocks lost next
    ⊎ (GivesNothing due blocks next × LeavesOut rules due there ahead lost)

-- ---- the end

-- how many samples there are, at least: as many as the streaminfo says, if it does
abbrev pub last_sample : Rules → Due → ℕ
last_sample rules due = max (unwrap_or rules.info.samples 0) due.sample
