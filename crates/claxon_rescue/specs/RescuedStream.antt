-- What is written of a whole damaged stream, frame by frame.
use Rattle.std.specs.Prelude.{◌≡◌, ◌⊎◌, ℕ, List, [], ◌∷◌, ◌++◌, Some, take}
use Rattle.claxon.specs.Frame.{Block}
use Rattle.claxon.specs.StreamInfos.{StreamInfo}
use Rattle.claxon_recovery.specs.Parts.{IsPart, after_part}
use Rattle.claxon_recovery.specs.declared.part.FrameThere.{FrameThere}
use Rattle.claxon_recovery.specs.declared.part.Part.{Part}
use Rattle.claxon_recovery.specs.declared.part.Part.TheVariants.{
  Damage as DamagePart,
  Frame as FramePart,
}
use Rattle.claxon_rescue.specs.Rescue.{
  FrameGives,
  GivesNothing,
  IsOfStream,
  gap_blocks,
  gap_ranges,
  last_sample,
}
use Rattle.claxon_rescue.specs.Times.{first_due}
use Rattle.claxon_rescue.specs.LookAhead.{look_ahead}
use Rattle.claxon_rescue.specs.declared.due.Due.{Due}
use Rattle.claxon_rescue.specs.declared.due.Rules.{Rules}
use Rattle.claxon_rescue.specs.declared.losses.LostRange.{LostRange}

-- ---- the parts of a stream

-- s is these parts, one after another, and then m. `start` is the position of its first byte.
abbrev pub AreParts : StreamInfo → ℕ → List ℕ → List Part → List ℕ → Type 0
AreParts info start s [] m = s ≡ m
AreParts info start s (part ∷ parts) m =
    (rest : List ℕ) × IsPart (Some info) start s rest (Some part)
    × AreParts info (after_part start (Some part)) rest parts m

-- the position after them
abbrev pub position_after : ℕ → List Part → ℕ
position_after start [] = start
position_after start (part ∷ parts) = position_after (after_part start (Some part)) parts

-- These are the frames of the stream among its parts.
abbrev pub AreFrames : StreamInfo → List Part → List FrameThere → Type 0
AreFrames info [] frames = frames ≡ []
AreFrames info (DamagePart damage ∷ parts) frames = AreFrames info parts frames
AreFrames info (FramePart there ∷ parts) frames =
    (IsOfStream info there.frame × ((rest : List FrameThere) × AreFrames info parts rest
    × (frames ≡ there ∷ rest)))
    ⊎ ((IsOfStream info there.frame → ⊥) × AreFrames info parts frames)

-- ---- what they give: blocks that are written, ranges that are lost, and what is due then

-- What the first frame gives, and then the others. After them these come later.
abbrev pub FramesGive : Rules → Due → List FrameThere → List FrameThere → List Block
    → List LostRange → Due → Type 0
FramesGive rules due [] later blocks lost last = GivesNothing due blocks last × (lost ≡ [])
FramesGive rules due (there ∷ frames) later blocks lost last =
    (first : List Block) × (ranges : List LostRange) × (next : Due)
    × FrameGives rules due there (take look_ahead (frames ++ later)) first ranges next
    × ((others : List Block) × (more : List LostRange)
    × FramesGive rules next frames later others more last
    × (blocks ≡ first ++ others) × (lost ≡ ranges ++ more))

-- ---- a whole stream

-- These blocks are written of a stream in bytes from this position on, and these ranges are lost:
-- what its frames give, and then what is missing at the end.
pub record Rescues (rules : Rules) (start : ℕ) (parts : List Part) (blocks : List Block)
    (lost : List LostRange) : Type 0 where
  pub frames : List FrameThere
  pub are_frames : AreFrames rules.info parts frames
  pub given : List Block
  pub ranges : List LostRange
  pub last : Due
  pub gives : FramesGive rules (first_due start) frames [] given ranges last
  pub blocks_are : blocks ≡ given ++ gap_blocks rules last (last_sample rules last)
  pub lost_are :
      lost ≡ ranges ++ gap_ranges last (last_sample rules last) (position_after start parts)
