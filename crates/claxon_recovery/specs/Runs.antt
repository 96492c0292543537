-- Whole runs: the parts of a stream, one after another, up to its end.
use Rattle.std.specs.Prelude.{◌≡◌, ◌+◌, ◌%◌, ◌^◌, ◌<◌, ◌≤◌, ℕ, List, [], ◌∷◌, ◌++◌, length, Some, Option, IfSome}
use Rattle.claxon.specs.DecodedFrame.{FrameValue, decoded_view}
use Rattle.claxon.specs.ShownHead.{HasBitDepth}
use Rattle.claxon.specs.StreamInfos.{StreamInfo}
use Rattle.claxon_recovery.specs.AtStart.{StreamFrameCode}
use Rattle.claxon_recovery.specs.Kept.{most_kept}
use Rattle.claxon_recovery.specs.Parts.{IsFrameOf, IsPart, after_part}
use Rattle.claxon_recovery.specs.declared.part.Part.{Part}
use Rattle.claxon_recovery.specs.declared.part.Part.TheVariants.{
  Frame as FramePart,
  Damage as DamagePart,
}

-- ---- a run

module _ (known : Option StreamInfo) where
  -- The bytes s, of which the first is at the position start, have these parts.
  abbrev pub AreParts : ℕ → List ℕ → List Part → Type 0
  AreParts start s [] = s ≡ []
  AreParts start s (part ∷ parts) =
      (m : List ℕ) × IsPart known start s m (Some part)
      × AreParts (after_part start (Some part)) m parts

  -- If a frame of the stream comes next, of no more bytes than are kept, it is the part.
  abbrev pub FindsFrame : List ℕ → List ℕ → Part → Type 0
  FindsFrame s m part =
      (value : FrameValue) (t rest : List ℕ) → StreamFrameCode known value t → s ≡ t ++ rest
      → length t ≤ most_kept known → IsFrameOf value (Some part) × (m ≡ rest)

  -- They are what calls answer.
  abbrev pub AreAnswered : ℕ → List ℕ → List Part → Type 0
  AreAnswered start s [] = s ≡ []
  AreAnswered start s (part ∷ parts) =
      (m : List ℕ) × IsPart known start s m (Some part) × FindsFrame s m part
      × AreAnswered (after_part start (Some part)) m parts

  -- The bytes are these frames of the stream, of no more bytes than are kept.
  abbrev pub AreFrames : List FrameValue → List ℕ → Type 0
  AreFrames [] s = s ≡ []
  AreFrames (value ∷ values) s =
      (t : List ℕ) × (rest : List ℕ) × StreamFrameCode known value t × (s ≡ t ++ rest)
      × (length t ≤ most_kept known) × AreFrames values rest

-- ---- what is said of its parts

-- each position of the part was searched
abbrev pub IsSearched : Part → Type 0
IsSearched (FramePart there) = Unit {0}
IsSearched (DamagePart damage) = damage.unsearched ≡ 0

abbrev pub AreSearched : List Part → Type 0
AreSearched [] = Unit {0}
AreSearched (part ∷ parts) = IsSearched part × AreSearched parts

-- The same frame, or damage, at the same positions.
abbrev pub SamePart : Part → Part → Type 0
SamePart (FramePart a) (FramePart b) =
    (a.start ≡ b.start) × (a.end ≡ b.end) × (decoded_view a.frame ≡ decoded_view b.frame)
SamePart (DamagePart a) (DamagePart b) = (a.start ≡ b.start) × (a.end ≡ b.end)
SamePart _ _ = ⊥

abbrev pub SameParts : List Part → List Part → Type 0
SameParts [] [] = Unit {0}
SameParts (a ∷ parts) (b ∷ others) = SamePart a b × SameParts parts others
SameParts _ _ = ⊥

-- The parts are these frames.
abbrev pub AreFrameParts : List FrameValue → List Part → Type 0
AreFrameParts [] [] = Unit {0}
AreFrameParts (value ∷ values) (part ∷ parts) =
    IsFrameOf value (Some part) × AreFrameParts values parts
AreFrameParts _ _ = ⊥

abbrev pub part_start : Part → ℕ
part_start (FramePart there) = there.start
part_start (DamagePart damage) = damage.start

abbrev pub part_end : Part → ℕ
part_end (FramePart there) = there.end
part_end (DamagePart damage) = damage.end

-- The first part begins at a position, each other one where the part before it ends, and the last
-- one ends at another position.
abbrev pub AreJoined : ℕ → List Part → ℕ → Type 0
AreJoined start [] end = end ≡ start
AreJoined start (part ∷ parts) end = (part_start part ≡ start) × AreJoined (part_end part) parts end

-- ---- laws

-- Bytes have one list of parts where each position of damage was searched.
abbrev pub OneRun : Type 0
OneRun = (known : Option StreamInfo) (start : ℕ) (s : List ℕ) (parts others : List Part)
    → IfSome known HasBitDepth → length s < 2 ^ 64 → AreParts known start s parts → AreParts known start s others
    → AreSearched parts → AreSearched others → SameParts parts others

-- Of frames of the stream alone the parts are these frames.
abbrev pub FramesAlone : Type 0
FramesAlone = (known : Option StreamInfo) (start : ℕ) (s : List ℕ) (values : List FrameValue)
    (parts : List Part) → IfSome known HasBitDepth → AreFrames known values s
    → AreAnswered known start s parts → AreFrameParts values parts

-- The parts join from the first position to that after the last byte, modulo 2 ^ 64.
abbrev pub PartsJoin : Type 0
PartsJoin = (known : Option StreamInfo) (start : ℕ) (s : List ℕ) (parts : List Part) → start < 2 ^ 64
    → AreParts known start s parts → AreJoined start parts ((start + length s) % 2 ^ 64)
