-- The clauses of one step of writing a damaged stream.
use Rattle.std.specs.Prelude.{
  ◌≡◌,
  ℕ,
  ◌+◌,
  ◌<◌,
  List,
  ◌∷◌,
  ◌++◌,
  length,
  None,
  Option,
  Result,
  IfErr,
  OnOk,
}
use Rattle.claxon.specs.Errors.TheVariants.{OutOfMemory}
use Rattle.claxon.specs.Frame.{Block}
use Rattle.claxon.specs.StreamInfos.{StreamInfo}
use Rattle.claxon.specs.Streams.{interleave}
use Rattle.claxon_md5.specs.declared.Md5.{Md5}
use Rattle.claxon_recovery.specs.declared.part.FrameThere.{FrameThere}
use Rattle.claxon_wav.specs.Convert.{HashesBlocks, PutsSamples, packed_blocks}
use Rattle.claxon_wav.specs.DataSize.{max_data_size}
use Rattle.claxon_rescue.specs.Losses.{HasNoted, missing_in}
use Rattle.claxon_rescue.specs.Rescue.{FrameGives, GivesFrame, gap_blocks, gap_ranges}
use Rattle.claxon_rescue.specs.Waiting.{waiting_frames}
use Rattle.claxon_wav.specs.Writer.{HasRoomFor}
use Rattle.claxon_write.specs.CountingWriter.{CountsFailedWrite}
use Rattle.claxon_wav.specs.declared.error.Error.{Error}
use Rattle.claxon_wav.specs.declared.error.Error.TheVariants.{Claxon, Output, TooLong}
use Rattle.claxon_rescue.specs.declared.due.Due.{Due}
use Rattle.claxon_rescue.specs.declared.due.Rules.{Rules}
use Rattle.claxon_rescue.specs.declared.losses.LostRange.{LostRange}
use Rattle.claxon_rescue.specs.declared.losses.Losses.{Losses}
use Rattle.claxon_rescue.specs.declared.parts.Rescue.{Rescue}
use Rattle.claxon_wav.specs.declared.writer.WavWriter.{WavWriter}

-- The file has the streaminfo's number of channels and its bit depth.
pub record IsFileOf {W : Type 0} (info : StreamInfo) (file : WavWriter W) : Type 0 where
  pub channels_are : file.layout.channels ≡ info.channels
  pub valid_bits_are : file.layout.valid_bits ≡ info.bits_per_sample

-- These ranges more were noted.
abbrev pub NotesRanges : List LostRange → Losses → Losses → Type 0
NotesRanges ranges old new =
    (max_ranges : ℕ) (before : List LostRange) → HasNoted max_ranges before old
    → HasNoted max_ranges (before ++ ranges) new

-- The samples of these blocks are hashed too, if there is a hasher and none are missing. After
-- those that are missing there is none.
pub record HashesGiven (bit_depth : ℕ) (lost : List LostRange) (blocks : List Block)
    (old new : Option Md5) : Type 0 where
  pub whole : missing_in lost ≡ 0 → HashesBlocks bit_depth blocks old new
  pub torn : 0 < missing_in lost → new ≡ None

-- ---- blocks that aren't written

-- A file has no room for the samples of one of these blocks.
pub record NeedsRoom {W : Type 0} (blocks : List Block) (file : WavWriter W) : Type 0 where
  pub before : List Block
  pub block : Block
  pub after : List Block
  pub is_there : blocks ≡ before ++ block ∷ after
  pub full : HasRoomFor (length (interleave block.channels)) file → ⊥

-- Why not all of these blocks were written: they are more than a WAV file holds, a write failed, or
-- memory was refused for one that is larger than those before.
abbrev pub StopsWriting : {W : Type 0} → List Block → Error → WavWriter W → WavWriter W
    → Type 0
StopsWriting blocks TooLong old new =
    max_data_size < old.written + length (packed_blocks old.layout.valid_bits blocks)
StopsWriting blocks (Output cause) old new = CountsFailedWrite old.output new.output
StopsWriting blocks (Claxon cause) old new = (cause ≡ OutOfMemory) × NeedsRoom blocks old
StopsWriting blocks _ old new = ⊥

-- ---- one step

module _ {W : Type 0} (contents : W → Option (List ℕ)) (rules : Rules) (old new : Rescue)
    (before after : WavWriter W) where
  -- What is missing up to this sample was written and noted.
  pub record PutsGap (sample byte : ℕ) : Type 0 where
    pub same_due : new.due ≡ old.due
    pub same_waiting : waiting_frames new.waiting ≡ waiting_frames old.waiting
    pub puts : PutsSamples contents (gap_blocks rules old.due sample) before after
    pub notes : NotesRanges (gap_ranges old.due sample byte) old.losses new.losses
    pub hashes : HashesGiven rules.info.bits_per_sample (gap_ranges old.due sample byte)
        (gap_blocks rules old.due sample) old.md5 new.md5

  abbrev pub PutGapIsSound : ℕ → ℕ → Result (Unit {0}) Error → Type 0
  PutGapIsSound sample byte result = OnOk result (PutsGap sample byte)

  -- What the frame gives was written and noted. The frames that wait come after it.
  pub record PutsFrame (there : FrameThere) : Type 0 where
    pub blocks : List Block
    pub lost : List LostRange
    pub gives : FrameGives rules old.due there (waiting_frames old.waiting) blocks lost new.due
    pub same_waiting : waiting_frames new.waiting ≡ waiting_frames old.waiting
    pub puts : PutsSamples contents blocks before after
    pub notes : NotesRanges lost old.losses new.losses
    pub hashes : HashesGiven rules.info.bits_per_sample lost blocks old.md5 new.md5

  abbrev pub PutFrameIsSound : FrameThere → Result (Unit {0}) Error → Type 0
  PutFrameIsSound there result = OnOk result (PutsFrame there)

module _ {W : Type 0} (rules : Rules) (due : Due) (before after : WavWriter W) where
  abbrev pub PutGapFaultIsSound : ℕ → Result (Unit {0}) Error → Type 0
  PutGapFaultIsSound sample result =
      IfErr result (λ e. StopsWriting (gap_blocks rules due sample) e before after)

  -- Not all of what the frame gives was written, after which these come.
  abbrev pub StopsAtFrame : FrameThere → List FrameThere → Error → Type 0
  StopsAtFrame there ahead e =
      (blocks : List Block) × (lost : List LostRange) × (next : Due)
      × GivesFrame rules due there ahead blocks lost next × StopsWriting blocks e before after

  abbrev pub PutFrameFaultIsSound : FrameThere → List FrameThere → Result (Unit {0}) Error → Type 0
  PutFrameFaultIsSound there ahead result = IfErr result (StopsAtFrame there ahead)
