-- The clauses of writing all parts of a damaged stream.
use Rattle.std.specs.Prelude.{
  ◌≡◌,
  ◌⊎◌,
  ℕ,
  ◌-◌,
  ◌^◌,
  ◌≤◌,
  List,
  [],
  ◌∷◌,
  ◌++◌,
  length,
  take,
  Option,
  Result,
  Err,
  IfErr,
  OnOk,
}
use Rattle.claxon.specs.Errors.{Error as Cause}
use Rattle.claxon.specs.Frame.{Block}
use Rattle.claxon.specs.Source.{Source}
use Rattle.claxon_recovery.specs.Parts.{
  PartStops,
  SourceIsKnown,
  parts_memory,
  parts_source,
  unread,
}
use Rattle.claxon_recovery.specs.Window.{Reads}
use Rattle.claxon_recovery.specs.declared.part.FrameThere.{FrameThere}
use Rattle.claxon_recovery.specs.declared.part.Part.{Part}
use Rattle.claxon_recovery.specs.declared.parts.Parts.{Parts}
use Rattle.claxon_seek.specs.BlockMemory.{MemoryIsCounted}
use Rattle.claxon_wav.specs.Convert.{PutsSamples}
use Rattle.claxon_rescue.specs.PutSteps.{HashesGiven, NotesRanges, StopsAtFrame, StopsWriting}
use Rattle.claxon_rescue.specs.Rescue.{GivesFrame, gap_blocks, last_sample}
use Rattle.claxon_rescue.specs.RescuedStream.{AreFrames, AreParts, FramesGive, Rescues}
use Rattle.claxon_rescue.specs.Times.{first_due}
use Rattle.claxon_rescue.specs.LookAhead.{look_ahead}
use Rattle.claxon_rescue.specs.Waiting.{waiting_frames}
use Rattle.claxon_wav.specs.declared.error.Error.{Error}
use Rattle.claxon_wav.specs.declared.error.Error.TheVariants.{Claxon}
use Rattle.claxon_rescue.specs.declared.due.Due.{Due}
use Rattle.claxon_rescue.specs.declared.due.Rules.{Rules}
use Rattle.claxon_rescue.specs.declared.losses.LostRange.{LostRange}
use Rattle.claxon_rescue.specs.declared.parts.Rescue.{Rescue}
use Rattle.claxon_wav.specs.declared.writer.WavWriter.{WavWriter}

-- ---- frames that waited

-- All is known that decides about the first frames: there are none, or as many as decide come after
-- them.
abbrev pub AreDecided : List FrameThere → List FrameThere → Type 0
AreDecided first rest = (first ≡ []) ⊎ (look_ahead ≤ length rest)

module _ {W : Type 0} (contents : W → Option (List ℕ)) (rules : Rules) (old new : Rescue)
    (before after : WavWriter W) where
  -- What these frames give was written and noted. After them these come later.
  pub record PutsFrames (frames later : List FrameThere) : Type 0 where
    pub blocks : List Block
    pub lost : List LostRange
    pub gives : FramesGive rules old.due frames later blocks lost new.due
    pub puts : PutsSamples contents blocks before after
    pub notes : NotesRanges lost old.losses new.losses
    pub hashes : HashesGiven rules.info.bits_per_sample lost blocks old.md5 new.md5

  -- All that waited were written.
  pub record PutsWaiting : Type 0 where
    pub all : PutsFrames (waiting_frames old.waiting) []
    pub none_left : waiting_frames new.waiting ≡ []

  abbrev pub PutWaitingIsSound : Result (Unit {0}) Error → Type 0
  PutWaitingIsSound result = OnOk result PutsWaiting

  -- The first one was written if all is known that decides about it. There is room for another one.
  pub record MakesRoom : Type 0 where
    pub first : List FrameThere
    pub were : waiting_frames old.waiting ≡ first ++ waiting_frames new.waiting
    pub decided : AreDecided first (waiting_frames new.waiting)
    pub puts : PutsFrames first (waiting_frames new.waiting)
    pub has_room : length (waiting_frames new.waiting) ≤ look_ahead

  abbrev pub MakeRoomIsSound : Result (Unit {0}) Error → Type 0
  MakeRoomIsSound result = OnOk result MakesRoom

  -- The part's frame waits now, if it has one of the stream, after the first one was written.
  pub record PutsPart (part : Part) : Type 0 where
    pub adds : List FrameThere
    pub are_frames : AreFrames rules.info (part ∷ []) adds
    pub first : List FrameThere
    pub rest : List FrameThere
    pub were : waiting_frames old.waiting ≡ first ++ rest
    pub wait : waiting_frames new.waiting ≡ rest ++ adds
    pub decided : AreDecided first rest
    pub puts : PutsFrames first rest

  abbrev pub PutPartIsSound : Part → Result (Unit {0}) Error → Type 0
  PutPartIsSound part result = OnOk result (PutsPart part)

module _ {W : Type 0} (rules : Rules) (due : Due) (before after : WavWriter W) where
  -- Not all of what these frames give was written.
  pub record StopsInFrames (frames : List FrameThere) (e : Error) : Type 0 where
    pub first : List FrameThere
    pub there : FrameThere
    pub ahead : List FrameThere
    pub are : frames ≡ first ++ there ∷ ahead
    pub given : List Block
    pub lost : List LostRange
    pub then_due : Due
    pub gives : FramesGive rules due first (there ∷ ahead) given lost then_due
    pub blocks : List Block
    pub ranges : List LostRange
    pub next : Due
    pub gives_it : GivesFrame rules then_due there (take look_ahead ahead) blocks ranges next
    pub stops : StopsWriting (given ++ blocks) e before after

  abbrev pub PutWaitingFaultIsSound : List FrameThere → Result (Unit {0}) Error → Type 0
  PutWaitingFaultIsSound frames result = IfErr result (StopsInFrames frames)

  -- Not all of what the first one gives was written, about which all is known that decides.
  abbrev pub StopsAtFirst : List FrameThere → Error → Type 0
  StopsAtFirst frames e =
      (there : FrameThere) × (ahead : List FrameThere) × (frames ≡ there ∷ ahead)
      × (length ahead ≡ look_ahead) × StopsAtFrame rules due before after there ahead e

  abbrev pub PutPartFaultIsSound : List FrameThere → Result (Unit {0}) Error → Type 0
  PutPartFaultIsSound frames result = IfErr result (StopsAtFirst frames)

-- ---- all parts

-- No part is left, if the bytes of the source were known before.
abbrev pub NoneLeft : {R : Type 0} → (R → Source ℕ) → Parts R → Parts R → Type 0
NoneLeft source before from = SourceIsKnown source before → unread source from ≡ []

module _ {R W : Type 0} (source : R → Source ℕ) (contents : W → Option (List ℕ)) (rules : Rules)
    (start : ℕ) (before after : Parts R) (old new : WavWriter W) where
  -- All parts were read, without a failed read, and what they give was written.
  pub record PutsParts (begun ended : Rescue) : Type 0 where
    pub more : List ℕ
    pub reads : Reads (source (parts_source before)) (source (parts_source after)) more
    pub parts : List Part
    pub blocks : List Block
    pub lost : List LostRange
    pub are_parts : SourceIsKnown source before
        → AreParts rules.info start (unread source before) parts []
    pub rescues : Rescues rules start parts blocks lost
    pub puts : PutsSamples contents blocks old new
    pub notes : NotesRanges lost begun.losses ended.losses
    pub hashes : HashesGiven rules.info.bits_per_sample lost blocks begun.md5 ended.md5

  -- What stopped it after these parts: the next part couldn't be read.
  pub record StopsAtPart (e : Error) (from : Parts R) : Type 0 where
    pub cause : Cause
    pub is : e ≡ Claxon cause
    pub stops : PartStops source from after cause
    pub counts : MemoryIsCounted {A = Option Part} (Err cause) (parts_memory before) (
        parts_memory after)

  -- Not all of a frame was written, after which as many come as decide about it, or no part is left.
  pub record StopsInFrame (e : Error) (from : Parts R) (parts : List Part) : Type 0 where
    pub frames : List FrameThere
    pub are_frames : AreFrames rules.info parts frames
    pub stops : StopsInFrames rules (first_due start) old new frames e
    pub decided : (look_ahead ≤ length stops.ahead) ⊎ NoneLeft source before from

  -- No part is left, and not all of the silence at the end was written.
  pub record StopsAtEnd (e : Error) (from : Parts R) (parts : List Part) : Type 0 where
    pub frames : List FrameThere
    pub are_frames : AreFrames rules.info parts frames
    pub given : List Block
    pub lost : List LostRange
    pub due : Due
    pub gives : FramesGive rules (first_due start) frames [] given lost due
    pub none_left : NoneLeft source before from
    pub stops : StopsWriting (given ++ gap_blocks rules due (last_sample rules due)) e old new

  -- Why not all parts were written. The first ones were read without a failed read.
  pub record StopsRescue (e : Error) : Type 0 where
    pub parts : List Part
    pub from : Parts R
    pub more : List ℕ
    pub reads : Reads (source (parts_source before)) (source (parts_source from)) more
    pub are_parts : SourceIsKnown source before
        → AreParts rules.info start (unread source before) parts (unread source from)
    pub stops : StopsAtPart e from
        ⊎ (StopsInFrame e from parts
        ⊎ (StopsAtEnd e from parts ⊎ (2 ^ 64 - 1 ≤ length parts)))

  abbrev pub PutPartsIsSound : Result (Unit {0}) Error → Rescue → Rescue → Type 0
  PutPartsIsSound result begun ended = OnOk result (PutsParts begun ended)

  abbrev pub PutPartsFaultIsSound : Result (Unit {0}) Error → Type 0
  PutPartsFaultIsSound result = IfErr result StopsRescue
