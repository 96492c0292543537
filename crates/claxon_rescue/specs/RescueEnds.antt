-- The clauses of writing all parts of a damaged stream, and finishing the file.
use Rattle.std.specs.Prelude.{◌⊎◌, ℕ, List, Option, Result, IfErr, OnOk}
use Rattle.claxon.specs.Source.{Source}
use Rattle.claxon_recovery.specs.declared.parts.Parts.{Parts}
use Rattle.claxon_wav.specs.Convert.{HoldsFile}
use Rattle.claxon_rescue.specs.PutParts.{PutsParts, StopsRescue}
use Rattle.claxon_wav.specs.WavError.{IsOutput}
use Rattle.claxon_wav.specs.Writer.{
  CallsFailed,
  Ends,
  FlushedLast,
  HeaderIsRight,
  NoneFailed,
  TriesToEnd,
}
use Rattle.claxon_wav.specs.declared.error.Error.{Error}
use Rattle.claxon_rescue.specs.declared.due.Rules.{Rules}
use Rattle.claxon_rescue.specs.declared.parts.Rescue.{Rescue}
use Rattle.claxon_wav.specs.declared.writer.WavWriter.{WavWriter}

module _ {R W : Type 0} (source : R → Source ℕ) (contents : W → Option (List ℕ)) (rules : Rules)
    (start : ℕ) (before after : Parts R) (old new : WavWriter W) where
  -- What all parts give was written, and then the file was finished. No call of the output failed,
  -- and the last one was the only flush.
  pub record RescuesFile (position : W → Option ℕ) (begun ended : Rescue) : Type 0 where
    pub put : WavWriter W
    pub parts : PutsParts source contents rules start before after old put begun ended
    pub ends : Ends contents position put new
    pub right : HeaderIsRight put new
    pub file : HoldsFile contents parts.blocks old new
    pub none_failed : NoneFailed old new
    pub flushed : FlushedLast old new

  abbrev pub WriteIsSound : (W → Option ℕ) → Result (Unit {0}) Error → Rescue → Rescue → Type 0
  WriteIsSound position result begun ended = OnOk result (RescuesFile position begun ended)

  -- After an Err the file was finished, or that was tried: not all parts were written, or a call of
  -- the output failed at the end.
  pub record StopsFile (e : Error) : Type 0 where
    pub put : WavWriter W
    pub tries : TriesToEnd contents put new
    pub why : StopsRescue source contents rules start before after old put e
        ⊎ (IsOutput e × CallsFailed put new)

  abbrev pub WriteFaultIsSound : Result (Unit {0}) Error → Type 0
  WriteFaultIsSound result = IfErr result StopsFile
