-- Files of damaged streams, finished.
use Rattle.std.proofs.Common.{◌≡◌, ◌≤◌, inr, ℕ, ◌∙◌, ap, subst, sym, lit≤, refl, Bool, List, [], Option, None, Some}
use Rattle.std.specs.Option.{ForSome}
use Rattle.std.specs.Prelude.{Result, Ok, Err, unwrap_or}
use Rattle.claxon_wav.specs.DataSize.{max_data_size}
use Rattle.claxon.specs.Frame.{Block}
use Rattle.claxon.specs.MetadataBlock.{info_view}
use Rattle.claxon.specs.Source.{Source}
use Rattle.claxon.specs.StreamInfos.{StreamInfo}
use Rattle.claxon_blocks.specs.Md5Verdict.{HasHashedBytes, Md5IsJudged}
use Rattle.claxon_blocks.specs.declared.md5_verdict.Md5Verdict.{Md5Verdict}
use Rattle.claxon_blocks.specs.declared.md5_verdict.Md5Verdict.TheVariants.{NotComputed}
use Rattle.claxon_md5.specs.declared.Md5.{Md5}
use Rattle.claxon_recovery.specs.declared.parts.Parts.{Parts}
use Rattle.claxon_write.proofs.Counts.{flushed_after, none_failed_both}
use Rattle.claxon_wav.specs.Convert.{HashesBlocks}
use Rattle.claxon_rescue.specs.PutParts.{PutsParts}
use Rattle.claxon_rescue.specs.PutSteps.{HashesGiven, IsFileOf}
use Rattle.claxon_rescue.specs.RescueEnds.{WriteFaultIsSound, WriteIsSound}
use Rattle.claxon_rescue.specs.RescueFile.{IsPlanFor, IsVerdictOnRescue}
use Rattle.claxon_wav.specs.Writer.{FinishFaultIsSound, FinishFlushes, FinishIsSound, TriesToEnd}
use Rattle.claxon_wav.specs.declared.error.Error.{Error}
use Rattle.claxon_wav.specs.declared.header.Layout.{Layout}
use Rattle.claxon_wav.specs.declared.plan.Plan.{Plan}
use Rattle.claxon_rescue.specs.declared.due.Rules.{Rules}
use Rattle.claxon_rescue.specs.declared.losses.LostRange.{LostRange}
use Rattle.claxon_rescue.specs.declared.parts.Rescue.{Rescue}
use Rattle.claxon_wav.specs.declared.writer.WavWriter.{WavWriter}
use Rattle.claxon_wav.proofs.Converting.{file, judged}

pub same_some : {A : Type 0} {a b : A} → Some a ≡ Some b → a ≡ b
same_some {A} {a} e = ap (λ (o : Option A). unwrap_or o a) e

module _ {R W : Type 0} (source : R → Source ℕ) (contents : W → Option (List ℕ)) (rules : Rules) (start : ℕ) (before after : Parts R) (old put new : WavWriter W) where
  pub written_file : (position : W → Option ℕ) (begun ended : Rescue) (r : Result (Unit {0}) Error) → PutsParts source contents rules start before after old put begun ended → FinishIsSound contents position r put new → FinishFlushes r put new → WriteIsSound source contents rules start before after old new position r begun ended
  written_file position begun ended (Err e) k finishes flushes = tt
  written_file position begun ended (Ok done) k finishes flushes = record {
    put = put;
    parts = k;
    ends = finishes.0;
    right = finishes.1;
    file = file contents k.blocks old put new k.puts finishes.0.right;
    none_failed = none_failed_both k.puts.none_failed flushes.0;
    flushed = flushed_after k.puts.unflushed flushes.1;
  }

  pub end_failed : (r : Result (Unit {0}) Error) → FinishFaultIsSound r put new → TriesToEnd contents put new → WriteFaultIsSound source contents rules start before after old new r
  end_failed (Ok done) fails tries = tt
  end_failed (Err e) fails tries = record { put = put; tries = tries; why = inr fails }

-- ---- a file of a stream

pub file_of : {W : Type 0} (info : StreamInfo) (plan : Plan) (rules : Rules) (file : WavWriter W) → rules.info ≡ info → file.layout ≡ plan.layout → IsPlanFor info plan → IsFileOf rules.info file
file_of info plan rules file same layout is = record {
  channels_are = ap (λ (l : Layout). l.channels) layout ∙ is.channels_are ∙ ap (λ (i : StreamInfo). i.channels) (sym same);
  valid_bits_are = ap (λ (l : Layout). l.valid_bits) layout ∙ is.valid_bits_are ∙ ap (λ (i : StreamInfo). i.bits_per_sample) (sym same);
}

-- how many bytes the first header announces
pub announced_fits : (announced : Option ℕ) → ForSome announced (λ (n : ℕ). n ≤ max_data_size) → unwrap_or announced 0 ≤ max_data_size
announced_fits None fits = lit≤ tt
announced_fits (Some size) fits = fits size refl

none_judged : (info : StreamInfo) (hashed : Option Md5) (verdict : Md5Verdict) → hashed ≡ None → Md5IsJudged (info_view info) hashed verdict → verdict ≡ NotComputed
none_judged info None verdict e is = is
none_judged info (Some hasher) verdict e is = absurd cc

pub verdict_on : (computes_md5 : Bool) (info : StreamInfo) (rules : Rules) (lost : List LostRange) (blocks : List Block) (hasher hashed : Option Md5) (verdict : Md5Verdict) → rules.info ≡ info → HasHashedBytes computes_md5 [] hasher → HashesGiven rules.info.bits_per_sample lost blocks hasher hashed → Md5IsJudged (info_view info) hashed verdict
    → IsVerdictOnRescue computes_md5 info lost blocks verdict
verdict_on computes_md5 info rules lost blocks hasher hashed verdict same new hashes is = record {
  whole = λ none. judged computes_md5 info blocks hasher hashed verdict new (subst (λ (i : StreamInfo). HashesBlocks i.bits_per_sample blocks hasher hashed) same (hashes.whole none)) is;
  torn = λ some. none_judged info hashed verdict (hashes.torn some) is;
}
