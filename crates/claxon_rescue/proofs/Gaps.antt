-- Samples that are missing, and the silence that is written for them.
use Rattle.std.proofs.Common.{◌≡◌, ℕ, ◌+◌, ◌-◌, ◌<◌, ◌≤◌, Bool, false, true, cond, List, [], ◌∷◌, Option, None, refl, sym, ap, subst, ◌∙◌, arith}
use Rattle.std.specs.Prelude.{◌&&◌, nat_lt}
use Rattle.std.proofs.lemmas.Bool.{le-ltb, lt-ltb}
use Rattle.std.proofs.lemmas.List.Sums.{sum_by-cons}
use Rattle.claxon.specs.Frame.{Block}
use Rattle.claxon_wav.specs.Convert.{PutsSamples}
use Rattle.claxon_rescue.specs.Losses.{missing_in, missing_of}
use Rattle.claxon_rescue.specs.PutSteps.{HashesGiven, IsFileOf, NotesRanges, PutsGap, StopsWriting}
use Rattle.claxon_rescue.specs.Rescue.{gap_blocks, gap_ranges, missing_range, silent_block}
use Rattle.claxon_rescue.specs.Waiting.{waiting_frames}
use Rattle.claxon_wav.specs.Writer.{ExplainsSilenceError, PutsSilence, SameHeader, SilenceErrorKeeps, Unflushed}
use Rattle.claxon_wav.specs.declared.error.Error.{Error}
use Rattle.claxon_wav.specs.declared.error.Error.TheVariants.{Claxon, Exists, OtherChannels, Output, SameFile, TooLong, Unsupported32Bit, WideSample}
use Rattle.claxon_rescue.specs.declared.due.Due.{Due}
use Rattle.claxon_rescue.specs.declared.due.Rules.{Rules}
use Rattle.claxon_rescue.specs.declared.losses.LostRange.{LostRange}
use Rattle.claxon_rescue.specs.declared.parts.Rescue.{Rescue}
use Rattle.claxon_wav.specs.declared.writer.WavWriter.{WavWriter}
use Rattle.claxon_wav.proofs.Converting.{puts_none}
use Rattle.claxon_rescue.proofs.Rescuing.{given_none, given_torn, length-silent, notes_none, puts_silence}

-- ---- what a gap is

module _ (rules : Rules) (due : Due) (sample byte : ℕ) where
  none_blocks : sample ≤ due.sample → gap_blocks rules due sample ≡ []
  none_blocks late = go rules.fills_gaps
    where
      go : (fills : Bool) → cond (fills && nat_lt due.sample sample) (silent_block rules.info.channels due.sample (sample - due.sample) ∷ []) [] ≡ []
      go false = refl
      go true = ap (λ (b : Bool). cond b (silent_block rules.info.channels due.sample (sample - due.sample) ∷ []) []) (le-ltb due.sample sample late)

  none_ranges : sample ≤ due.sample → gap_ranges due sample byte ≡ []
  none_ranges late = ap (λ (b : Bool). cond b (missing_range due sample byte ∷ []) []) (le-ltb due.sample sample late)

  some_ranges : due.sample < sample → gap_ranges due sample byte ≡ missing_range due sample byte ∷ []
  some_ranges more = ap (λ (b : Bool). cond b (missing_range due sample byte ∷ []) []) (lt-ltb due.sample sample more)

  filled_blocks : due.sample < sample → rules.fills_gaps ≡ true → gap_blocks rules due sample ≡ silent_block rules.info.channels due.sample (sample - due.sample) ∷ []
  filled_blocks more fills =
      ap (λ (b : Bool). cond (b && nat_lt due.sample sample) (silent_block rules.info.channels due.sample (sample - due.sample) ∷ []) []) fills ∙ ap (λ (b : Bool). cond b (silent_block rules.info.channels due.sample (sample - due.sample) ∷ []) []) (lt-ltb due.sample sample more)

  skipped_blocks : rules.fills_gaps ≡ false → gap_blocks rules due sample ≡ []
  skipped_blocks skips = ap (λ (b : Bool). cond (b && nat_lt due.sample sample) (silent_block rules.info.channels due.sample (sample - due.sample) ∷ []) []) skips

  some_missing : due.sample < sample → 0 < missing_in (gap_ranges due sample byte)
  some_missing more =
      let is = some_ranges more in
      let one : missing_in (missing_range due sample byte ∷ []) ≡ sample - due.sample + missing_in [] = sum_by-cons missing_of (missing_range due sample byte) [] in
      omega (arith, ap missing_in is, one, more)

-- ---- what is written

module _ {W : Type 0} {contents : W → Option (List ℕ)} where
  -- nothing is missing
  pub no_gap : (rules : Rules) (rescue : Rescue) (file : WavWriter W) (sample byte : ℕ) → sample ≤ rescue.due.sample → PutsGap contents rules rescue rescue file file sample byte
  no_gap rules rescue file sample byte late =
      let blocks = none_blocks rules rescue.due sample byte late in
      let ranges = none_ranges rules rescue.due sample byte late in
      record {
        same_due = refl;
        same_waiting = refl;
        puts = subst (λ (l : List Block). PutsSamples contents l file file) (sym blocks) (puts_none file);
        notes = subst (λ (l : List LostRange). NotesRanges l rescue.losses rescue.losses) (sym ranges) (notes_none rescue.losses);
        hashes = subst (λ (l : List LostRange). HashesGiven rules.info.bits_per_sample l (gap_blocks rules rescue.due sample) rescue.md5 rescue.md5) (sym ranges) (subst (λ (l : List Block). HashesGiven rules.info.bits_per_sample [] l rescue.md5 rescue.md5) (sym blocks) (given_none rescue.md5));
      }

  -- some are, and were noted
  pub gap_noted : (rules : Rules) (old new : Rescue) (before after : WavWriter W) (sample byte : ℕ) → old.due.sample < sample → new.due ≡ old.due → waiting_frames new.waiting ≡ waiting_frames old.waiting → new.md5 ≡ None → NotesRanges (missing_range old.due sample byte ∷ []) old.losses new.losses → PutsSamples contents (gap_blocks rules old.due sample) before after
      → PutsGap contents rules old new before after sample byte
  gap_noted rules old new before after sample byte more due waiting md5 notes puts = record {
    same_due = due;
    same_waiting = waiting;
    puts = puts;
    notes = subst (λ (l : List LostRange). NotesRanges l old.losses new.losses) (sym (some_ranges rules old.due sample byte more)) notes;
    hashes = given_torn (some_missing rules old.due sample byte more) md5;
  }

  -- silence was written
  pub gap_filled : (rules : Rules) (due : Due) (before after : WavWriter W) (sample : ℕ) → due.sample < sample → rules.fills_gaps ≡ true → IsFileOf rules.info before → PutsSilence contents (sample - due.sample) before after → SameHeader before after → Unflushed before after → PutsSamples contents (gap_blocks rules due sample) before after
  gap_filled rules due before after sample more fills is put same unflushed = subst (λ (l : List Block). PutsSamples contents l before after) (sym (filled_blocks rules due sample 0 more fills)) (puts_silence rules.info due.sample (sample - due.sample) is put same unflushed)

  -- or nothing
  pub gap_skipped : (rules : Rules) (due : Due) (file : WavWriter W) (sample : ℕ) → rules.fills_gaps ≡ false → PutsSamples contents (gap_blocks rules due sample) file file
  gap_skipped rules due file sample skips = subst (λ (l : List Block). PutsSamples contents l file file) (sym (skipped_blocks rules due sample 0 skips)) (puts_none file)

-- or not all of it
pub gap_stops : {W : Type 0} (contents : W → Option (List ℕ)) (rules : Rules) (due : Due) (before after : WavWriter W) (sample : ℕ) → due.sample < sample → rules.fills_gaps ≡ true → IsFileOf rules.info before → (e : Error) → ExplainsSilenceError (sample - due.sample) before e → (after.written ≡ before.written) × SilenceErrorKeeps contents (sample - due.sample) e before after
    → StopsWriting (gap_blocks rules due sample) e before after
gap_stops contents rules due before after sample more fills is TooLong explains keeps = subst (λ (l : List Block). StopsWriting l TooLong before after) (sym (filled_blocks rules due sample 0 more fills)) (omega (arith, explains, length-silent before rules.info due.sample (sample - due.sample) is))
gap_stops contents rules due before after sample more fills is (Output cause) explains keeps = keeps.1.1
gap_stops contents rules due before after sample more fills is (Claxon cause) explains keeps = absurd explains
gap_stops contents rules due before after sample more fills is OtherChannels explains keeps = absurd explains
gap_stops contents rules due before after sample more fills is WideSample explains keeps = absurd explains
gap_stops contents rules due before after sample more fills is Unsupported32Bit explains keeps = absurd explains
gap_stops contents rules due before after sample more fills is SameFile explains keeps = absurd explains
gap_stops contents rules due before after sample more fills is Exists explains keeps = absurd explains
