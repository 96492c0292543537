-- The end of a file: the pad byte, and the right header.
use Rattle.std.proofs.Common.{◌≡◌, ◌⊎◌, inl, inr, ℕ, List, Option, None, Some, refl, subst, sym, ◌∙◌}
use Rattle.std.specs.Prelude.{IfErr, IfSome, IsErrAnd, OnErr, OnOk, Result, Ok, Err}
use Rattle.std.specs.Io.KnownBytes.{Appends}
use Rattle.std.specs.Io.Seek.{MovesTo}
use Rattle.std.proofs.KnownBytes.{Appends-kept}
use Rattle.claxon.specs.Errors.{Error as Cause}
use Rattle.claxon_write.specs.CountingWriter.{CountsFailedFlush, CountsFailedSeek, CountsFailedWrite, CountsFlush, CountsNoFailure, CountsNoFlush}
use Rattle.claxon_write.specs.declared.counting_writer.CountingWriter.{CountingWriter}
use Rattle.claxon_write.proofs.Counts.{flush_failed_after, flushed_after, none_failed_both}
use Rattle.claxon_wav.specs.WavError.{IsOutput, IsOutputResult}
use Rattle.claxon_wav.specs.WaveFile.{pad}
use Rattle.claxon_wav.specs.Writer.{Ends, FinishFlushes, FinishIsSound, HeaderIsRight, SameHeader, TriesToEnd, TriesToPad, UpdateFaultIsSound, UpdatesHeader, UpdateHeaderIsSound, WritesHeader, output_contents}
use Rattle.claxon_wav.specs.declared.error.Error.{Error}
use Rattle.claxon_wav.specs.declared.header.Layout.{Layout}
use Rattle.claxon_wav.specs.declared.writer.WavWriter.{WavWriter}

-- ---- results of the output

module _ {A : Type 0} where
  -- what holds of each result holds after an Ok
  pub on_ok : {E P : Type 0} (r : Result A E) → P → OnOk r P
  on_ok (Ok value) p = p
  on_ok (Err e) p = tt

  -- what a failed call says
  pub output_failed : {P : Type 0} (answer : Result A Cause) (r : Result A Error) (e : Error) → IsOutputResult answer r → r ≡ Err e → OnErr answer P → IsOutput e × P
  output_failed (Ok value) r e h is p = absurd (let k : Ok value ≡ Err e = sym h ∙ is in cc)
  output_failed (Err cause) r e h is p = (subst (λ (z : Result A Error). IsErrAnd z IsOutput) is h, p)

  -- what one that succeeded says
  pub output_succeeded : {P : Type 0} (answer : Result A Cause) (r : Result A Error) (value : A) → IsOutputResult answer r → r ≡ Ok value → OnOk answer P → P
  output_succeeded (Ok x) r value h is p = p
  output_succeeded (Err cause) r value h is p = absurd (subst (λ (z : Result A Error). IsErrAnd z IsOutput) is h)

  -- a flush after calls that did not fail
  module _ {W : Type 0} {a b : CountingWriter W} (c : CountingWriter W) (none : CountsNoFailure a b) (unflushed : CountsNoFlush a b) (answer : Result A Cause) where
    pub flush_succeeds : (r : Result A Error) → IsOutputResult answer r → OnOk answer (CountsNoFailure b c) → CountsFlush b c → OnOk r (CountsNoFailure a c × CountsFlush a c)
    flush_succeeds (Err e) h s f = tt
    flush_succeeds (Ok value) h s f = (none_failed_both none (output_succeeded answer (Ok value) value h refl s), flushed_after unflushed f)

    pub flush_fails : (r : Result A Error) → IsOutputResult answer r → OnErr answer (CountsFailedFlush b c) → IfErr r (λ e. IsOutput e × (CountsFailedWrite a c ⊎ (CountsFailedFlush a c ⊎ CountsFailedSeek a c)))
    flush_fails (Ok value) h f = tt
    flush_fails (Err e) h f = let k = output_failed answer (Err e) e h refl f in (k.0, inr (inl (flush_failed_after none k.1)))

-- a seek to the start
pub at_start : {A : Type 0} (old new : Option ℕ) (answer : Result A Cause) (r : Result A Error) (value : A) → IsOutputResult answer r → r ≡ Ok value → MovesTo old new 0 answer → IfSome old (λ _. new ≡ Some 0)
at_start None new answer r value h is m = tt
at_start (Some at) new (Ok moved) r value h is m = m
at_start {A} (Some at) new (Err cause) r value h is m = absurd (subst (λ (z : Result A Error). IsErrAnd z IsOutput) is h)

-- ---- the end of a file

-- the pad byte, and then the header
ends : {W : Type 0} (contents : W → Option (List ℕ)) (position : W → Option ℕ) (old padded new : WavWriter W) → Appends (output_contents contents old) (output_contents contents padded) (pad old.written) → SameHeader old padded → padded.written ≡ old.written
    → UpdatesHeader contents position padded new × HeaderIsRight padded new → Ends contents position old new × HeaderIsRight old new
ends contents position old padded new p same count m = (
  record {
    right = λ e. Appends-kept (output_contents contents old) (output_contents contents padded) (output_contents contents new) (pad old.written) p (m.0.right (same.announced_is ∙ e ∙ sym count));
    wrong = λ differ. (
      padded.output,
      p,
      subst (λ (l : Layout). WritesHeader contents position l old.written padded.output new.output) same.layout_is
          (subst (λ (n : ℕ). WritesHeader contents position padded.layout n padded.output new.output) count (m.0.wrong (λ e. differ (sym same.announced_is ∙ e ∙ count)))),
    );
  },
  record { announced_is = m.1.announced_is ∙ count; written_is = m.1.written_is ∙ count; layout_is = m.1.layout_is ∙ same.layout_is },
)

pub finishes : {W : Type 0} (contents : W → Option (List ℕ)) (position : W → Option ℕ) (r : Result (Unit {0}) Error) (old padded new : WavWriter W) → Appends (output_contents contents old) (output_contents contents padded) (pad old.written) → SameHeader old padded → padded.written ≡ old.written
    → UpdateHeaderIsSound contents position r padded new → FinishIsSound contents position r old new
finishes contents position (Ok done) old padded new p same count m = ends contents position old padded new p same count m
finishes contents position (Err e) old padded new p same count m = tt

-- the header, after the pad byte was tried
pub tries : {W : Type 0} (contents : W → Option (List ℕ)) (position : W → Option ℕ) (r : Result (Unit {0}) Error) (old padded new : WavWriter W) → TriesToPad contents old padded.output → SameHeader old padded → padded.written ≡ old.written → UpdateHeaderIsSound contents position r padded new → FinishFlushes r padded new
    → UpdateFaultIsSound r padded new → TriesToEnd contents old new
tries contents position (Ok done) old padded new p same count m flushes fails = record { padded = padded.output; pads = p; ends = inl (record { announced_is = m.1.announced_is ∙ count; written_is = m.1.written_is ∙ count; layout_is = m.1.layout_is ∙ same.layout_is }, flushes.1) }
tries contents position (Err e) old padded new p same count m flushes fails = record { padded = padded.output; pads = p; ends = inr fails.1 }
