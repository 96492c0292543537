-- The samples that calls gave, collected.
use Rattle.std.proofs.Common.{◌≡◌, inl, inr, ℕ, ℤ, List, [], ◌∷◌, ◌++◌, length, Option, Some, sym, ap, subst, ◌∙◌, arith, length-append}
use Rattle.claxon.specs.Frame.{StreamFormat, Block}
use Rattle.claxon.specs.Source.{Source}
use Rattle.claxon.specs.State.{bytes_in}
use Rattle.claxon.specs.Errors.{Error}
use Rattle.claxon.specs.FlacReader.{samples_input}
use Rattle.claxon.specs.FlacSamples.{samples_bytes, samples_left, samples_stream}
use Rattle.claxon.specs.SampleRuns.{GaveAll, GaveSamples, ReadsFrames, ConsumesFrames, end_found, samples_of}
use Rattle.claxon.specs.declared.samples.FlacSamples.{FlacSamples}
use Rattle.claxon.proofs.SampleRuns.{gave_all, gave_more}
use Rattle.claxon_uses.specs.Collecting.{Collects, LacksMemory, StopsAdding, StopsCollecting}

-- a new iterator of samples
module _ {R A : Type 0} (source : R → Source ℕ) (stream : Option StreamFormat) (input : R) (old : FlacSamples R A) (at : samples_input old ≡ input) (of : samples_stream old ≡ stream) (none : samples_left old ≡ []) where
  pub collected : (end : Option Error) (xs : List ℤ) (new : FlacSamples R A) → GaveAll source old xs end new → Collects source stream input end xs
  collected end xs new h = record {
    after = samples_input new;
    blocks = h.blocks;
    ends = subst (λ (z : R). ReadsFrames stream h.blocks (end_found end) (bytes_in source z) (samples_bytes source new)) at (subst (λ (s : Option StreamFormat). ReadsFrames s h.blocks (end_found end) (samples_bytes source old) (samples_bytes source new)) of h.ends);
    samples = ap (λ (z : List ℤ). z ++ samples_of h.blocks) (sym none) ∙ h.samples;
  }

  some_blocks : (blocks : List Block) (xs left : List ℤ) (x : ℤ) (new : FlacSamples R A) → ConsumesFrames stream blocks (bytes_in source input) (samples_bytes source new) → [] ++ samples_of blocks ≡ (xs ++ x ∷ []) ++ left → LacksMemory source stream input
  some_blocks [] xs left x new f e = absurd (omega (arith, ap length e, length-append (xs ++ x ∷ []) left, length-append xs (x ∷ [])))
  some_blocks (b ∷ blocks) xs left x new f e = record { after = samples_input new; first = b; others = blocks; frames = f }

  pub lacks_memory : (xs : List ℤ) (x : ℤ) (new : FlacSamples R A) → GaveSamples source old (xs ++ x ∷ []) new → LacksMemory source stream input
  lacks_memory xs x new h =
      some_blocks h.blocks xs (samples_left new) x new
      (subst (λ (z : R). ConsumesFrames stream h.blocks (bytes_in source z) (samples_bytes source new)) at (subst (λ (s : Option StreamFormat). ConsumesFrames s h.blocks (samples_bytes source old) (samples_bytes source new)) of h.frames))
      (ap (λ (z : List ℤ). z ++ samples_of h.blocks) (sym none) ∙ h.samples)

  -- an error in place of one sample more
  pub stops : (xs : List ℤ) (mid : FlacSamples R A) (e : Error) (new : FlacSamples R A) → GaveSamples source old xs mid → StopsAdding source mid new e → StopsCollecting source stream input e
  stops xs mid e new h (inl step) = inl (xs, collected (Some e) xs new (gave_all source h (Some e) new step))
  stops xs mid e new h (inr k) = inr (k.0, lacks_memory xs k.1.0 new (gave_more source h k.1.0 new k.1.1))

-- the same of equal samples
pub gave_as : {R A : Type 0} {source : R → Source ℕ} {old new : FlacSamples R A} {xs ys : List ℤ} → ys ≡ xs → GaveSamples source old xs new → GaveSamples source old ys new
gave_as {source = source} {old = old} {new = new} e h = subst (λ (z : List ℤ). GaveSamples source old z new) (sym e) h
