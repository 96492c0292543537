-- The number of samples that a file holds.
use Rattle.std.proofs.Common.{◌≡◌, ℕ, ◌+◌, ◌*◌, ◌/◌, ◌<◌, ◌≤◌, ℤ, List, Option, [], ◌∷◌, length, sym, ap, subst, ◌∙◌, arith, length-append}
use Rattle.std.specs.Prelude.{All}
use Rattle.std.proofs.Math.Nat.{mul-div_cancel}
use Rattle.std.proofs.lemmas.List.Elements.{All-head, All-tail}
use Rattle.std.proofs.lemmas.List.Sums.{sum_by-cons}
use Rattle.claxon.specs.Frame.{Block}
use Rattle.claxon.specs.SampleRuns.{samples_of}
use Rattle.claxon.specs.Streams.{duration_of, interleave}
use Rattle.claxon.proofs.Streams.{length-interleave}
use Rattle.claxon_wav.specs.Conversion.{total_duration}
use Rattle.claxon_wav.specs.Convert.{PutsSamples, packed_blocks}
use Rattle.claxon_wav.specs.Samples.{bytes_of_sample, packed_samples}
use Rattle.claxon_wav.specs.WaveFile.{block_align, sample_size}
use Rattle.claxon_wav.specs.Writer.{samples_written}
use Rattle.claxon_wav.specs.declared.writer.WavWriter.{WavWriter}
use Rattle.claxon_wav.proofs.PackedSamples.{length-bytes_of_sample}

-- the bytes of samples
length-packed : (valid_bits : ℕ) → valid_bits ≤ 32 → (xs : List ℤ) → length (packed_samples valid_bits xs) ≡ length xs * sample_size valid_bits
length-packed valid_bits few [] = omega arith
length-packed valid_bits few (x ∷ xs) =
    let size = sample_size valid_bits in
    let small : size ≤ 4 = omega (arith, few) in
    let first = length-bytes_of_sample size valid_bits x small in
    let others = length-packed valid_bits few xs in
    length-append (bytes_of_sample size valid_bits x) (packed_samples valid_bits xs) ∙ omega (arith, first, others)

-- the samples of all channels
length-samples : (channels : ℕ) (blocks : List Block) → All (λ b. length b.channels ≡ channels) blocks → length (samples_of blocks) ≡ total_duration blocks * channels
length-samples channels [] all = omega arith
length-samples channels (b ∷ blocks) all =
    let count : length b.channels ≡ channels = All-head (λ (k : Block). length k.channels ≡ channels) b blocks all in
    let first : length (interleave b.channels) ≡ duration_of b.channels * channels = subst (λ (n : ℕ). length (interleave b.channels) ≡ duration_of b.channels * n) count (length-interleave b.channels) in
    let others = length-samples channels blocks (All-tail (λ (k : Block). length k.channels ≡ channels) b blocks all) in
    let total : total_duration (b ∷ blocks) ≡ duration_of b.channels + total_duration blocks = sum_by-cons (λ (k : Block). duration_of k.channels) b blocks in
    length-append (interleave b.channels) (samples_of blocks) ∙ omega (arith, first, others) ∙ ap (λ (n : ℕ). n * channels) (sym total)

-- how many a writer counts that has written just these blocks
pub counted : {W : Type 0} (contents : W → Option (List ℕ)) (blocks : List Block) (old put new : WavWriter W) → PutsSamples contents blocks old put → old.written ≡ 0 → new.written ≡ put.written → new.layout ≡ put.layout → samples_written new ≡ total_duration blocks
counted contents blocks old put new h none written layout =
    let l = old.layout in
    let align = block_align l in
    let bytes : new.written ≡ length (packed_blocks l.valid_bits blocks) = omega (arith, written, h.written_is, none) in
    let size = length-packed l.valid_bits l.few_bits (samples_of blocks) in
    let count = length-samples l.channels blocks h.channels in
    let all : new.written ≡ total_duration blocks * align = bytes ∙ size ∙ ap (λ (n : ℕ). n * sample_size l.valid_bits) count ∙ omega arith in
    let some : 0 < align = grind (arith, l.some_channels, l.some_bits) in
    let same : block_align new.layout ≡ align = ap block_align (layout ∙ h.layout_is) in
    ap (λ (n : ℕ). n / block_align new.layout) all ∙ ap (λ (n : ℕ). total_duration blocks * align / n) same ∙ mul-div_cancel (total_duration blocks) some
