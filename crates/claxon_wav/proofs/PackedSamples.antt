-- Samples as the bytes of a WAV file.
use Rattle.std.proofs.Common.{◌≡◌, ℕ, ◌-◌, ◌*◌, ◌≤◌, List, length, take, refl, ap, ◌∙◌, arith, ℤ}
use Rattle.std.specs.Int.{to_le_bytes, w32}
use Rattle.std.proofs.lemmas.List.{length-take}
use Rattle.claxon_wav.specs.Samples.{bytes_of_sample, shifted_sample, silence}

pub length-bytes_of_sample : (size valid_bits : ℕ) (x : ℤ) → size ≤ 4 → length (bytes_of_sample size valid_bits x) ≡ size
unfolding bytes_of_sample
length-bytes_of_sample size valid_bits x small = let all = to_le_bytes w32 (shifted_sample (8 * size - valid_bits) (silence size) x) in let four : length all ≡ 4 = refl in omega (arith, length-take size all, four, small)

-- a sample's bytes, taken from four
pub taken : (size valid_bits shift quiet : ℕ) (x : ℤ) (four bytes : List ℕ) → bytes ≡ take size four → four ≡ to_le_bytes w32 (shifted_sample shift quiet x) → shift ≡ 8 * size - valid_bits → quiet ≡ silence size → bytes ≡ bytes_of_sample size valid_bits x
unfolding bytes_of_sample
taken size valid_bits shift quiet x four bytes cut is shift-is quiet-is =
    cut ∙ ap (take size) is ∙ ap (λ (k : ℕ). take size (to_le_bytes w32 (shifted_sample k quiet x))) shift-is ∙ ap (λ (k : ℕ). take size (to_le_bytes w32 (shifted_sample (8 * size - valid_bits) k x))) quiet-is
