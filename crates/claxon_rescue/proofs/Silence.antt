-- Silence, as blocks of zeros and as bytes.
use Rattle.std.proofs.Common.{◌≡◌, ℕ, ◌+◌, ◌*◌, ◌^◌, ◌-◌, ◌≤◌, ℤ, pos, zero, suc, List, [], ◌∷◌, ◌++◌, length, get_or, replicate, take, lit≤, w32, ◌%◌, refl, ap, ◌∙◌, arith}
use Rattle.std.specs.Prelude.{All}
use Rattle.std.specs.Int.{to_le_bytes}
use Rattle.std.specs.List.{flat_map, range_with_len}
use Rattle.std.proofs.lemmas.Nat.{pow_pos}
use Rattle.std.proofs.lemmas.List.{length-replicate, replicate-append-replicate}
use Rattle.std.proofs.lemmas.List.Concat.{flat_map-cons}
use Rattle.std.proofs.lemmas.List.Elements.{All-replicate}
use Rattle.std.proofs.lemmas.List.FromFn.{length-range_with_len}
use Rattle.claxon.specs.Bits.{FitsIn}
use Rattle.claxon.specs.Streams.{duration_of, interleave, samples_at}
use Rattle.claxon_wav.specs.Samples.{bytes_of_sample, packed_samples, shifted_sample, silence}
use Rattle.claxon_wav.specs.WaveFile.{sample_size}

-- lists of one value, one after another
flat_map-same : {X A : Type 0} (f : X → List A) (k : ℕ) (a : A) → ((x : X) → f x ≡ replicate k a) → (xs : List X) → flat_map f xs ≡ replicate (length xs * k) a
flat_map-same f k a same [] = let none : 0 ≡ 0 * k = omega arith in ap (λ n. replicate n a) none
flat_map-same f k a same (x ∷ xs) =
    let others = flat_map-same f k a same xs in
    let count : k + length xs * k ≡ length (x ∷ xs) * k = omega arith in
    flat_map-cons f x xs ∙ ap (λ l. l ++ flat_map f xs) (same x) ∙ ap (λ l. replicate k a ++ l) others ∙ replicate-append-replicate k (length xs * k) a ∙ ap (λ n. replicate n a) count

flat_map-zeros : {A : Type 0} (f : ℤ → List A) (k : ℕ) (a : A) → f (pos 0) ≡ replicate k a → (n : ℕ) → flat_map f (replicate n (pos 0)) ≡ replicate (n * k) a
flat_map-zeros f k a same zero = let none : 0 ≡ 0 * k = omega arith in ap (λ n. replicate n a) none
flat_map-zeros f k a same (suc n) =
    let others = flat_map-zeros f k a same n in
    let count : k + n * k ≡ suc n * k = omega arith in
    flat_map-cons f (pos 0) (replicate n (pos 0)) ∙ ap (λ l. l ++ flat_map f (replicate n (pos 0))) same ∙ ap (λ l. replicate k a ++ l) others ∙ replicate-append-replicate k (n * k) a ∙ ap (λ m. replicate m a) count

-- a sample of zeros
get_or-zeros : (n i : ℕ) → get_or (replicate n (pos 0)) i (pos 0) ≡ pos 0
get_or-zeros zero i = refl
get_or-zeros (suc n) zero = refl
get_or-zeros (suc n) (suc i) = get_or-zeros n i

samples_at-zeros : (channels n i : ℕ) → samples_at (replicate channels (replicate n (pos 0))) i ≡ replicate channels (pos 0)
samples_at-zeros zero n i = refl
samples_at-zeros (suc channels) n i = ap (λ x. x ∷ samples_at (replicate channels (replicate n (pos 0))) i) (get_or-zeros n i) ∙ ap (λ l. pos 0 ∷ l) (samples_at-zeros channels n i)

pub duration-zeros : (channels n : ℕ) → 1 ≤ channels → duration_of (replicate channels (replicate n (pos 0))) ≡ n
duration-zeros zero n some = absurd (omega (arith, some))
duration-zeros (suc channels) n some = length-replicate n (pos 0)

pub interleave-zeros : (channels n : ℕ) → 1 ≤ channels → interleave (replicate channels (replicate n (pos 0))) ≡ replicate (n * channels) (pos 0)
interleave-zeros channels n some =
    let all = replicate channels (replicate n (pos 0)) in
    let long : length (range_with_len 0 (duration_of all)) ≡ n = length-range_with_len 0 (duration_of all) ∙ duration-zeros channels n some in
    flat_map-same (samples_at all) channels (pos 0) (samples_at-zeros channels n) (range_with_len 0 (duration_of all)) ∙ ap (λ m. replicate (m * channels) (pos 0)) long

-- its bytes
shifted_zero : (shift quiet : ℕ) → quiet ≤ 128 → shifted_sample shift quiet (pos 0) ≡ quiet
shifted_zero shift quiet few =
    let none : 0 * 2 ^ shift ≡ 0 = omega arith in
    ap (λ n. (n % 2 ^ 32 + quiet) % 2 ^ 32) none ∙ omega (arith, few)

zero_bytes : (size valid_bits : ℕ) → 1 ≤ size → size ≤ 4 → bytes_of_sample size valid_bits (pos 0) ≡ replicate size (silence size)
unfolding bytes_of_sample
zero_bytes zero valid_bits some few = absurd (omega (arith, some))
zero_bytes (suc zero) valid_bits some few = ap (λ n. take 1 (to_le_bytes w32 n)) (shifted_zero (8 - valid_bits) 128 (lit≤ tt))
zero_bytes (suc (suc zero)) valid_bits some few = ap (λ n. take 2 (to_le_bytes w32 n)) (shifted_zero (16 - valid_bits) 0 (lit≤ tt))
zero_bytes (suc (suc (suc zero))) valid_bits some few = ap (λ n. take 3 (to_le_bytes w32 n)) (shifted_zero (24 - valid_bits) 0 (lit≤ tt))
zero_bytes (suc (suc (suc (suc zero)))) valid_bits some few = ap (λ n. take 4 (to_le_bytes w32 n)) (shifted_zero (32 - valid_bits) 0 (lit≤ tt))
zero_bytes (suc (suc (suc (suc (suc n))))) valid_bits some few = absurd (omega (arith, few))

pub packed-zeros : (valid_bits n : ℕ) → 1 ≤ valid_bits → valid_bits ≤ 32 → packed_samples valid_bits (replicate n (pos 0)) ≡ replicate (n * sample_size valid_bits) (silence (sample_size valid_bits))
packed-zeros valid_bits n some few =
    let size = sample_size valid_bits in
    let low : 1 ≤ size = omega (arith, some) in
    let high : size ≤ 4 = omega (arith, few) in
    flat_map-zeros (bytes_of_sample size valid_bits) size (silence size) (zero_bytes size valid_bits low high) n

pub zeros_fit : (valid_bits n : ℕ) → All (FitsIn valid_bits) (replicate n (pos 0))
zeros_fit valid_bits n = All-replicate (FitsIn valid_bits) n (pos 0) (pow_pos (valid_bits - 1))
