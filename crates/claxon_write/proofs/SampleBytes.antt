-- The bytes of ranges of interchannel samples.
use Rattle.std.proofs.Common.{◌≡◌, ℕ, ◌+◌, List, [], ◌++◌, refl, sym, ap, ◌∙◌, arith, ℤ}
use Rattle.std.proofs.lemmas.Grind.{flat_map-append}
use Rattle.claxon.specs.Interleave.{interleave_range, sample_bytes}
use Rattle.claxon.proofs.Interleaving.{range_more, range_none}
use Rattle.claxon_write.specs.SampleBytes.{bytes_of_samples}

pub bytes_append : (xs ys : List ℤ) → bytes_of_samples (xs ++ ys) ≡ bytes_of_samples xs ++ bytes_of_samples ys
unfolding bytes_of_samples
bytes_append xs ys = flat_map-append sample_bytes xs ys

-- the bytes of two adjacent ranges
pub bytes_more : (channels : List (List ℤ)) (n m k : ℕ) → k ≡ n + m → bytes_of_samples (interleave_range channels 0 n) ++ bytes_of_samples (interleave_range channels n m) ≡ bytes_of_samples (interleave_range channels 0 k)
bytes_more channels n m k e =
    let z : 0 + n ≡ n = omega arith in
    sym (ap (λ (j : ℕ). bytes_of_samples (interleave_range channels 0 j)) e ∙ ap bytes_of_samples (range_more channels 0 n m) ∙ bytes_append (interleave_range channels 0 n) (interleave_range channels (0 + n) m) ∙ ap (λ (j : ℕ). bytes_of_samples (interleave_range channels 0 n) ++ bytes_of_samples (interleave_range channels j m)) z)

pub bytes_none : (channels : List (List ℤ)) → bytes_of_samples (interleave_range channels 0 0) ≡ []
unfolding bytes_of_samples
bytes_none channels = rw (range_none channels 0) refl
