-- The words of a block, and their sums with the constants of a round.
use Rattle.std.proofs.Common.{◌≡◌, ◌≢◌, ℕ, zero, suc, ◌+◌, ◌/◌, ◌<◌, List, length, drop}
use Rattle.std.proofs.Common.{get_or, set, slice_index, below_more, refl, sym, ap, ◌∙◌, arith}
use Rattle.std.proofs.lemmas.List.{get_or-map, get_or-set_same, get_or-set_other}
use Rattle.std.specs.Int.{w32, from_le_bytes}
use Rattle.std.specs.Simd.{first_chunks}
use Rattle.claxon_md5.specs.Md5.{add, words_of_bytes}

length-first_chunks : {X : Type 0} (n k : ℕ) (xs : List X) → length (first_chunks n k xs) ≡ k
length-first_chunks n zero xs = refl
length-first_chunks n (suc k) xs = ap suc (length-first_chunks n k (drop n xs))

-- a word of some bytes, of whose groups of four it is one
pub word_at : (xs : List ℕ) (fours : List (List ℕ)) (i : ℕ) (d : List ℕ)
    → fours ≡ first_chunks 4 (length xs / 4) xs → i < length xs / 4
    → slice_index (words_of_bytes xs) i ≡ from_le_bytes w32 (get_or fours i d)
word_at xs fours i d e h =
    let chunks = first_chunks 4 (length xs / 4) xs in
    let within : i < length chunks = omega (arith, length-first_chunks 4 (length xs / 4) xs) in
    get_or-map (from_le_bytes w32) chunks i d 0 within
    ∙ ap (λ xss. from_le_bytes w32 (get_or xss i d)) (sym e)

-- one more sum
pub sum_put : (words sines sums : List ℕ) (i sum : ℕ) → i < length sums
    → ((k : ℕ) → k < i → slice_index sums k ≡ add (slice_index words k) (slice_index sines k))
    → sum ≡ add (slice_index words i) (slice_index sines i)
    → (k : ℕ) → k < i + 1
    → slice_index (set sums i sum) k ≡ add (slice_index words k) (slice_index sines k)
sum_put words sines sums i sum h before is =
    let now = set sums i sum in
    below_more (λ k. get_or now k 0 ≡ add (slice_index words k) (slice_index sines k)) i
    (λ k l. let ne : k ≢ i = omega arith in get_or-set_other sums i k sum 0 ne ∙ before k l)
    (get_or-set_same sums i sum 0 h ∙ is)
