-- The padding of a message.
use Rattle.std.proofs.Common.{◌≡◌, ℕ, ◌+◌, ◌*◌, ◌%◌, ◌^◌, ◌<◌, ◌≤◌, List, ◌∷◌, ◌++◌, length, take}
use Rattle.std.proofs.Common.{replicate, refl, ap, ap₂, ◌∙◌, arith, append_assoc, add-one}
use Rattle.std.proofs.lemmas.List.{take-replicate, length-append, length-replicate}
use Rattle.std.specs.Int.{w64, to_le_bytes}
use Rattle.claxon_md5.specs.Md5.{zero_count, length_bytes, padding, padded}

-- ---- laws of the definition

-- The zeros are fewer than 64, and the only number of these that leaves 8 bytes of the last block.
zero_count_lt : (n : ℕ) → zero_count n < 64
zero_count_lt n = omega arith

zero_count_fills : (n : ℕ) → (n + 1 + zero_count n) % 64 ≡ 56
zero_count_fills n = omega arith

-- the padding before the length
abbrev pub one_and_zeros : ℕ → List ℕ
one_and_zeros zeros = 0x80 ∷ replicate zeros 0

-- a padded message is whole blocks
padded_is_whole : (message : List ℕ) → length (padded message) % 64 ≡ 0
padded_is_whole message =
    let n = length message in
    let zeros : List ℕ = replicate (zero_count n) 0 in
    let few : length zeros ≡ zero_count n = length-replicate (zero_count n) 0 in
    let last : length (length_bytes n) ≡ 8 = refl in
    let parts = length-append (one_and_zeros (zero_count n)) (length_bytes n) in
    let all = length-append message (padding n) in
    omega (arith, zero_count_fills n, few, last, parts, all)

-- ---- what is given to the hasher after a message

-- the padding before the length is a prefix of that with the most zeros
front : (zeros : ℕ) → zeros ≤ 63 → take (zeros + 1) (one_and_zeros 63) ≡ one_and_zeros zeros
front zeros h = rw (add-one) (ap (λ ys. 0x80 ∷ ys) (take-replicate zeros 63 0 h))

-- it is the padding, where the length is known modulo 2 ^ 64
pub appended : (message bytes last : List ℕ) (count zeros : ℕ)
    → count ≡ length message % 2 ^ 64
    → zeros ≡ zero_count count
    → bytes ≡ take (zeros + 1) (one_and_zeros 63)
    → last ≡ length_bytes count
    → (message ++ bytes) ++ last ≡ padded message
appended message bytes last count zeros total e front_is last_is =
    let n = length message in
    let same : zeros ≡ zero_count n = omega arith in
    let bits : count * 8 % 2 ^ 64 ≡ n * 8 % 2 ^ 64 = omega arith in
    let small : zeros ≤ 63 = omega arith in
    let bytes_are = front_is ∙ front zeros small ∙ ap one_and_zeros same in
    append_assoc message bytes last
    ∙ ap (λ ys. message ++ ys) (ap₂ (λ x y. x ++ y) bytes_are (last_is ∙ ap (to_le_bytes w64) bits))
