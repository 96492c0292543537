-- Samples of one channel after another, and the same samples interleaved.
use Rattle.std.proofs.Common.{◌≡◌, ℕ, ℤ, pos, zero, suc, ◌+◌, ◌*◌, ◌/◌, ◌%◌, ◌<◌, ◌≤◌, List, [], ◌∷◌, ◌++◌, length, get_or, map, refl, sym, ap, ap₂, ◌∙◌, arith, mul_comm}
use Rattle.std.specs.List.{flat_map, range_with_len}
use Rattle.std.proofs.lemmas.List.{get_or_append_left, get_or-append-add}
use Rattle.std.proofs.lemmas.Nat.{div-mul-add, mod-mul-add}
use Rattle.claxon.specs.Block.{AreOfLength, joined}
use Rattle.claxon.specs.Streams.{duration_of, interleave, samples_at}
use Rattle.claxon_c.proofs.PlanarSamples.{length-joined}
use Rattle.claxon_md5.proofs.Planar.{map_along, map_on}
use Rattle.claxon_md5.specs.Planar.{interleaved_sample, interleaved_samples}

-- sample i of each channel, by its place
samples_by_place : (d i : ℕ) (channels : List (List ℤ)) → i < d → AreOfLength d channels
    → samples_at channels i
    ≡ map (λ (j : ℕ). get_or (joined channels) (j * d + i) (pos 0)) (range_with_len 0 (length channels))
samples_by_place d i [] lt each = refl
samples_by_place d i (c ∷ cs) lt each =
    let one : length c ≡ d = each 0 [] (omega arith) in
    let others : AreOfLength d cs = λ k e below. each (suc k) e (omega (arith, below)) in
    let here : 0 * d + i ≡ i = omega arith in
    let first : get_or c i (pos 0) ≡ get_or (c ++ joined cs) (0 * d + i) (pos 0) =
    sym (ap (λ (k : ℕ). get_or (c ++ joined cs) k (pos 0)) here ∙ get_or_append_left c (joined cs) (pos 0) i (omega arith)) in
    let rest = map_along (λ (j : ℕ). get_or (joined cs) (j * d + i) (pos 0)) (λ (j : ℕ). get_or (c ++ joined cs) (j * d + i) (pos 0)) 0 1 (length cs) (λ j below.
    let a : (1 + j) * d + i ≡ length c + ((0 + j) * d + i) = grind (arith, one) in
    sym (ap (λ (k : ℕ). get_or (c ++ joined cs) k (pos 0)) a ∙ get_or-append-add c (joined cs) ((0 + j) * d + i) (pos 0))) in
    ap₂ (λ (z : ℤ) (zs : List ℤ). z ∷ zs) first (samples_by_place d i cs lt others ∙ rest)

-- ranges of n one after another
ranges : (channels : List (List ℤ)) (f : ℕ → ℤ) (n m a : ℕ)
    → ((i : ℕ) → i < m → samples_at channels (a + i) ≡ map f (range_with_len ((a + i) * n) n))
    → flat_map (samples_at channels) (range_with_len a m) ≡ map f (range_with_len (a * n) (m * n))
ranges channels f n zero a h = let none : 0 * n ≡ 0 = omega arith in rw none refl
ranges channels f n (suc m) a h =
    let x : a + 0 ≡ a = omega arith in
    let first : samples_at channels a ≡ map f (range_with_len (a * n) n) =
    ap (samples_at channels) (sym x) ∙ h 0 (omega arith) ∙ ap (λ (k : ℕ). map f (range_with_len (k * n) n)) x in
    let rest = ranges channels f n m (a + 1) (λ i lt.
    let p : a + 1 + i ≡ a + suc i = omega arith in
    ap (samples_at channels) p ∙ h (suc i) (omega arith) ∙ ap (λ (k : ℕ). map f (range_with_len (k * n) n)) (sym p)) in
    let next : (a + 1) * n ≡ a * n + n = grind arith in
    let all : suc m * n ≡ n + m * n = grind arith in
    ap₂ (λ (s t : List ℤ). s ++ t) first (rest ∙ ap (λ (k : ℕ). map f (range_with_len k (m * n))) next)
    ∙ sym (map_on f n (a * n) (m * n))
    ∙ ap (λ (k : ℕ). map f (range_with_len (a * n) k)) (sym all)

-- The samples of channels, one channel after another, are the interleaved ones in another order.
pub interleaved_is : (channels : List (List ℤ)) → 1 ≤ length channels → AreOfLength (duration_of channels) channels
    → interleaved_samples (length channels) (joined channels) ≡ interleave channels
interleaved_is channels some each =
    let n = length channels in
    let d = duration_of channels in
    let xs = joined channels in
    let f = interleaved_sample n xs in
    let len : length xs ≡ n * d = length-joined d channels each in
    let whole : length xs / n ≡ d = ap (λ (k : ℕ). k / n) (grind (arith, len, mul_comm n d)) ∙ div-mul-add d n 0 (omega arith) in
    let chunk : (i : ℕ) → i < d → samples_at channels (0 + i) ≡ map f (range_with_len ((0 + i) * n) n) = λ i lt.
    let z : 0 + i ≡ i = omega arith in
    ap (samples_at channels) z ∙ samples_by_place d i channels lt each
    ∙ map_along (λ (j : ℕ). get_or xs (j * d + i) (pos 0)) f 0 (i * n) n (λ j below.
    let q : (i * n + j) % n ≡ 0 + j = mod-mul-add i n j below ∙ omega arith in
    let r : (i * n + j) / n ≡ i = div-mul-add i n j below in
    sym (ap (λ (k : ℕ). get_or xs ((i * n + j) % n * k + (i * n + j) / n) (pos 0)) whole
    ∙ ap₂ (λ (k l : ℕ). get_or xs (k * d + l) (pos 0)) q r))
    ∙ ap (λ (k : ℕ). map f (range_with_len (k * n) n)) (sym z) in
    let none : 0 * n ≡ 0 = omega arith in
    let all : d * n ≡ length xs = omega (arith, len, mul_comm n d) in
    sym (ranges channels f n d 0 chunk
    ∙ ap₂ (λ (k l : ℕ). map f (range_with_len k l)) none all)
