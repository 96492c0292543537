-- The whole blocks of bytes that come in pieces, and the bytes after them.
use Rattle.std.proofs.Common.{◌≡◌, ℕ, zero, suc, ◌+◌, ◌*◌, ◌/◌, ◌%◌, ◌<◌, List, [], ◌∷◌, ◌++◌}
use Rattle.std.proofs.Common.{length, take, drop, fold, refl, sym, ap, ap₂, ◌∙◌, arith}
use Rattle.std.proofs.lemmas.List.{append_assoc, take_at, drop_at, take-append-drop, drop-drop}
use Rattle.std.proofs.lemmas.List.{length-append, length-take-le, length-drop}
use Rattle.std.proofs.lemmas.Grind.{fold-append}
use Rattle.std.specs.Simd.{first_chunks}
use Rattle.claxon_md5.specs.Md5.{initial_words, process, blocks, bytes_left, words_after}

-- fewer than 64 bytes
pub blocks_of_few : (xs : List ℕ) → length xs < 64 → blocks xs ≡ []
blocks_of_few xs h =
    let none : length xs / 64 ≡ 0 = omega arith in
    ap (λ n. first_chunks 64 n xs) none

pub bytes_left_of_few : (xs : List ℕ) → length xs < 64 → bytes_left xs ≡ xs
bytes_left_of_few xs h =
    let none : length xs / 64 * 64 ≡ 0 = omega arith in
    ap (λ n. drop n xs) none

-- a block, and more bytes
pub blocks-append_block : (b ys : List ℕ) → length b ≡ 64 → blocks (b ++ ys) ≡ b ∷ blocks ys
blocks-append_block b ys h =
    let count = length ys / 64 in
    let one_more : length (b ++ ys) / 64 ≡ suc count = omega (arith, length-append b ys) in
    ap (λ n. first_chunks 64 n (b ++ ys)) one_more
    ∙ ap₂ (λ x y. x ∷ first_chunks 64 count y) (take_at b ys 64 h) (drop_at b ys 64 h)

pub bytes_left-append_block : (b ys : List ℕ)
    → length b ≡ 64 → bytes_left (b ++ ys) ≡ bytes_left ys
bytes_left-append_block b ys h =
    let n = length ys / 64 * 64 in
    let whole : length (b ++ ys) / 64 * 64 ≡ 64 + n = omega (arith, length-append b ys) in
    ap (λ n. drop n (b ++ ys)) whole ∙ sym (drop-drop n 64 (b ++ ys))
    ∙ ap (drop n) (drop_at b ys 64 h)

pub length-bytes_left : (xs : List ℕ) → length (bytes_left xs) ≡ length xs % 64
length-bytes_left xs = length-drop (length xs / 64 * 64) xs ∙ omega arith

-- The blocks of bytes in two pieces are those of the first, and those of what it leaves with the
-- second.
splits : (n : ℕ) (xs ys : List ℕ) → length xs / 64 ≡ n
    → (blocks (xs ++ ys) ≡ blocks xs ++ blocks (bytes_left xs ++ ys))
    × (bytes_left (xs ++ ys) ≡ bytes_left (bytes_left xs ++ ys))
splits zero xs ys e =
    let few : length xs < 64 = omega arith in
    let left = sym (bytes_left_of_few xs few) in
    let none = sym (blocks_of_few xs few) in (
      ap (λ zs. blocks (zs ++ ys)) left ∙ ap (λ bs. bs ++ blocks (bytes_left xs ++ ys)) none,
      ap (λ zs. bytes_left (zs ++ ys)) left,
    )
splits (suc n) xs ys e =
    let b = take 64 xs in
    let rest = drop 64 xs in
    let size : length b ≡ 64 = length-take-le 64 xs (omega arith) in
    let next : length rest / 64 ≡ n = omega (arith, length-drop 64 xs) in
    let whole : xs ≡ b ++ rest = sym (take-append-drop 64 xs) in
    let more = splits n rest ys next in
    let all : xs ++ ys ≡ b ++ (rest ++ ys) =
    ap (λ zs. zs ++ ys) whole ∙ append_assoc b rest ys in
    let front : blocks xs ≡ b ∷ blocks rest = ap blocks whole ∙ blocks-append_block b rest size in
    let left : bytes_left xs ≡ bytes_left rest =
    ap bytes_left whole ∙ bytes_left-append_block b rest size in (
      ap blocks all ∙ blocks-append_block b (rest ++ ys) size ∙ ap (λ bs. b ∷ bs) more.0
          ∙ ap₂ (λ bs zs. bs ++ blocks (zs ++ ys)) (sym front) (sym left),
      ap bytes_left all ∙ bytes_left-append_block b (rest ++ ys) size ∙ more.1
          ∙ ap (λ zs. bytes_left (zs ++ ys)) (sym left),
    )

pub bytes_left-append : (xs ys : List ℕ) → bytes_left (xs ++ ys) ≡ bytes_left (bytes_left xs ++ ys)
bytes_left-append xs ys = (splits (length xs / 64) xs ys refl).1

pub words_after-append : (xs ys : List ℕ)
    → words_after (xs ++ ys) ≡ fold process (words_after xs) (blocks (bytes_left xs ++ ys))
unfolding words_after
words_after-append xs ys =
    ap (fold process initial_words) (splits (length xs / 64) xs ys refl).0
    ∙ fold-append process initial_words (blocks xs) (blocks (bytes_left xs ++ ys))
