-- A hasher that is given more bytes.
use Rattle.std.proofs.Common.{◌≡◌, ℕ, ◌+◌, ◌%◌, ◌^◌, ◌<◌, ◌≤◌, List, [], ◌++◌, length, take, drop}
use Rattle.std.proofs.Common.{fold, refl, sym, ap, ap₂, ◌∙◌, arith, append_assoc}
use Rattle.std.proofs.lemmas.List.{append-nil, length-append, length-drop, length-take-le}
use Rattle.std.proofs.lemmas.List.{take_at, drop_all}
use Rattle.std.proofs.lemmas.Slice.{take-put_mid}
use borrow.Rule.Slice.PartMut.{put_mid, post_of}
use Rattle.claxon_md5.specs.Md5.{process, blocks, bytes_left}
use Rattle.claxon_md5.specs.HasHashed.{HasHashed}
use Rattle.claxon_md5.specs.declared.Md5.{Md5}
use Rattle.claxon_md5.proofs.Blocks.{blocks_of_few, bytes_left_of_few, length-bytes_left}
use Rattle.claxon_md5.proofs.Blocks.{blocks-append_block, bytes_left-append_block}
use Rattle.claxon_md5.proofs.Blocks.{bytes_left-append, words_after-append}

-- the bytes after the whole blocks, as the hasher has them
abbrev pub kept : Md5 → List ℕ
kept m = take (m.length % 64) m.buffer

kept-length : (m : Md5) → length m.buffer ≡ 64 → length (kept m) ≡ m.length % 64
kept-length m size = length-take-le (m.length % 64) m.buffer (omega arith)

-- the length of m after more bytes
abbrev pub counted : Md5 → List ℕ → ℕ
counted m bytes = (m.length + length bytes) % 2 ^ 64

-- what the hasher is after more bytes
pub record Continues (old : Md5) (bytes : List ℕ) (new : Md5) : Type 0 where
  pub words : new.state ≡ fold process old.state (blocks (kept old ++ bytes))
  pub left : kept new ≡ bytes_left (kept old ++ bytes)
  pub count : new.length ≡ counted old bytes

pub continued : (old new : Md5) (bytes : List ℕ) → Continues old bytes new
    → (xs : List ℕ) → HasHashed old xs → HasHashed new (xs ++ bytes)
continued old new bytes c xs h =
    let before : old.length % 64 ≡ length xs % 64 = omega (arith, h.count) in
    let had : kept old ≡ bytes_left xs = ap (λ n. take n old.buffer) before ∙ h.left in
    let total : new.length ≡ length (xs ++ bytes) % 2 ^ 64 =
    omega (arith, h.count, c.count, length-append xs bytes) in
    let after : length (xs ++ bytes) % 64 ≡ new.length % 64 = omega (arith, total) in
    record {
      words = c.words ∙ ap₂ (λ w zs. fold process w (blocks (zs ++ bytes))) h.words had
          ∙ sym (words_after-append xs bytes);
      left = ap (λ n. take n new.buffer) after ∙ c.left
          ∙ ap (λ zs. bytes_left (zs ++ bytes)) had ∙ sym (bytes_left-append xs bytes);
      count = total;
    }

-- ---- the steps of `update`

-- bytes that don't fill the buffer
pub few_kept : (old new : Md5) (bytes put : List ℕ) (k j : ℕ)
    → length old.buffer ≡ 64
    → k ≡ old.length % 64
    → k + length bytes < 64
    → put ≡ bytes
    → new.buffer ≡ put_mid k j old.buffer put
    → new.state ≡ old.state
    → new.length ≡ counted old bytes
    → Continues old bytes new
few_kept old new bytes put k j size at few same buffer state count =
    let all = kept old ++ bytes in
    let short : length all < 64 =
    omega (arith, length-append (kept old) bytes, kept-length old size) in
    let place : new.length % 64 ≡ k + length bytes = omega arith in
    record {
      words = state ∙ ap (fold process old.state) (sym (blocks_of_few all short));
      left = ap₂ take place (buffer ∙ ap (put_mid k j old.buffer) same)
          ∙ take-put_mid k j old.buffer bytes (k + length bytes) refl (omega arith)
          ∙ ap (λ n. take n old.buffer ++ bytes) at ∙ sym (bytes_left_of_few all short);
      count = count;
    }

-- The buffer is empty, and these bytes remain: they have to give what all bytes give after those
-- that the old hasher kept.
pub record IsEmptied (old : Md5) (bytes : List ℕ) (emptied : Md5) (rest : List ℕ) : Type 0 where
  pub words : fold process emptied.state (blocks rest)
      ≡ fold process old.state (blocks (kept old ++ bytes))
  pub left : bytes_left rest ≡ bytes_left (kept old ++ bytes)
  pub count : emptied.length ≡ counted old bytes

-- it was empty
pub was_empty : (old emptied : Md5) (bytes rest : List ℕ)
    → old.length % 64 ≤ 0
    → rest ≡ bytes
    → emptied.state ≡ old.state
    → emptied.length ≡ counted old bytes
    → IsEmptied old bytes emptied rest
was_empty old emptied bytes rest none same state count =
    let zero_kept : old.length % 64 ≡ 0 = omega arith in
    let nothing : kept old ≡ [] = ap (λ n. take n old.buffer) zero_kept in
    let all : rest ≡ kept old ++ bytes = same ∙ ap (λ xs. xs ++ bytes) (sym nothing) in
    record {
      words = ap₂ (λ w xs. fold process w (blocks xs)) state all;
      left = ap bytes_left all;
      count = count;
    }

-- it was filled with the first bytes, and processed
pub filled : (old emptied : Md5) (bytes first rest put : List ℕ) (k j : ℕ)
    → length old.buffer ≡ 64
    → k ≡ old.length % 64
    → k + length first ≡ 64
    → j ≡ length first
    → bytes ≡ first ++ rest
    → put ≡ first
    → emptied.state ≡ process old.state (put_mid k j old.buffer put)
    → emptied.length ≡ counted old bytes
    → IsEmptied old bytes emptied rest
filled old emptied bytes first rest put k j size at full width cut same state count =
    let b = kept old ++ first in
    let b_size : length b ≡ 64 =
    omega (arith, length-append (kept old) first, kept-length old size) in
    let none : post_of k j old.buffer ≡ [] =
    drop_all j (drop k old.buffer) (omega (arith, length-drop k old.buffer)) in
    let ends = ap₂ (λ ys zs. ys ++ zs) same none ∙ append-nil first in
    let block : put_mid k j old.buffer put ≡ b =
    ap₂ (λ n ys. take n old.buffer ++ ys) at ends in
    let all : kept old ++ bytes ≡ b ++ rest =
    ap (λ ys. kept old ++ ys) cut ∙ sym (append_assoc (kept old) first rest) in
    record {
      words = ap (λ w. fold process w (blocks rest)) (state ∙ ap (process old.state) block)
          ∙ ap (fold process old.state) (sym (ap blocks all ∙ blocks-append_block b rest b_size));
      left = sym (ap bytes_left all ∙ bytes_left-append_block b rest b_size);
      count = count;
    }

-- whole blocks are processed, and the bytes after them are kept
pub rest_kept : (old emptied new : Md5) (bytes rest put more : List ℕ)
    → length old.buffer ≡ 64
    → IsEmptied old bytes emptied rest
    → put ≡ bytes_left rest
    → new.state ≡ fold process emptied.state (blocks rest)
    → new.length ≡ emptied.length
    → new.buffer ≡ put ++ more
    → Continues old bytes new
rest_kept old emptied new bytes rest put more size e same state count buffer =
    let all = kept old ++ bytes in
    let width : length put ≡ length all % 64 = ap length (same ∙ e.left) ∙ length-bytes_left all in
    let kept_width = kept-length old size in
    let place : length put ≡ new.length % 64 =
    omega (arith, width, e.count, length-append (kept old) bytes, kept_width) in
    record {
      words = state ∙ e.words;
      left = ap (take (new.length % 64)) buffer ∙ take_at put more (new.length % 64) place
          ∙ same ∙ e.left;
      count = count ∙ e.count;
    }
