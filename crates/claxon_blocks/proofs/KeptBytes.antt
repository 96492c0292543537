-- The first 16 bytes that a reader keeps, and the bytes that it gave.
use Rattle.std.proofs.Common.{◌≡◌, ℕ, ◌+◌, ◌-◌, ◌*◌, ◌%◌, ◌^◌, ◌<◌, ◌≤◌, Bool, true, false, cond, ltb, List, [], ◌∷◌, ◌++◌, length, take, drop, set, replicate, refl, sym, ap, ap₂, ◌∙◌, arith, append_assoc, append-nil, length-append}
use Rattle.std.specs.Prelude.{Option, None, Some}
use Rattle.std.proofs.lemmas.Bool.{ltb-false, ltb-true, le-ltb, lt-ltb}
use Rattle.std.proofs.lemmas.List.{length-take, take-append-drop, take-append-le, take_all, take_at, take_more_set}
use Rattle.std.proofs.Math.Seq.{take-append-add}
use Rattle.claxon.specs.Bits.{bits, bits_of, number}
use Rattle.claxon.specs.RunningReader.{running_inner, running_source, running_value}
use Rattle.claxon.specs.RunningReaders.{RunningReader}
use Rattle.claxon.specs.Source.{IsKnown, Source}
use Rattle.claxon.specs.State.{State, RemainingIsKnown, bytes_in, values_at_eof, final_values, remaining_as}
use Rattle.claxon.proofs.Bytes.{bits_of-append, byte_split, length-bits_of}
use Rattle.claxon.proofs.Numbers.{bits-number}
use Rattle.claxon_blocks.specs.FirstBytes.{AreFirst, count_of, kept_of, kept_with, number_of_bytes, update_first}
use Rattle.claxon_blocks.specs.declared.frames.first_bytes.FirstBytes.{FirstBytes}

-- ---- more bytes

abbrev first_bytes : ℕ → List ℕ → ℕ → FirstBytes
first_bytes seen bytes others = record { seen = seen; bytes = bytes; others = others }

-- once all are kept, more bytes change nothing
full : (seen others : ℕ) (bytes more : List ℕ) → length bytes ≡ 16 → 16 ≤ seen → kept_with (first_bytes seen bytes others) more ≡ bytes
full seen others bytes more len h = ap (λ (xs : List ℕ). take 16 (xs ++ more)) (take_all seen bytes (omega (arith, len, h))) ∙ take_at bytes more 16 len

pub others_more : (seen others k : ℕ) (bytes ys more : List ℕ) → length bytes ≡ 16 → 16 ≤ seen → k ≡ (others + length ys) % 2 ^ 64 → update_first (first_bytes seen bytes k) more ≡ update_first (first_bytes seen bytes others) (ys ++ more)
others_more seen others k bytes ys more len h e =
    let count : (16 + k + length more) % 2 ^ 64 ≡ (16 + others + length (ys ++ more)) % 2 ^ 64 = omega (arith, length-append ys more, e) in
    rw (full seen k bytes more len h, full seen others bytes (ys ++ more) len h, le-ltb seen 16 h, count) refl

count_next : (seen : ℕ) → seen < 16 → cond (ltb (seen + 1) 16) (seen + 1) (16 + 0) ≡ seen + 1
count_next seen h = go (ltb (seen + 1) 16) refl
  where
    go : (b : Bool) → ltb (seen + 1) 16 ≡ b → cond b (seen + 1) (16 + 0) ≡ seen + 1
    go true e = refl
    go false e = let k = ltb-false (seen + 1) 16 e in omega arith

pub next_seen : (seen others y k at : ℕ) (bytes more : List ℕ) → length bytes ≡ 16 → seen < 16 → k ≡ seen + 1 → at ≡ seen → update_first (first_bytes k (set bytes at y) 0) more ≡ update_first (first_bytes seen bytes others) (y ∷ more)
next_seen seen others y k at bytes more len h e place =
    let kept : take (seen + 1) (set bytes seen y) ++ more ≡ take seen bytes ++ (y ∷ more) = ap (λ (xs : List ℕ). xs ++ more) (take_more_set bytes seen y (omega (arith, len, h))) ∙ append_assoc (take seen bytes) (y ∷ []) more in
    let count : (seen + 1 + length more) % 2 ^ 64 ≡ (seen + length (y ∷ more)) % 2 ^ 64 = omega arith in
    rw (e, place, kept, lt-ltb seen 16 h, count_next seen h, count) refl

-- ---- what the number says

-- The state y, after which a list is left, has kept the first 16 bytes of the list before.
pub record Keeps (y : FirstBytes) (after before : List ℕ) : Type 0 where
  pub same_length : length (kept_with y after) ≡ length (take 16 before)
  pub same_bits : bits_of (kept_with y after) ≡ bits_of (take 16 before)
  pub same_count : (count_of y + length after) % 2 ^ 64 ≡ length before % 2 ^ 64

parts : (p q m n : ℕ) → p * 2 ^ 64 + m % 2 ^ 64 ≡ q * 2 ^ 64 + n % 2 ^ 64 → (p ≡ q) × (m % 2 ^ 64 ≡ n % 2 ^ 64)
parts p q m n e = (omega arith, omega arith)

same_bytes : (xs ys : List ℕ) → length xs ≤ 16 → length ys ≤ 16 → number_of_bytes xs ≡ number_of_bytes ys → (length xs ≡ length ys) × (bits_of xs ≡ bits_of ys)
same_bytes xs ys few most e =
    let len : length xs ≡ length ys = omega (arith, few, most, e) in
    let same : number (bits_of xs) ≡ number (bits_of ys) = omega (arith, few, most, e) in
    let long : length (bits_of xs) ≡ length (bits_of ys) = length-bits_of xs ∙ ap (λ (n : ℕ). 8 * n) len ∙ sym (length-bits_of ys) in
    (len, sym (bits-number (bits_of xs)) ∙ ap₂ bits long same ∙ bits-number (bits_of ys))

at_most_16 : (xs : List ℕ) → length (take 16 xs) ≤ 16
at_most_16 xs = omega (arith, length-take 16 xs)

keeps : (y : FirstBytes) (after before : List ℕ) → update_first y after ≡ update_first (first_bytes 0 (replicate 16 0) 0) before → Keeps y after before
keeps y after before e =
    let p = parts (number_of_bytes (kept_with y after)) (number_of_bytes (take 16 before)) (count_of y + length after) (0 + length before) e in
    let s = same_bytes (kept_with y after) (take 16 before) (at_most_16 _) (at_most_16 before) p.0 in
    record { same_length = s.0; same_bits = s.1; same_count = p.1 ∙ ap (λ (n : ℕ). n % 2 ^ 64) (omega arith) }

-- ---- the bytes that were consumed

take_within : (l n : ℕ) (xs : List ℕ) → l ≤ length (take n xs) → take l (take n xs) ≡ take l xs
take_within l n xs h = sym (take-append-le l (take n xs) (drop n xs) h) ∙ ap (take l) (take-append-drop n xs)

-- Of up to 16 bytes at the front of what was consumed, the bits are those of the kept bytes.
module _ (y : FirstBytes) (after before t u m : List ℕ) (len : length y.bytes ≡ 16) (h : Keeps y after before) (all : before ≡ t ++ after) (short : length t < 2 ^ 64) (front : t ≡ u ++ m) (few : length u ≤ 16) where
  -- they were seen
  pub were_seen : length u ≤ y.seen
  were_seen = go (ltb y.seen 16) refl h.same_count
    where
      a : length before ≡ length t + length after
      a = ap length all ∙ length-append t after

      b : length t ≡ length u + length m
      b = ap length front ∙ length-append u m

      go : (few_seen : Bool) → ltb y.seen 16 ≡ few_seen → (cond few_seen y.seen (16 + y.others) + length after) % 2 ^ 64 ≡ length before % 2 ^ 64 → length u ≤ y.seen
      go true f e = let k = ltb-true _ _ f in omega (arith, a, b, k, e, short)
      go false f e = let k = ltb-false _ _ f in omega (arith, k, few)

  kept_front : take (length u) (kept_with y after) ≡ take (length u) y.bytes
  kept_front =
      let seen = were_seen in
      let k : length (kept_of y) ≡ _ = length-take y.seen y.bytes in
      let within : length u ≤ length (kept_of y) = omega (arith, seen, k, len, few) in
      let i = length-append (kept_of y) after in
      let j = length-take 16 (kept_of y ++ after) in
      take_within (length u) 16 (kept_of y ++ after) (omega (arith, within, i, j, few)) ∙ take-append-le (length u) (kept_of y) after within ∙ take_within (length u) y.seen y.bytes within

  pub are_kept : bits_of (take (length u) y.bytes) ≡ bits_of u
  are_kept =
      let n : ℕ = 16 - length u in
      let sixteen : length u + n ≡ 16 = omega (arith, few) in
      let s : before ≡ u ++ (m ++ after) = all ∙ ap (λ (xs : List ℕ). xs ++ after) front ∙ append_assoc u m after in
      let w : take 16 before ≡ u ++ take n (m ++ after) = ap (take 16) s ∙ ap (λ (k : ℕ). take k (u ++ (m ++ after))) (sym sixteen) ∙ take-append-add u (m ++ after) n in
      let e : bits_of (kept_with y after) ≡ bits_of u ++ bits_of (take n (m ++ after)) = h.same_bits ∙ ap bits_of w ∙ bits_of-append u (take n (m ++ after)) in
      ap bits_of (sym kept_front) ∙ (byte_split (kept_with y after) (bits_of u) (bits_of (take n (m ++ after))) (length u) e (length-bits_of u)).front

-- The kept bytes are the first of those before.
module _ (y : FirstBytes) (after before : List ℕ) (len : length y.bytes ≡ 16) (h : Keeps y after before) where
  kept_length : (length (kept_of y) ≤ 16) × (length (kept_of y) ≤ y.seen)
  kept_length = let k : length (kept_of y) ≡ _ = length-take y.seen y.bytes in (omega (arith, k, len), omega (arith, k, len))

  pub are_first : AreFirst y before after
  are_first =
      let l : ℕ = length (kept_of y) in
      let few = kept_length.0 in
      let n : ℕ = 16 - l in
      let sixteen : l + n ≡ 16 = omega (arith, few) in
      let w : kept_with y after ≡ kept_of y ++ take n after = ap (λ (k : ℕ). take k (kept_of y ++ after)) (sym sixteen) ∙ take-append-add (kept_of y) after n in
      let e : bits_of (take 16 before) ≡ bits_of (kept_of y) ++ bits_of (take n after) = sym h.same_bits ∙ ap bits_of w ∙ bits_of-append (kept_of y) (take n after) in
      let split = byte_split (take 16 before) (bits_of (kept_of y)) (bits_of (take n after)) l e (length-bits_of (kept_of y)) in
      record {
        begin = (take l before, drop l before, ap bits_of (sym (take_within l 16 before split.within)) ∙ split.front, sym (take-append-drop l before));
        enough = λ t all short. enough t all short;
      }
    where
      enough : (t : List ℕ) → before ≡ t ++ after → length t < 2 ^ 64 → length (take 16 t) ≤ length (kept_of y)
      enough t all short =
          let few = at_most_16 t in
          let seen = were_seen y after before t (take 16 t) (drop 16 t) len h all short (sym (take-append-drop 16 t)) few in
          let k : length (kept_of y) ≡ _ = length-take y.seen y.bytes in
          omega (arith, few, seen, k, len)

-- Where four bytes were seen, the first four are kept.
pub four_are_first : (y : FirstBytes) (after before : List ℕ) → length y.bytes ≡ 16 → Keeps y after before → 4 ≤ y.seen → (length (take 4 before) ≡ 4) × (bits_of (take 4 y.bytes) ≡ bits_of (take 4 before))
four_are_first y after before len h some =
    let k : length (kept_of y) ≡ _ = length-take y.seen y.bytes in
    let i = length-append (kept_of y) after in
    let j = length-take 16 (kept_of y ++ after) in
    let o = length-take 16 before in
    let same = h.same_length in
    let kept : 4 ≤ length (kept_of y) = omega (arith, some, k, len) in
    let within : 4 ≤ length (kept_with y after) = omega (arith, kept, i, j) in
    let front : take 4 (kept_with y after) ≡ take 4 y.bytes = take_within 4 16 (kept_of y ++ after) within ∙ take-append-le 4 (kept_of y) after kept ∙ take_within 4 y.seen y.bytes kept in
    let first : take 4 (take 16 before) ≡ take 4 before = take_within 4 16 before (omega (arith, within, same)) in
    let four : length (take 4 before) ≡ 4 = omega (arith, length-take 4 before, o, within, same) in
    let rest : List ℕ = drop 4 (take 16 before) in
    let e : bits_of (kept_with y after) ≡ bits_of (take 4 before) ++ bits_of rest = h.same_bits ∙ ap bits_of (sym (take-append-drop 4 (take 16 before)) ∙ ap (λ (xs : List ℕ). xs ++ rest) first) ∙ bits_of-append (take 4 before) rest in
    let bits_are : length (bits_of (take 4 before)) ≡ 8 * 4 = length-bits_of (take 4 before) ∙ ap (λ (n : ℕ). 8 * n) four in
    (four, ap bits_of (sym front) ∙ (byte_split (kept_with y after) (bits_of (take 4 before)) (bits_of rest) 4 e bits_are).front)

-- ---- after a call

head_of : (p q : Option (List ℕ)) (f g : List ℕ → ℕ) (u v : List ℕ → List ℕ) → IsKnown p → IsKnown q → values_at_eof q (λ xs. g xs ∷ v xs) ≡ values_at_eof p (λ xs. f xs ∷ u xs) → g (remaining_as (λ all. all) q) ≡ f (remaining_as (λ all. all) p)
head_of None q f g u v k l e = absurd k
head_of (Some all) None f g u v k l e = absurd l
head_of (Some all) (Some rest) f g u v k l e =
    let o : g (rest ++ []) ∷ v (rest ++ []) ≡ f (all ++ []) ∷ u (all ++ []) = ap (λ (h : List ℕ → List ℕ). h []) e in
    let i : g (rest ++ []) ≡ f (all ++ []) = cc in
    rw (append-nil, append-nil) at i

module _ {R : Type 0} (source : R → Source ℕ) (x y : RunningReader R FirstBytes) where
  abbrev pub before : State ℕ
  before = bytes_in (running_source source update_first) x

  abbrev pub after : State ℕ
  after = bytes_in (running_source source update_first) y

  updated : RemainingIsKnown before → RemainingIsKnown after → final_values after ≡ final_values before → update_first (running_value y) after.remaining ≡ update_first (running_value x) before.remaining
  unfolding bytes_in
  updated k l values =
      let a = source (running_inner x) in
      let b = source (running_inner y) in
      head_of a.remaining b.remaining (update_first (running_value x)) (update_first (running_value y)) a.values b.values k l values

  -- where the CRCs were updated, the first 16 bytes are kept
  pub keeps_first : running_value x ≡ record { seen = 0; bytes = replicate 16 0; others = 0 } → RemainingIsKnown before → RemainingIsKnown after → final_values after ≡ final_values before → Keeps (running_value y) after.remaining before.remaining
  keeps_first start k l values = keeps (running_value y) after.remaining before.remaining (updated k l values ∙ ap (λ (s : FirstBytes). update_first s before.remaining) start)
