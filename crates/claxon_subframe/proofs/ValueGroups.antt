-- Values decoded from 64 bits that are rotated past each value.
use Rattle.std.proofs.Common.{◌≡◌, ℕ, ◌+◌, ◌-◌, ◌*◌, ◌<◌, ◌≤◌, List, ◌++◌, length, Bool, take, drop, set, refl, sym, ap, ap₂, subst, ◌∙◌, append_assoc, arith, ℤ}
use Rattle.std.proofs.lemmas.List.{drop-append-le, drop-drop, take_more_set, take_all}
use Rattle.claxon_format.specs.Bits.{Bits, bits}
use Rattle.claxon_format.specs.read.Reading.{Reading, Done, times_at, each_at}
use Rattle.claxon_format.proofs.Numbers.{length-bits}
use Rattle.claxon_input.specs.BufferedBits.{bits_in_buffer, GivesBuffered, PeeksBits}
use Rattle.claxon_input.specs.declared.bits.buffered.BufferedBits.{BufferedBits}
use Rattle.claxon_input.proofs.FieldLoops.{times_push}
use Rattle.claxon_subframe.specs.BufferedValues.{IsFirstValue}

-- `count` values of the 64 bits w were decoded to the front of xs, from `used` bits. If these are at most 56, `peeked` begins with the other bits of w.
-- `peeked` isn't 0.
pub record GroupSoFar (read : Bits → Reading Bool ℤ) (w : ℕ) (xs : List ℤ) (count used peeked : ℕ) : Type 0 where
  pub few : used ≤ 95 * count
  pub some : 0 < peeked
  pub so_far : used ≤ 56 → (rest : Bits) → times_at count read (bits 64 w ++ rest) ≡ Done (take count xs) (drop used (bits 64 w) ++ rest)
  pub others : used ≤ 56 → take (64 - used) (bits 64 peeked) ≡ drop used (bits 64 w)

pub group_begins : (read : Bits → Reading Bool ℤ) (w : ℕ) (xs : List ℤ) → 0 < w → GroupSoFar read w xs 0 0 w
unfolding times_at each_at
group_begins read w xs some = record { few = omega arith; some = some; so_far = λ _ rest. refl; others = λ _. take_all 64 (bits 64 w) (omega (arith, length-bits 64 w)) }

pub group_next : (read : Bits → Reading Bool ℤ) (w : ℕ) (xs : List ℤ) (count used peeked : ℕ) (x : ℤ) (n_bits rotated : ℕ) → count < length xs → GroupSoFar read w xs count used peeked → n_bits ≤ 95 → 0 < rotated → IsFirstValue read peeked x n_bits rotated
    → GroupSoFar read w (set xs count x) (count + 1) (used + n_bits) rotated
group_next read w xs count used peeked x n_bits rotated lt h le some is = record {
  few = (let f = h.few in omega arith);
  some = some;
  so_far = λ fits rest.
      let T = h.others (omega arith) in
      let e : read (drop used (bits 64 w) ++ rest) ≡ Done x (drop (used + n_bits) (bits 64 w) ++ rest)
      = subst (λ (t : Bits). read (t ++ rest) ≡ Done x (drop n_bits t ++ rest)) T (is.code (64 - used) rest (omega arith) (omega arith) (omega arith)) ∙ ap (λ (t : Bits). Done x (t ++ rest)) (drop-drop n_bits used (bits 64 w)) in
      times_push read count (bits 64 w ++ rest) (drop used (bits 64 w) ++ rest) (drop (used + n_bits) (bits 64 w) ++ rest) (take count xs) x (h.so_far (omega arith) rest) e
      ∙ ap (λ (t : List ℤ). Done t (drop (used + n_bits) (bits 64 w) ++ rest)) (sym (take_more_set xs count x lt));
  others = λ fits.
      let n : 64 - (used + n_bits) ≡ 64 - used - n_bits = omega arith in
      ap (λ (j : ℕ). take j (bits 64 rotated)) n ∙ is.others (64 - used) (omega arith) (omega arith) (omega arith) ∙ ap (drop n_bits) (h.others (omega arith)) ∙ drop-drop n_bits used (bits 64 w);
}

pub group_read : (read : Bits → Reading Bool ℤ) (w : ℕ) (xs : List ℤ) (count used peeked : ℕ) {n : ℕ} (a b c : BufferedBits) → count ≡ length xs → used ≤ 56 → n ≡ used → GroupSoFar read w xs count used peeked → bits_in_buffer b ≡ bits_in_buffer a → PeeksBits w b → bits_in_buffer c ≡ drop n (bits_in_buffer b)
    → GivesBuffered a c (times_at (length xs) read) xs
group_read read w xs count used peeked a b c e fits whole h same shows consumed rest =
    let m : Bits = shows.after in
    let old : bits_in_buffer a ++ rest ≡ bits 64 w ++ (m ++ rest) = ap (λ (t : Bits). t ++ rest) (sym same ∙ shows.next) ∙ append_assoc (bits 64 w) m rest in
    let new : bits_in_buffer c ++ rest ≡ drop used (bits 64 w) ++ (m ++ rest)
    = ap (λ (t : Bits). t ++ rest) (consumed ∙ ap (λ (j : ℕ). drop j (bits_in_buffer b)) whole ∙ ap (drop used) shows.next ∙ drop-append-le used (bits 64 w) m (omega (arith, length-bits 64 w))) ∙ append_assoc (drop used (bits 64 w)) m rest in
    ap₂ (λ (n : ℕ) (s : Bits). times_at n read s) (sym e) old ∙ h.so_far fits (m ++ rest) ∙ ap₂ (λ (t : List ℤ) (s : Bits). Done t s) (take_all count xs (omega arith)) (sym new)
