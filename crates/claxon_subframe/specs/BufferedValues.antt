-- Values decoded from the buffered bits, several from one peek of 64 bits.
use Rattle.std.specs.Prelude.{◌≡◌, Bool, ℕ, ◌-◌, ◌<◌, ◌≤◌, List, ◌++◌, ℤ, length, take, drop}
use Rattle.std.specs.Bool.{MatchBool}
use Rattle.claxon_format.specs.Bits.{Bits, bits}
use Rattle.claxon_format.specs.read.Reading.{Reading, Done, times_at}
use Rattle.claxon_input.specs.BufferedBits.{bits_in_buffer, GivesBuffered}
use Rattle.claxon_input.specs.declared.bits.buffered.BufferedBits.{BufferedBits}

-- The buffer begins with this many values, which were decoded from the buffered bits.
abbrev pub BufferedValuesAreRead : (Bits → Reading Bool ℤ) → BufferedBits → ℕ → BufferedBits
    → List ℤ → Type 0
BufferedValuesAreRead read old values new buffer =
    GivesBuffered old new (times_at values read) (take values buffer)

-- The group holds values that were decoded from the buffered bits. Where the result is false, no
-- bit was consumed.
abbrev pub GroupIsRead : (Bits → Reading Bool ℤ) → BufferedBits → Bool → BufferedBits → List ℤ
    → Type 0
GroupIsRead read old result new group =
    MatchBool result (GivesBuffered old new (times_at (length group) read) group) (
    bits_in_buffer new ≡ bits_in_buffer old)

-- The first n of the 64 bits peeked begin with the code of x, which has n_bits bits; `rotated`
-- begins with the others of these n.
pub record IsFirstValue (read : Bits → Reading Bool ℤ) (peeked : ℕ) (x : ℤ) (n_bits rotated : ℕ) :
    Type 0 where
  pub code : (n : ℕ) (rest : Bits) → n_bits < 64 → n_bits ≤ n → n ≤ 64
      → read (take n (bits 64 peeked) ++ rest)
      ≡ Done x (drop n_bits (take n (bits 64 peeked)) ++ rest)
  pub others : (n : ℕ) → n_bits < 64 → n_bits ≤ n → n ≤ 64
      → take (n - n_bits) (bits 64 rotated) ≡ drop n_bits (take n (bits 64 peeked))
