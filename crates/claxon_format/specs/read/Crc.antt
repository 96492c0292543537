-- Readers of CRCs (RFC 9639, sections 9.1.8 and 9.3) and of padding, from bits.
use Rattle.std.specs.Prelude.{ℕ, Bool, not, ◌==◌}
use Rattle.claxon_format.specs.Bits.{Bits}
use Rattle.claxon_format.specs.Fault.{Fault}
use Rattle.claxon_format.specs.Crc.{padding_length}
use Rattle.claxon_format.specs.read.Reading.{Reading, and_then, and_with, done, test}
use Rattle.claxon_format.specs.read.Bits.{number_at}

-- what r reads, and then its CRC of w bits
unfoldable pub with_crc_at : {A : Type 0} → ℕ → (Bits → ℕ) → Fault → (Bits → Reading Bool A) → Bits
    → Reading Bool A
with_crc_at w crc f r =
    and_with r (λ a x. and_then (number_at w) (λ n. test (not (n == crc x)) f (done a)))

-- what r reads, and padding up to a byte boundary
unfoldable pub byte_aligned_at : {A : Type 0} → (Bits → Reading Bool A) → Bits → Reading Bool A
byte_aligned_at r = and_with r (λ a x. and_then (number_at (padding_length x)) (λ n. done a))
