-- Two numbers of 5 and of 9 bits, padding and a CRC: a small code of the same form as a frame.
use Rattle.std.specs.Prelude.{ℕ, Bool, List, Result}
use Rattle.claxon.specs.Bits.{Bits}
use Rattle.claxon.specs.Fault.{FrameCrc}
use Rattle.claxon.specs.read.Bytes.{by_bytes}
use Rattle.claxon.specs.read.Crc.{byte_aligned_at, with_crc_at}
use Rattle.claxon.specs.Crc.{crc16}
use Rattle.claxon.specs.read.Reading.{Reading, and_then, done}
use Rattle.claxon.specs.read.Bits.{number_at}
use Rattle.claxon.specs.Gives.{Gives}
use Rattle.claxon.specs.Source.{Source}
use Rattle.claxon.specs.State.{bytes_in}
use Rattle.claxon.specs.Errors.{Error}

-- two numbers, of 5 and of 9 bits
unfoldable pub pair_at : Bits → Reading Bool (ℕ × ℕ)
pair_at = and_then (number_at 5) (λ a. and_then (number_at 9) (λ b. done (a, b)))

-- as bytes, with padding and CRC
unfoldable pub pair_with_crc_at : List ℕ → Reading ℕ (ℕ × ℕ)
pair_with_crc_at = by_bytes (with_crc_at 16 crc16 FrameCrc (byte_aligned_at pair_at))

-- The result and the bytes consumed are those of `pair_with_crc_at`.
abbrev pub PairIsRead : {R : Type 0} → (R → Source ℕ) → R → Result (ℕ × ℕ) Error → R → Type 0
PairIsRead source old result new =
    Gives (λ pair. pair) result pair_with_crc_at (bytes_in source old) (bytes_in source new)
