-- What the call for the CRC of a frame does.
use Rattle.std.specs.Prelude.{◌≡◌, ℕ, List, ◌++◌}
use Rattle.claxon.specs.Bits.{bits_of}
use Rattle.claxon.specs.Crc.{crc16}

-- From 0 the result is the CRC of the bytes.
abbrev pub CCrcBegins : ℕ → List ℕ → ℕ → Type 0
CCrcBegins crc bytes result = crc ≡ 0 → result ≡ crc16 (bits_of bytes)

-- From the CRC of some bytes it is that of these and the others together.
abbrev pub CCrcContinues : ℕ → List ℕ → ℕ → Type 0
CCrcContinues crc bytes result =
    (before : List ℕ) → crc ≡ crc16 (bits_of before) → result ≡ crc16 (bits_of (before ++ bytes))
