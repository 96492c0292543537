-- What is known of the end of a frame, by its first bytes.
use Rattle.std.specs.Prelude.{◌≡◌, ℕ, ◌≤◌, Bool, true, false, List, ◌++◌, take, Option}
use Rattle.claxon.specs.Bits.{bits_of}
use Rattle.claxon.specs.Crc.{crc16}
use Rattle.claxon.specs.Frame.{IsBitDepth, NoFrameLeft, StreamFormat, known_bit_depth}
use Rattle.claxon_stream.specs.Event.{IsOpen}
use Rattle.claxon_stream.specs.declared.ending.FrameEnd.{FrameEnd}

-- how many bytes were tried last, in vain
abbrev pub tried_bytes : FrameEnd → ℕ
tried_bytes e = e.tried

-- of how many bytes the CRC-16 is
abbrev pub summed_bytes : FrameEnd → ℕ
summed_bytes e = e.summed

-- The bytes begin with these.
abbrev pub StartsWith : List ℕ → List ℕ → Type 0
StartsWith bytes front = (rest : List ℕ) × (bytes ≡ front ++ rest)

-- The CRC-16 is 0 after some of the first count bytes.
abbrev pub IsZeroWithin : List ℕ → ℕ → Type 0
IsZeroWithin bytes count = (k : ℕ) × (1 ≤ k) × (k ≤ count) × (crc16 (bits_of (take k bytes)) ≡ 0)

-- What is noted is so of the bytes of a stream from the position on: no frame and no fault is in
-- those that were tried, and unless the end is near no frame is in those that were summed.
pub record Knows (stream : Option StreamFormat) (bytes : List ℕ) (e : FrameEnd) : Type 0 where
  pub tried : IsOpen stream (take e.tried bytes)
  pub crc : e.crc ≡ crc16 (bits_of (take e.summed bytes))
  pub far : e.is_near ≡ false → NoFrameLeft stream (take e.summed bytes)
  pub near : e.is_near ≡ true → IsZeroWithin bytes e.summed

-- At the start nothing is noted that isn't so.
abbrev pub StartKnows : FrameEnd → Type 0
StartKnows e = (stream : Option StreamFormat) → IsBitDepth (known_bit_depth stream)
    → (bytes : List ℕ) → Knows stream bytes e

-- What is said of these bytes, and noted of all, is so.
abbrev pub MayEnd : List ℕ → FrameEnd → Bool → FrameEnd → Type 0
MayEnd front old may new = (stream : Option StreamFormat) (bytes : List ℕ)
    → StartsWith bytes front → Knows stream bytes old
    → Knows stream bytes new × (may ≡ false → NoFrameLeft stream front)
    × (may ≡ true → IsZeroWithin bytes new.summed)

-- Where neither a frame nor a fault is in these bytes what is noted of all is so.
abbrev pub EndIsNoted : List ℕ → FrameEnd → FrameEnd → Type 0
EndIsNoted front old new = (stream : Option StreamFormat) (bytes : List ℕ)
    → StartsWith bytes front → Knows stream bytes old → IsOpen stream front
    → Knows stream bytes new
