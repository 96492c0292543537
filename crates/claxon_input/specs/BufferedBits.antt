-- Buffered bits.
use Rattle.std.specs.Prelude.{
  ◌≡◌,
  ℕ,
  ◌≤◌,
  Bool,
  ◌++◌,
  length,
  take,
  drop,
  if◌then◌else◌,
  nat_lt,
  Option,
  MatchOption,
}
use Rattle.claxon_format.specs.Bits.{Bits, bits, bits_of}
use Rattle.claxon_format.specs.read.Reading.{Reading, Done, Incomplete}
use Rattle.claxon_input.specs.State.{State, RemainingIsKnown}
use Rattle.claxon_input.specs.declared.bits.buffered.BufferedBits.{BufferedBits}

-- those in the cache, and those of the bytes after them
abbrev pub bits_in_buffer : BufferedBits → Bits
bits_in_buffer a = take a.count (bits 64 a.cache) ++ bits_of (drop a.at a.bytes.now)

-- how many are in the cache
abbrev pub in_cache : BufferedBits → ℕ
in_cache a = a.count

-- x is read from the buffered bits, whatever follows them, and just its bits are consumed
abbrev pub GivesBuffered : {A : Type 0} → BufferedBits → BufferedBits → (Bits → Reading Bool A) → A
    → Type 0
GivesBuffered old new read x =
    (rest : Bits) → read (bits_in_buffer old ++ rest) ≡ Done x (bits_in_buffer new ++ rest)

-- the remaining bits begin with the buffered ones, where they are known
abbrev pub IsBufferOf : BufferedBits → State Bool → Type 0
IsBufferOf a s = RemainingIsKnown s → (rest : Bits) × (s.remaining ≡ bits_in_buffer a ++ rest)

-- n bits, whatever they are
unfoldable pub skipped_bits_at : ℕ → Bits → Reading Bool (Unit {0})
skipped_bits_at n s = if nat_lt (length s) n then Incomplete else Done tt (drop n s)

-- ---- what the calls of `BufferedBits` promise

-- A value was read from the buffered bits, whatever follows. None consumed nothing.
abbrev pub GivesBufferedOrNone : {A : Type 0} → (Bits → Reading Bool A) → BufferedBits → Option A
    → BufferedBits → Type 0
GivesBufferedOrNone read old result new =
    MatchOption result (bits_in_buffer new ≡ bits_in_buffer old) (GivesBuffered old new read)

-- These are the next 64 bits, and 56 or more of them are in the cache.
pub record PeeksBits (peek : ℕ) (a : BufferedBits) : Type 0 where
  pub within : 56 ≤ in_cache a
  pub after : Bits
  pub next : bits_in_buffer a ≡ bits 64 peek ++ after
