-- Bytes of a stream that the caller holds and hands in.
use Rattle.std.specs.Prelude.{
  ◌≡◌,
  ℕ,
  ◌-◌,
  ◌==◌,
  Bool,
  not,
  if◌then◌else◌,
  nat_lt,
  List,
  codes,
  length,
  take,
}
use Rattle.claxon_stream.specs.Held.{held_from}
use Rattle.claxon_c.specs.declared.held.TheConstants.{MAX_FRAME_BYTES}
use Rattle.claxon_c.specs.Status.{TextIsPut, unsupported}

-- whether a number of C says yes
abbrev pub says_yes : ℕ → Bool
says_yes flag = not (flag == 0)

-- The status and the text say that the bytes end after the positions of a file.
abbrev pub PositionIsReported : ℕ → List ℕ → List ℕ → Type 0
PositionIsReported status old new =
    (status ≡ unsupported) × TextIsPut (codes "positions from 2^63 on are not supported") old new

-- the bytes up to as many as a frame at the position may have
abbrev pub frame_bytes : ℕ → ℕ → List ℕ → List ℕ
frame_bytes at position bytes =
    take (length bytes - (length (held_from at position bytes) - MAX_FRAME_BYTES)) bytes

-- whether they are that many
abbrev pub is_full : ℕ → ℕ → List ℕ → Bool
is_full at position bytes = not (nat_lt (length (held_from at position bytes)) MAX_FRAME_BYTES)

-- the number of C that says whether the stream ends with them, as far as a frame at the position
-- goes
abbrev pub frame_end : ℕ → ℕ → List ℕ → ℕ → ℕ
frame_end at position bytes is_end = if is_full at position bytes then 1 else is_end
