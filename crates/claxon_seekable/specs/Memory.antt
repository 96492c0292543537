-- Memory for the bytes that are held, and the requests for it that were refused.
use Rattle.std.specs.Prelude.{
  ◌≡◌,
  ℕ,
  ◌≤◌,
  [],
  Option,
  None,
  Some,
  vec_capacity,
  vec_items,
}
use Rattle.std.specs.Global.{Vec}
use Rattle.claxon.specs.Source.{IsOneMore}
use Rattle.claxon_seekable.specs.declared.memory.ByteMemory.{ByteMemory}

-- how many requests were refused, modulo 2 ^ 64
abbrev pub refused_requests : ByteMemory → ℕ
refused_requests memory = memory.refused

-- No request was refused.
abbrev pub IsNewMemory : ByteMemory → Type 0
IsNewMemory memory = refused_requests memory ≡ 0

-- The memory is empty and has capacity for so many bytes, or one request was refused.
abbrev pub RequestIsCounted : ℕ → Option (Vec ℕ) → ByteMemory → ByteMemory → Type 0
RequestIsCounted count (Some bytes) old new =
    (count ≤ vec_capacity bytes) × (vec_items bytes ≡ []) × (new ≡ old)
RequestIsCounted count None old new = IsOneMore (refused_requests old) (refused_requests new)
