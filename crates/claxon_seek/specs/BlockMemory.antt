-- Memory for the samples of blocks, and the requests for it that were refused.
use Rattle.std.specs.Prelude.{
  ◌≡◌,
  ℕ,
  ℤ,
  ◌+◌,
  ◌*◌,
  ◌%◌,
  ◌^◌,
  ◌≤◌,
  Option,
  None,
  Some,
  Result,
  vec_capacity,
}
use Rattle.std.specs.Global.{Vec}
use Rattle.claxon.specs.Errors.{Error}
use Rattle.claxon.specs.Promises.{IsOutOfMemory}
use Rattle.claxon_seek.specs.declared.memory.BlockMemory.{BlockMemory}

-- the most samples of a block, of all channels
abbrev pub max_samples : ℕ
max_samples = 8 * 65535

-- how many requests were refused, modulo 2 ^ 64
abbrev pub refused_requests : BlockMemory → ℕ
refused_requests memory = memory.refused

-- One request was refused.
abbrev pub CountsRefusal : BlockMemory → BlockMemory → Type 0
CountsRefusal old new = refused_requests new ≡ (refused_requests old + 1) % 2 ^ 64

-- The memory has capacity for so many samples, or one request was refused.
abbrev pub RequestIsCounted : ℕ → Option (Vec ℤ) → BlockMemory → BlockMemory → Type 0
RequestIsCounted count (Some buffer) old new = (count ≤ vec_capacity buffer) × (new ≡ old)
RequestIsCounted count None old new = CountsRefusal old new

-- `OutOfMemory` is returned exactly where a request was refused.
pub record MemoryIsCounted {A : Type 0} (r : Result A Error) (old new : BlockMemory) : Type 0 where
  pub refused : IsOutOfMemory r → CountsRefusal old new
  pub granted : (IsOutOfMemory r → ⊥) → new ≡ old
