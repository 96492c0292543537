-- The samples that fit in the buffer.
use Rattle.std.proofs.Common.{ℕ, ◌*◌, ◌≤◌, arith}
use Rattle.claxon_write.specs.Capacity.{capacity}

-- at most 512 samples per channel, of at most eight channels
pub bytes_fit : (count channels : ℕ) → count ≤ 512 → channels ≤ 8 → count * (4 * channels) ≤ capacity
bytes_fit count channels few small = grind arith
