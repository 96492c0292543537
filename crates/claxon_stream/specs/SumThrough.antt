-- The CRC-16 after each of some bytes.
use Rattle.std.specs.Prelude.{◌≡◌, ◌⊎◌, ◌+◌, ◌<◌, ℕ, Bool, true, false, List, length, take}
use Rattle.claxon.specs.CrcUpdate.{update_crc16}

-- The sum is the CRC after these bytes, from what it was before them. Whether it was 0 after one of
-- them, or before.
pub record IsSummed (crc : ℕ) (was_zero : Bool) (bytes : List ℕ) (sum : ℕ) (is_zero : Bool)
    : Type 0 where
  pub is : sum ≡ update_crc16 crc bytes
  pub never : is_zero ≡ false → (was_zero ≡ false)
      × ((k : ℕ) → k < length bytes → update_crc16 crc (take (k + 1) bytes) ≡ 0 → ⊥)
  pub once : is_zero ≡ true → (was_zero ≡ true)
      ⊎ ((k : ℕ) × (k < length bytes) × (update_crc16 crc (take (k + 1) bytes) ≡ 0))
