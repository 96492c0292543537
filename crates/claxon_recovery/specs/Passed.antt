-- What is kept of the bytes of damage.
use Rattle.std.specs.Prelude.{◌≡◌, ◌↔◌, ◌+◌, ◌%◌, ◌^◌, ℕ, IsTrue, List, ◌++◌, replicate}
use Rattle.claxon_blocks.specs.FirstBytes.{AreZeros, update_first}
use Rattle.claxon_blocks.specs.declared.frames.first_bytes.FirstBytes.{FirstBytes}
use Rattle.claxon_recovery.specs.declared.passed.Passed.{Passed}

-- the state before the first byte
abbrev pub no_bytes : FirstBytes
no_bytes = record { seen = 0; bytes = replicate 16 0; others = 0 }

-- They are the first of these bytes: the same is kept of more bytes after them.
abbrev pub AreFirstOf : FirstBytes → List ℕ → Type 0
AreFirstOf first t =
    (more : List ℕ) → update_first first more ≡ update_first no_bytes (t ++ more)

-- This is kept of these bytes, at so many positions of which it wasn't searched.
pub record IsOfBytes (t : List ℕ) (unsearched : ℕ) (passed : Passed) : Type 0 where
  pub first : AreFirstOf passed.first t
  pub zeros : IsTrue passed.are_zeros ↔ AreZeros t
  pub count : passed.unsearched ≡ unsearched % 2 ^ 64

-- More bytes were passed.
abbrev pub PassesMore : List ℕ → Passed → Passed → Type 0
PassesMore more old new =
    (t : List ℕ) (unsearched : ℕ) → IsOfBytes t unsearched old → IsOfBytes (t ++ more) unsearched new

-- One more position isn't searched.
abbrev pub PassesUnsearched : Passed → Passed → Type 0
PassesUnsearched old new =
    (t : List ℕ) (unsearched : ℕ) → IsOfBytes t unsearched old → IsOfBytes t (unsearched + 1) new
