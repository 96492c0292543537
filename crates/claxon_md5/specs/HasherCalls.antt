-- What the calls of a hasher do. `old` and `new` are the hasher before and after a call.
use Rattle.std.specs.Prelude.{◌≡◌, ℕ, ℤ, List, ◌++◌}
use Rattle.claxon_md5.specs.HasHashed.{HasHashed}
use Rattle.claxon_md5.specs.Md5.{md5}
use Rattle.claxon_md5.specs.WholeBytes.{whole_bytes_of_samples}
use Rattle.claxon_md5.specs.declared.Md5.{Md5}

-- Whatever bytes were hashed before, now these are hashed too, after them.
abbrev pub HashesBytes : List ℕ → Md5 → Md5 → Type 0
HashesBytes bytes old new = (xs : List ℕ) → HasHashed old xs → HasHashed new (xs ++ bytes)

-- The samples are hashed too, one after another, each in the fewest whole bytes that hold the bit
-- depth.
abbrev pub HashesSamples : ℕ → List ℤ → Md5 → Md5 → Type 0
HashesSamples bit_depth samples old new =
    HashesBytes (whole_bytes_of_samples bit_depth samples) old new

-- The digest is that of all bytes that were hashed.
abbrev pub IsDigest : Md5 → List ℕ → Type 0
IsDigest hasher digest = (xs : List ℕ) → HasHashed hasher xs → digest ≡ md5 xs
