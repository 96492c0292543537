-- Files of other formats that may hold a FLAC stream.
use Rattle.std.specs.Prelude.{
  ◌≡◌,
  ◌⊎◌,
  ℕ,
  List,
  codes,
  drop,
  take,
  Option,
  None,
  Some,
}
use Rattle.std.specs.Borrow.{Bor}

-- A page of Ogg (RFC 3533, section 6).
abbrev pub IsOgg : List ℕ → Type 0
IsOgg front = take 4 front ≡ codes "OggS"

-- The file type box of MP4 (ISO/IEC 14496-12, section 4.3), after its length in four bytes.
abbrev pub IsMp4 : List ℕ → Type 0
IsMp4 front = take 4 (drop 4 front) ≡ codes "ftyp"

-- what files with these first bytes are called
abbrev pub ContainerIs : List ℕ → Option (Bor (List ℕ)) → Type 0
ContainerIs front None = (IsOgg front → ⊥) × (IsMp4 front → ⊥)
ContainerIs front (Some name) = (IsOgg front × (name.now ≡ codes "an Ogg file"))
    ⊎ ((IsOgg front → ⊥) × IsMp4 front × (name.now ≡ codes "an MP4 file"))
