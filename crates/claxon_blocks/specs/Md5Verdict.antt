-- What becomes of the MD5 sum of a stream.
use Rattle.std.specs.Prelude.{◌≡◌, ◌≢◌, ℕ, Bool, List, Option, None, Some, IsSomeAnd, replicate}
use Rattle.claxon.specs.Codes.{when◌then◌else◌}
use Rattle.claxon.specs.Streaminfo.{Streaminfo}
use Rattle.claxon_md5.specs.HasHashed.{HasHashed}
use Rattle.claxon_md5.specs.Md5.{md5}
use Rattle.claxon_md5.specs.declared.Md5.{Md5}
use Rattle.claxon_blocks.specs.declared.md5_verdict.Md5Verdict.{Md5Verdict}
use Rattle.claxon_blocks.specs.declared.md5_verdict.Md5Verdict.TheVariants.{
  NotComputed,
  Missing as NoMd5,
  Right,
  Wrong,
}

-- The hasher has hashed these bytes, if there is to be one.
abbrev pub HasHashedBytes : Bool → List ℕ → Option Md5 → Type 0
HasHashedBytes computes_md5 bytes md5 =
    when computes_md5 then IsSomeAnd md5 (λ hasher. HasHashed hasher bytes) else (md5 ≡ None)

-- what stands for no MD5 sum
abbrev pub no_md5 : List ℕ
no_md5 = replicate 16 0

-- Whether the MD5 sum of these bytes is that of the streaminfo, if it has one.
abbrev pub IsMd5Verdict : Streaminfo → List ℕ → Md5Verdict → Type 0
IsMd5Verdict info bytes NotComputed = ⊥
IsMd5Verdict info bytes NoMd5 = info.md5 ≡ no_md5
IsMd5Verdict info bytes Right = (info.md5 ≢ no_md5) × (info.md5 ≡ md5 bytes)
IsMd5Verdict info bytes Wrong = (info.md5 ≢ no_md5) × (info.md5 ≢ md5 bytes)

-- What became of the MD5 sum of what was hashed.
abbrev pub Md5IsJudged : Streaminfo → Option Md5 → Md5Verdict → Type 0
Md5IsJudged info None verdict = verdict ≡ NotComputed
Md5IsJudged info (Some hasher) verdict = (xs : List ℕ) → HasHashed hasher xs
    → IsMd5Verdict info xs verdict

-- The MD5 sum of what was hashed.
abbrev pub Md5IsShown : Option Md5 → Option (List ℕ) → Type 0
Md5IsShown None shown = shown ≡ None
Md5IsShown (Some hasher) shown = (xs : List ℕ) → HasHashed hasher xs → shown ≡ Some (md5 xs)
