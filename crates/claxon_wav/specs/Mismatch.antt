-- What the streaminfo says otherwise than a conversion found.
use Rattle.std.specs.Prelude.{
  ◌==◌,
  ℕ,
  None,
  Option,
  Some,
  if◌then◌else◌,
}
use Rattle.claxon_blocks.specs.declared.md5_verdict.Md5Verdict.{Md5Verdict}
use Rattle.claxon_blocks.specs.declared.md5_verdict.Md5Verdict.TheVariants.{Wrong}
use Rattle.claxon_wav.specs.declared.conversion.Conversion.{Conversion}
use Rattle.claxon_wav.specs.declared.conversion.Mismatch.{Mismatch}
use Rattle.claxon_wav.specs.declared.conversion.Mismatch.TheVariants.{Md5, Samples}

-- Another MD5 sum of the samples is one.
abbrev pub md5_mismatch : Md5Verdict → Option Mismatch
md5_mismatch Wrong = Some Md5
md5_mismatch verdict = None

-- Another number of samples than the known one, or else another MD5 sum.
abbrev pub mismatch_of : Option ℕ → Conversion → Option Mismatch
mismatch_of None found = md5_mismatch found.md5
mismatch_of (Some known) found =
    if known == found.samples then md5_mismatch found.md5 else Some (Samples known)
