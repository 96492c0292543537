-- What a report says is right.
use Rattle.std.specs.Prelude.{◌≡◌, ◌≢◌, ◌⊎◌, ℕ, None}
use Rattle.claxon_blocks.specs.declared.md5_verdict.Md5Verdict.{Md5Verdict}
use Rattle.claxon_blocks.specs.declared.md5_verdict.Md5Verdict.TheVariants.{Wrong}
use Rattle.claxon_report.specs.declared.report.Found.{Found}

-- There is no place, there are as many samples as expected, where 0 isn't, and the MD5 sum isn't
-- another one.
abbrev pub NothingIsWrong : {A : Type 0} → Found A → ℕ → Md5Verdict → Type 0
NothingIsWrong found expected verdict =
    (found.places.first ≡ None) × ((expected ≡ 0) ⊎ (expected ≡ found.samples))
    × (verdict ≢ Wrong)
