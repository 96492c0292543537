-- How many files of a run have each verdict.
use Rattle.std.specs.Prelude.{
  ◌≡◌,
  ℕ,
  ◌+◌,
  ◌-◌,
  ◌^◌,
  min,
}
use Rattle.claxon_verdict.specs.declared.tally.Tally.{Tally}
use Rattle.claxon_verdict.specs.declared.verdict.Outcome.TheVariants.{Right as AllRight}
use Rattle.claxon_verdict.specs.declared.verdict.Verdict.{Verdict}
use Rattle.claxon_verdict.specs.declared.verdict.Verdict.TheVariants.{
  NotRead,
  NotSupported,
  Right,
  Wrong,
}
use Rattle.claxon_verdict.specs.Verdict.{IsWorst, outcome_of}

-- a sum, at most 2^64 - 1
abbrev pub bounded_sum : ℕ → ℕ → ℕ
bounded_sum a b = min (a + b) (2 ^ 64 - 1)

-- There are no files, and all of them are right.
pub record IsEmptyTally (tally : Tally) : Type 0 where
  pub right : tally.right ≡ 0
  pub wrong : tally.wrong ≡ 0
  pub not_supported : tally.not_supported ≡ 0
  pub not_read : tally.not_read ≡ 0
  pub outcome : tally.outcome ≡ AllRight

-- how many files of each verdict a file of this one is
abbrev pub one_if_right : Verdict → ℕ
one_if_right Right = 1
one_if_right verdict = 0

abbrev pub one_if_wrong : Verdict → ℕ
one_if_wrong Wrong = 1
one_if_wrong verdict = 0

abbrev pub one_if_not_supported : Verdict → ℕ
one_if_not_supported (NotSupported reason) = 1
one_if_not_supported verdict = 0

abbrev pub one_if_not_read : Verdict → ℕ
one_if_not_read NotRead = 1
one_if_not_read verdict = 0

-- One file of this verdict is counted, and the outcome is the worst one.
pub record IsTallyWith (verdict : Verdict) (old new : Tally) : Type 0 where
  pub right : new.right ≡ bounded_sum old.right (one_if_right verdict)
  pub wrong : new.wrong ≡ bounded_sum old.wrong (one_if_wrong verdict)
  pub not_supported : new.not_supported
      ≡ bounded_sum old.not_supported (one_if_not_supported verdict)
  pub not_read : new.not_read ≡ bounded_sum old.not_read (one_if_not_read verdict)
  pub outcome : IsWorst old.outcome (outcome_of verdict) new.outcome

-- how many files there are
abbrev pub files_of : Tally → ℕ
files_of tally = bounded_sum (bounded_sum (bounded_sum tally.right tally.wrong)
    tally.not_supported) tally.not_read
