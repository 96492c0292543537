-- The counts of what searches answered.
use Rattle.std.specs.Prelude.{◌≡◌, ℕ, ◌<◌, Result, Ok, Err}
use Rattle.claxon.specs.Errors.{Error}
use Rattle.claxon.specs.Source.{IsOneMore}
use Rattle.claxon_stream_seek.specs.declared.event.SeekEvent.{SeekEvent}
use Rattle.claxon_stream_seek.specs.declared.event.SeekEvent.TheVariants.{
  Found,
  NotFound,
  OverBudget,
  ReadOn,
}
use Rattle.claxon_seekable.specs.declared.searches.SearchCounts.{SearchCounts}

-- how many searches found no frame, modulo 2 ^ 64
abbrev pub fruitless_searches : SearchCounts → ℕ
fruitless_searches s = s.not_found

-- how many were over their budget, modulo 2 ^ 64
abbrev pub spent_budgets : SearchCounts → ℕ
spent_budgets s = s.over_budget

-- how often a seeker may still be asked
abbrev pub calls_left : SearchCounts → ℕ
calls_left s = s.calls_left

pub record IsNewCount (s : SearchCounts) : Type 0 where
  pub none_fruitless : fruitless_searches s ≡ 0
  pub none_spent : spent_budgets s ≡ 0

-- Both counts stay.
abbrev pub KeepsSearches : SearchCounts → SearchCounts → Type 0
KeepsSearches old new =
    (fruitless_searches new ≡ fruitless_searches old) × (spent_budgets new ≡ spent_budgets old)

-- One more search found no frame, or was over its budget, where the answer says so. `ReadOn` is
-- answered only so often.
abbrev pub AnswerIsCounted : SearchCounts → Result SeekEvent Error → SearchCounts → Type 0
AnswerIsCounted old (Ok NotFound) new =
    IsOneMore (fruitless_searches old) (fruitless_searches new)
    × (spent_budgets new ≡ spent_budgets old)
AnswerIsCounted old (Ok OverBudget) new =
    (fruitless_searches new ≡ fruitless_searches old)
    × IsOneMore (spent_budgets old) (spent_budgets new)
AnswerIsCounted old (Ok (Found found)) new = KeepsSearches old new
AnswerIsCounted old (Ok (ReadOn needed)) new =
    KeepsSearches old new × (calls_left new < calls_left old)
AnswerIsCounted old (Err e) new = KeepsSearches old new
