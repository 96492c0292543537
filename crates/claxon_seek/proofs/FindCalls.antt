-- The clauses of a search, from all that it answers.
use Rattle.std.proofs.Common.{◌≡◌, inl, inr, ℕ, List, drop, Option, None, Some, sym, subst, arith}
use Rattle.std.specs.Prelude.{Result, Ok, Err}
use Rattle.std.proofs.lemmas.Bool.{cases_lt}
use Rattle.claxon.specs.Errors.{Error}
use Rattle.claxon.specs.Errors.TheVariants.{OutOfMemory}
use Rattle.claxon.specs.Promises.{IsOutOfMemory}
use Rattle.claxon.specs.StreamInfos.{StreamInfo}
use Rattle.claxon_seek.specs.Find.{BudgetIsSpent, FindGives, FindOutOfMemoryAfterHeader, FirstIsFound, FoundIsFirst, NoFrameBetween, NoneIsNotFound, NotFoundIsNone, PassesBudget, StopsOverBudget, UndecidedIsFirst, WantedHeader}
use Rattle.claxon_seek.specs.Seek.{PassesInVain, SeekGives, SeekIsComplete, SeekIsSound, SeekNoneIsNotFound, SeekNotFoundFitsBudget, SeekNotFoundIsNone, SeekOutOfMemoryAfterHeader, SeekStopsOverBudget, SeekUndecidedIsFirst}
use Rattle.claxon_seek.specs.declared.search.Search.{Search}
use Rattle.claxon_seek.specs.declared.search.Search.TheVariants.{Found, NotFound, OverBudget}
use Rattle.claxon_seek.proofs.Searches.{same_header}

-- the error of a result that is `OutOfMemory`
error_is : (e : Error) → IsOutOfMemory {A = Search} (Err e) → e ≡ OutOfMemory
error_is e is = cc

-- ---- the first frame

module _ (known : Option StreamInfo) (bytes : List ℕ) (from budget : ℕ) where
  pub found_is_first : (r : Result Search Error) (left : ℕ) → FindGives known None bytes from budget r left → FoundIsFirst known bytes from budget r left
  found_is_first (Ok (Found at)) left g = (g.0, g.1, g.2)
  found_is_first (Ok (NotFound undecided)) left g = tt
  found_is_first (Ok (OverBudget to)) left g = tt
  found_is_first (Err e) left g = tt

  pub first_is_found : (r : Result Search Error) (left : ℕ) → FindGives known None bytes from budget r left → FirstIsFound known bytes from budget r left
  first_is_found (Ok (Found f)) left g at info after frame none = elim (cases_lt f.position at) [
    | inl lt ↦ absurd (none f.position g.0 lt f.block g.1)
    | inr le ↦ elim (cases_lt at f.position) [
      | inl lt ↦ absurd (g.2 at after lt info frame)
      | inr ge ↦ (let same : at ≡ f.position = omega (arith, le, ge) in
          inl (sym same, sym (same_header known None (drop f.position bytes) info f.block (subst (λ (n : ℕ). WantedHeader known None (drop n bytes) info) same frame.wanted) g.1.wanted)))
    ]
  ]
  first_is_found (Ok (NotFound undecided)) left g at info after frame none = absurd (g.0 at after info frame)
  first_is_found (Ok (OverBudget to)) left g at info after frame none = elim (cases_lt at to) [
    | inl lt ↦ absurd (g.0 at after lt info frame)
    | inr le ↦ inr (inl (to, le, g.1))
  ]
  first_is_found (Err e) left g at info after frame none = inr (inr g.0)

  pub not_found_is_none : (r : Result Search Error) (left : ℕ) → FindGives known None bytes from budget r left → NotFoundIsNone known bytes from budget r left
  not_found_is_none (Ok (Found at)) left g = tt
  not_found_is_none (Ok (NotFound undecided)) left g = g.0
  not_found_is_none (Ok (OverBudget to)) left g = tt
  not_found_is_none (Err e) left g = tt

  pub none_is_not_found : (r : Result Search Error) (left : ℕ) → FindGives known None bytes from budget r left → NoneIsNotFound known bytes from budget r left
  none_is_not_found (Ok (Found at)) left g none = absurd (none at.position g.0 at.block g.1)
  none_is_not_found (Ok (NotFound undecided)) left g none = inl tt
  none_is_not_found (Ok (OverBudget to)) left g none = inr (inl (to, g.1))
  none_is_not_found (Err e) left g none = inr (inr g.0)

  pub stops_over_budget : (r : Result Search Error) (left : ℕ) → FindGives known None bytes from budget r left → StopsOverBudget known bytes from budget r left
  stops_over_budget (Ok (Found at)) left g to is = absurd cc
  stops_over_budget (Ok (NotFound undecided)) left g to is = absurd cc
  stops_over_budget (Ok (OverBudget at)) left g to is =
      let same : at ≡ to = cc in
      (subst (λ (n : ℕ). NoFrameBetween known None bytes from n) same g.0, subst (λ (n : ℕ). PassesBudget known None bytes from budget n) same g.1)
  stops_over_budget (Err e) left g to is = absurd cc

  pub undecided_is_first : (r : Result Search Error) (left : ℕ) → FindGives known None bytes from budget r left → UndecidedIsFirst known bytes from budget r left
  undecided_is_first (Ok (Found at)) left g = tt
  undecided_is_first (Ok (NotFound undecided)) left g = (g.2, g.3, g.4)
  undecided_is_first (Ok (OverBudget to)) left g = tt
  undecided_is_first (Err e) left g = tt

  pub budget_is_spent : (r : Result Search Error) (left : ℕ) → FindGives known None bytes from budget r left → BudgetIsSpent known bytes from budget r left
  budget_is_spent (Ok (Found at)) left g = g.3
  budget_is_spent (Ok (NotFound undecided)) left g = g.1
  budget_is_spent (Ok (OverBudget to)) left g = g.2
  budget_is_spent (Err e) left g = tt

  pub out_of_memory_after_header : (r : Result Search Error) (left : ℕ) → FindGives known None bytes from budget r left → FindOutOfMemoryAfterHeader known bytes from budget r left
  out_of_memory_after_header (Ok found) left g = tt
  out_of_memory_after_header (Err e) left g = (error_is e g.0, g.1)

-- ---- a frame with a sample

module _ (known : Option StreamInfo) (bytes : List ℕ) (first sample budget : ℕ) where
  pub seek_is_sound : (r : Result Search Error) → SeekGives known bytes first sample budget r → SeekIsSound known bytes first sample budget r
  seek_is_sound (Ok (Found at)) g = g
  seek_is_sound (Ok (NotFound undecided)) g = tt
  seek_is_sound (Ok (OverBudget to)) g = tt
  seek_is_sound (Err e) g = tt

  pub seek_is_complete : (r : Result Search Error) → SeekGives known bytes first sample budget r → SeekIsComplete known bytes first sample budget r
  seek_is_complete (Ok (Found f)) g at info after frame = inl tt
  seek_is_complete (Ok (NotFound undecided)) g at info after frame = absurd (g.0 at after info frame)
  seek_is_complete (Ok (OverBudget to)) g at info after frame = elim (cases_lt to at) [
    | inl lt ↦ inr (inl (to, lt, g))
    | inr le ↦ absurd (g.0 at after (omega (arith, le)) info frame)
  ]
  seek_is_complete (Err e) g at info after frame = inr (inr g.0)

  pub seek_not_found_is_none : (r : Result Search Error) → SeekGives known bytes first sample budget r → SeekNotFoundIsNone known bytes first sample budget r
  seek_not_found_is_none (Ok (Found at)) g = tt
  seek_not_found_is_none (Ok (NotFound undecided)) g = g.0
  seek_not_found_is_none (Ok (OverBudget to)) g = tt
  seek_not_found_is_none (Err e) g = tt

  pub seek_undecided_is_first : (r : Result Search Error) → SeekGives known bytes first sample budget r → SeekUndecidedIsFirst known bytes first sample budget r
  seek_undecided_is_first (Ok (Found at)) g = tt
  seek_undecided_is_first (Ok (NotFound undecided)) g = g.2
  seek_undecided_is_first (Ok (OverBudget to)) g = tt
  seek_undecided_is_first (Err e) g = tt

  pub seek_not_found_fits_budget : (r : Result Search Error) → SeekGives known bytes first sample budget r → SeekNotFoundFitsBudget known bytes first sample budget r
  seek_not_found_fits_budget (Ok (Found at)) g = tt
  seek_not_found_fits_budget (Ok (NotFound undecided)) g = g.1
  seek_not_found_fits_budget (Ok (OverBudget to)) g = tt
  seek_not_found_fits_budget (Err e) g = tt

  pub seek_none_is_not_found : (r : Result Search Error) → SeekGives known bytes first sample budget r → SeekNoneIsNotFound known bytes first sample budget r
  seek_none_is_not_found (Ok (Found at)) g none = absurd (none at.position g.0 at.block g.1)
  seek_none_is_not_found (Ok (NotFound undecided)) g none = inl tt
  seek_none_is_not_found (Ok (OverBudget to)) g none = inr (inl (to, g))
  seek_none_is_not_found (Err e) g none = inr (inr g.0)

  pub seek_stops_over_budget : (r : Result Search Error) → SeekGives known bytes first sample budget r → SeekStopsOverBudget known bytes first sample budget r
  seek_stops_over_budget (Ok (Found at)) g to is = absurd cc
  seek_stops_over_budget (Ok (NotFound undecided)) g to is = absurd cc
  seek_stops_over_budget (Ok (OverBudget at)) g to is = let same : at ≡ to = cc in subst (λ (n : ℕ). PassesInVain known bytes first sample budget n) same g
  seek_stops_over_budget (Err e) g to is = absurd cc

  pub seek_out_of_memory : (r : Result Search Error) → SeekGives known bytes first sample budget r → SeekOutOfMemoryAfterHeader known bytes first sample budget r
  seek_out_of_memory (Ok found) g = tt
  seek_out_of_memory (Err e) g = (error_is e g.0, g.1)
