-- What the calls return that find a frame in bytes, or seek to a sample.
use Rattle.std.proofs.Common.{◌≡◌, inl, inr, ℕ, ◌≤◌, List, drop, Option, None, refl, subst, arith}
use Rattle.std.specs.Prelude.{Result, Ok, Err}
use Rattle.std.proofs.lemmas.Bool.{cases_lt}
use Rattle.claxon.specs.BlockInfos.{BlockInfo}
use Rattle.claxon.specs.Errors.{Error}
use Rattle.claxon.specs.StreamInfos.{StreamInfo}
use Rattle.claxon_seek.specs.Find.{FindGives, FindOutOfMemoryAfterHeader, NoFrameBetween, WantedFrame, WantedHeader}
use Rattle.claxon_seek.specs.Seek.{SeekGives, SeekOutOfMemoryAfterHeader}
use Rattle.claxon_seek.specs.declared.search.FoundFrame.{FoundFrame}
use Rattle.claxon_seek.specs.declared.search.Search.{Search}
use Rattle.claxon_seek.specs.declared.search.Search.TheVariants.{Found, NotFound, OverBudget}
use Rattle.claxon_seek.proofs.Searches.{same_header}
use Rattle.claxon_c.specs.declared.heads.ClaxonInfo.{ClaxonInfo}
use Rattle.claxon_c.specs.declared.next_block.ClaxonBlock.{ClaxonBlock}
use Rattle.claxon_c.specs.Info.{known_info}
use Rattle.claxon_c.specs.NextBlock.{ShowsInfo}
use Rattle.claxon_c.specs.Seek.{CBudgetIsSpent, CFindOutOfMemoryAfterHeader, CFirstIsFound, CFoundIsFirst, CNoMoreIsNone, CNoneIsNoMore, CSeekIsComplete, CSeekIsSound, CSeekNoMoreFitsBudget, CSeekNoMoreIsNone, CSeekNoneIsNoMore, CSeekOutOfMemoryAfterHeader, CSeekStopsOverBudget, CStopsOverBudget, CUndecidedIsFirst, FoundBlockIsKept, IsSearchStatus, SearchIsKept, SeekIsKept}
use Rattle.claxon_c.specs.Status.{no_more, ok, out_of_memory, over_budget}

-- ---- the first frame of the stream

-- all clauses of a search for it
pub record CFindPromises (info : ClaxonInfo) (bytes : List ℕ) (from status to budget left : ℕ) (block shown : ClaxonBlock) : Type 0 where
  pub found_is_first : CFoundIsFirst info bytes from status to shown
  pub first_is_found : CFirstIsFound info bytes from status to shown
  pub no_more_is_none : CNoMoreIsNone info bytes from status
  pub none_is_no_more : CNoneIsNoMore info bytes from status
  pub undecided_is_first : CUndecidedIsFirst info bytes from status to
  pub is_search_status : IsSearchStatus status
  pub stops_over_budget : CStopsOverBudget info bytes from status to budget
  pub budget_is_spent : CBudgetIsSpent info bytes from status to budget left
  pub out_of_memory_after_header : CFindOutOfMemoryAfterHeader info bytes from status
  pub block_is_kept : FoundBlockIsKept status block shown
  pub search_is_kept : SearchIsKept status from to budget left

-- there is one first frame
module _ (known : Option StreamInfo) (bytes : List ℕ) (from a b : ℕ) (x y : BlockInfo) (at : WantedFrame known None (drop a bytes) x) (and : WantedFrame known None (drop b bytes) y) where
  pub one_first : from ≤ a → NoFrameBetween known None bytes from a → from ≤ b → NoFrameBetween known None bytes from b → (a ≡ b) × (x ≡ y)
  one_first after before after_too before_too = elim (cases_lt a b) [
    | inl lt ↦ absurd (before_too a after lt x at)
    | inr le ↦ elim (cases_lt b a) [
      | inl lt ↦ absurd (before b after_too lt y and)
      | inr ge ↦ (let same : a ≡ b = omega (arith, le, ge) in
          (same, same_header known None (drop b bytes) x y (subst (λ (n : ℕ). WantedHeader known None (drop n bytes) x) same at.wanted) and.wanted))
    ]
  ]

module _ (info : ClaxonInfo) (bytes : List ℕ) (from budget left : ℕ) (block shown : ClaxonBlock) (known : Option StreamInfo) (same : known ≡ known_info info) where
  there : (r : Result Search Error) → FindGives known None bytes from budget r left → FindGives (known_info info) None bytes from budget r left
  there r g = subst (λ (k : Option StreamInfo). FindGives k None bytes from budget r left) same g

  -- it is this one
  pub found : (at : FoundFrame) → FindGives known None bytes from budget (Ok (Found at)) left → ShowsInfo at.block shown → CFindPromises info bytes from ok at.position budget left block shown
  found at gives shows =
      let g = there (Ok (Found at)) gives in
      record {
        found_is_first = λ is. (g.0, record { said = at.block; frame = g.1; shows = shows }, g.2);
        first_is_found = λ n said after frame none. (let one = one_first (known_info info) bytes from at.position n at.block said g.1 frame g.0 g.2 after none in
            inl (refl, one.0, subst (λ (x : BlockInfo). ShowsInfo x shown) one.1 shows));
        no_more_is_none = λ is. absurd cc;
        none_is_no_more = λ none. absurd (none at.position g.0 at.block g.1);
        undecided_is_first = λ is. absurd cc;
        is_search_status = inl refl;
        stops_over_budget = λ is. absurd cc;
        budget_is_spent = record { found = λ is. g.3; stopped = λ is. absurd cc; none = λ is. absurd cc };
        out_of_memory_after_header = λ is. absurd cc;
        block_is_kept = λ no. absurd (no refl);
        search_is_kept = λ is. absurd cc;
      }

  -- there is none
  pub not_found : (undecided : ℕ) → FindGives known None bytes from budget (Ok (NotFound undecided)) left → CFindPromises info bytes from no_more undecided budget left block block
  not_found undecided gives =
      let g = there (Ok (NotFound undecided)) gives in
      record {
        found_is_first = λ is. absurd cc;
        first_is_found = λ n said after frame none. absurd (g.0 n after said frame);
        no_more_is_none = λ is. g.0;
        none_is_no_more = λ none. inl refl;
        undecided_is_first = λ is. (g.2, g.3, g.4);
        is_search_status = inr (inl refl);
        stops_over_budget = λ is. absurd cc;
        budget_is_spent = record { found = λ is. absurd cc; stopped = λ is. absurd cc; none = λ is. g.1 };
        out_of_memory_after_header = λ is. absurd cc;
        block_is_kept = λ no. refl;
        search_is_kept = λ is. absurd cc;
      }

  -- it stopped at this position
  pub stopped : (to : ℕ) → FindGives known None bytes from budget (Ok (OverBudget to)) left → CFindPromises info bytes from over_budget to budget left block block
  stopped to gives =
      let g = there (Ok (OverBudget to)) gives in
      record {
        found_is_first = λ is. absurd cc;
        first_is_found = λ n said after frame none. inr (inl refl);
        no_more_is_none = λ is. absurd cc;
        none_is_no_more = λ none. inr (inl refl);
        undecided_is_first = λ is. absurd cc;
        is_search_status = inr (inr (inl refl));
        stops_over_budget = λ is. (g.0, g.1);
        budget_is_spent = record { found = λ is. absurd cc; stopped = λ is. g.2; none = λ is. absurd cc };
        out_of_memory_after_header = λ is. absurd cc;
        block_is_kept = λ no. refl;
        search_is_kept = λ is. absurd cc;
      }

  -- memory was refused, and what was left of the budget doesn't count
  pub refused : (e : Error) → FindOutOfMemoryAfterHeader known bytes from budget (Err e) left → CFindPromises info bytes from out_of_memory from budget budget block block
  refused e memory =
      let g = subst (λ (k : Option StreamInfo). FindOutOfMemoryAfterHeader k bytes from budget (Err e) left) same memory in
      record {
        found_is_first = λ is. absurd cc;
        first_is_found = λ n said after frame none. inr (inr refl);
        no_more_is_none = λ is. absurd cc;
        none_is_no_more = λ none. inr (inr refl);
        undecided_is_first = λ is. absurd cc;
        is_search_status = inr (inr (inr refl));
        stops_over_budget = λ is. absurd cc;
        budget_is_spent = record { found = λ is. absurd cc; stopped = λ is. absurd cc; none = λ is. absurd cc };
        out_of_memory_after_header = λ is. g.1;
        block_is_kept = λ no. refl;
        search_is_kept = λ is. (refl, refl);
      }

-- ---- a frame with the sample

-- all clauses of a search for one
pub record CSeekPromises (info : ClaxonInfo) (bytes : List ℕ) (sample budget status from to : ℕ) (block shown : ClaxonBlock) : Type 0 where
  pub is_sound : CSeekIsSound info bytes sample status to shown
  pub is_complete : CSeekIsComplete info bytes sample status
  pub no_more_is_none : CSeekNoMoreIsNone info bytes sample status
  pub none_is_no_more : CSeekNoneIsNoMore info bytes sample status
  pub is_search_status : IsSearchStatus status
  pub stops_over_budget : CSeekStopsOverBudget info bytes sample status budget
  pub no_more_fits_budget : CSeekNoMoreFitsBudget info bytes sample status budget
  pub out_of_memory_after_header : CSeekOutOfMemoryAfterHeader info bytes sample status
  pub is_kept : SeekIsKept status from to block shown

module _ (info : ClaxonInfo) (bytes : List ℕ) (sample budget from : ℕ) (block shown : ClaxonBlock) (known : Option StreamInfo) (same : known ≡ known_info info) where
  seeks_there : (r : Result Search Error) → SeekGives known bytes info.first_frame sample budget r → SeekGives (known_info info) bytes info.first_frame sample budget r
  seeks_there r g = subst (λ (k : Option StreamInfo). SeekGives k bytes info.first_frame sample budget r) same g

  -- it is this one
  pub seek_found : (at : FoundFrame) → SeekGives known bytes info.first_frame sample budget (Ok (Found at)) → ShowsInfo at.block shown → CSeekPromises info bytes sample budget ok from at.position block shown
  seek_found at gives shows =
      let g = seeks_there (Ok (Found at)) gives in
      record {
        is_sound = λ is. (g.0, record { said = at.block; frame = g.1; shows = shows });
        is_complete = λ n said after frame. inl refl;
        no_more_is_none = λ is. absurd cc;
        none_is_no_more = λ none. absurd (none at.position g.0 at.block g.1);
        is_search_status = inl refl;
        stops_over_budget = λ is. absurd cc;
        no_more_fits_budget = λ is. absurd cc;
        out_of_memory_after_header = λ is. absurd cc;
        is_kept = λ no. absurd (no refl);
      }

  -- there is none
  pub seek_not_found : (undecided : ℕ) → SeekGives known bytes info.first_frame sample budget (Ok (NotFound undecided)) → CSeekPromises info bytes sample budget no_more from from block block
  seek_not_found undecided gives =
      let g = seeks_there (Ok (NotFound undecided)) gives in
      record {
        is_sound = λ is. absurd cc;
        is_complete = λ n said after frame. absurd (g.0 n after said frame);
        no_more_is_none = λ is. g.0;
        none_is_no_more = λ none. inl refl;
        is_search_status = inr (inl refl);
        stops_over_budget = λ is. absurd cc;
        no_more_fits_budget = λ is. g.1;
        out_of_memory_after_header = λ is. absurd cc;
        is_kept = λ no. (refl, refl);
      }

  -- it stopped at this position
  pub seek_stopped : (to : ℕ) → SeekGives known bytes info.first_frame sample budget (Ok (OverBudget to)) → CSeekPromises info bytes sample budget over_budget from from block block
  seek_stopped to gives =
      let g = seeks_there (Ok (OverBudget to)) gives in
      record {
        is_sound = λ is. absurd cc;
        is_complete = λ n said after frame. inr (inl refl);
        no_more_is_none = λ is. absurd cc;
        none_is_no_more = λ none. inr (inl refl);
        is_search_status = inr (inr (inl refl));
        stops_over_budget = λ is. (to, g);
        no_more_fits_budget = λ is. absurd cc;
        out_of_memory_after_header = λ is. absurd cc;
        is_kept = λ no. (refl, refl);
      }

  -- memory was refused
  pub seek_refused : (e : Error) → SeekOutOfMemoryAfterHeader known bytes info.first_frame sample budget (Err e) → CSeekPromises info bytes sample budget out_of_memory from from block block
  seek_refused e memory =
      let g = subst (λ (k : Option StreamInfo). SeekOutOfMemoryAfterHeader k bytes info.first_frame sample budget (Err e)) same memory in
      record {
        is_sound = λ is. absurd cc;
        is_complete = λ n said after frame. inr (inr refl);
        no_more_is_none = λ is. absurd cc;
        none_is_no_more = λ none. inr (inr refl);
        is_search_status = inr (inr (inr refl));
        stops_over_budget = λ is. absurd cc;
        no_more_fits_budget = λ is. absurd cc;
        out_of_memory_after_header = λ is. g.1;
        is_kept = λ no. (refl, refl);
      }
