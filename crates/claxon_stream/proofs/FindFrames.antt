-- An answer of a search, beside that of `find_frame` over all bytes.
use Rattle.std.proofs.Common.{◌≡◌, inl, inr, ℕ, zero, suc, ◌+◌, ◌-◌, ◌<◌, ◌≤◌, List, length, drop, Option, None, sym, ap, subst, arith}
use Rattle.std.specs.Prelude.{Result, Ok, Err}
use Rattle.std.proofs.lemmas.Bool.{cases_lt}
use Rattle.claxon.specs.BlockInfos.{BlockInfo}
use Rattle.claxon.specs.Errors.{Error}
use Rattle.claxon.specs.StreamInfos.{StreamInfo}
use Rattle.claxon_seek.specs.Find.{HeaderCost, HeaderCosts, IsSpent, NoFrameBetween, WantedFrame, WantedHeader}
use Rattle.claxon_seek.specs.declared.search.FoundFrame.{FoundFrame}
use Rattle.claxon_seek.specs.declared.search.Search.{Search}
use Rattle.claxon_seek.specs.declared.search.Search.TheVariants.{Found as Frame_at, NotFound as No_frame, OverBudget}
use Rattle.claxon_seek.proofs.Searches.{frame_is_wanted, none_at_end, same_header}
use Rattle.claxon_stream.specs.Budget.{work_left}
use Rattle.claxon_stream.specs.FindLaws.{IsFindAnswer, IsFindFrames, IsFindOf, IsKnown}
use Rattle.claxon_stream.specs.Search.{Cost, FindEventIs, FitsBudget, Passes, PassesByte, after_bytes, after_work, samples_of}
use Rattle.claxon_stream.specs.declared.event.FindEvent.{FindEvent}
use Rattle.claxon_stream.specs.declared.event.FindEvent.TheVariants.{Found, NotFound, ReadOn}
use Rattle.claxon_stream.proofs.OneFinds.{one_length, passing_of, tried_isnt_passed}

module _ (known : Option StreamInfo) (depth : IsKnown known) (bytes : List ℕ) (budget : ℕ) (old : Cost) (enough : budget ≤ work_left old.wasted) where
  at_zero : (P : ℕ → Type 0) (count : ℕ) → P (0 + count) → P count
  at_zero P count p = let same : 0 + count ≡ count = omega arith in subst P same p

  -- at least as much is left as `find_frame` has, after one byte more
  left_after : (a b : Cost) (before work : ℕ) → budget - before ≤ work_left a.wasted → b ≡ after_bytes 1 (after_work work a) → budget - (before + work) ≤ work_left b.wasted
  left_after a b before work le e = omega (arith, le, ap (λ (x : Cost). x.wasted) e)

  left_without : (a b : Cost) (before : ℕ) → budget - before ≤ work_left a.wasted → b ≡ after_bytes 1 a → budget - before ≤ work_left b.wasted
  left_without a b before le e = omega (arith, le, ap (λ (x : Cost). x.wasted) e)

  one_step : (s : List ℕ) (before n : ℕ) (a b : Cost) → budget - before ≤ work_left a.wasted → HeaderCost known None s budget before n → PassesByte known s a b → ((info : BlockInfo) → WantedFrame known None s info → ⊥) → budget - n ≤ work_left b.wasted
  one_step s before n a b le cost (inl p) none = absurd (p.0 cost.info cost.header)
  one_step s before n a b le cost (inr (i, there, inl p)) none =
      let same = same_header known None s cost.info i cost.header there in
      let fits : FitsBudget a cost.info = omega (arith, cost.fits, le) in
      absurd (p.0 (subst (FitsBudget a) same fits))
  one_step s before n a b le cost (inr (i, there, inr (fits, (m, vain, p)))) none =
      let same = same_header known None s i cost.info there cost.header in
      let samples : samples_of i ≡ samples_of cost.info = ap samples_of same in
      let read : cost.wasted ≡ m = elim cost.wastes [
        | inl whole ↦ absurd (none cost.info (frame_is_wanted known None s cost.info cost.header whole.0))
        | inr other ↦ one_length known depth s cost.wasted m other vain
      ] in
      let work : n ≡ before + (m + samples_of i) = omega (arith, cost.is, read, samples) in
      subst (λ (k : ℕ). budget - k ≤ work_left b.wasted) (sym work) (left_after a b before (m + samples_of i) le p)

  left_there : (count n : ℕ) (e : Cost) → HeaderCosts known None bytes 0 budget count n → NoFrameBetween known None bytes 0 count → Passes known bytes count old e → budget - n ≤ work_left e.wasted
  left_there zero n e costs none p = omega (arith, enough, costs, ap (λ (x : Cost). x.wasted) p)
  left_there (suc count) n e costs none (u, p, byte) =
      let fewer : NoFrameBetween known None bytes 0 count = λ at after before. none at after (omega (arith, before)) in
      elim costs [
        | inl k ↦ (let le = left_there count n u k.1 fewer p in without byte le (at_zero (λ (c : ℕ). (info : BlockInfo) → WantedHeader known None (drop c bytes) info → ⊥) count k.0))
        | inr k ↦ (let le = left_there count k.0 u k.1 fewer p in
            one_step (drop count bytes) k.0 n u e le (at_zero (λ (c : ℕ). HeaderCost known None (drop c bytes) budget k.0 n) count k.2) byte (none count (omega arith) (omega arith)))
      ]
    where
      without : PassesByte known (drop count bytes) u e → budget - n ≤ work_left u.wasted → ((info : BlockInfo) → WantedHeader known None (drop count bytes) info → ⊥) → budget - n ≤ work_left e.wasted
      without (inl q) le empty = left_without u e n le q.1
      without (inr (i, there, q)) le empty = absurd (empty i there)

  -- what `find_frame` finds is tried
  fits_there : (f : FoundFrame) (left : ℕ) (e : Cost) → WantedFrame known None (drop f.position bytes) f.block → NoFrameBetween known None bytes 0 f.position → IsSpent known None bytes 0 (f.position + 1 - 0) budget left → Passes known bytes f.position old e → FitsBudget e f.block
  fits_there f left e wanted none (n, costs, is) p =
      let count : f.position + 1 - 0 ≡ suc f.position = omega arith in
      elim (subst (λ (k : ℕ). HeaderCosts known None bytes 0 budget k n) count costs) [
        | inl k ↦ absurd (at_zero (λ (c : ℕ). (info : BlockInfo) → WantedHeader known None (drop c bytes) info → ⊥) f.position k.0 f.block wanted.wanted)
        | inr k ↦ (let cost = at_zero (λ (c : ℕ). HeaderCost known None (drop c bytes) budget k.0 n) f.position k.2 in
            let same = same_header known None (drop f.position bytes) cost.info f.block cost.header wanted.wanted in
            let le = left_there f.position k.0 e k.1 none p in
            let fits : FitsBudget e cost.info = omega (arith, cost.fits, le) in
            subst (FitsBudget e) same fits)
      ]

  -- and so not passed
  not_passed : (f : FoundFrame) (left count : ℕ) (new : Cost) → WantedFrame known None (drop f.position bytes) f.block → NoFrameBetween known None bytes 0 f.position → IsSpent known None bytes 0 (f.position + 1 - 0) budget left → f.position < count → Passes known bytes count old new → ⊥
  not_passed f left count new wanted none spent lt p =
      let k = passing_of known depth bytes old count f.position new lt p in
      tried_isnt_passed known depth (drop f.position bytes) k.0 k.1 f.block k.3 wanted (fits_there f left k.0 wanted none spent k.2)

  pub is_find_frames : (position : ℕ) (x : Result FindEvent Error) (new : ℕ) (after : Cost) (r : Result Search Error) (left : ℕ) → IsFindAnswer x → FindEventIs known bytes position old x new after → IsFindOf known bytes budget r left → IsFindFrames position x r
  is_find_frames position (Ok (Found place g)) new after (Ok (Frame_at f)) left i (n, before, taken, at, p, wanted, fits, begins, to, cost) h =
      let k = h.first in (
        elim (cases_lt n f.position) [
          | inl lt ↦ absurd (k.2 n (omega arith) lt g.info wanted)
          | inr le ↦ elim (cases_lt f.position n) [
            | inl lt ↦ absurd (not_passed f left n before k.1 k.2 h.spent lt p)
            | inr ge ↦ (let same : n ≡ f.position = omega (arith, le, ge) in (
              omega (arith, at, same),
              same_header known None (drop f.position bytes) g.info f.block (subst (λ (m : ℕ). WantedHeader known None (drop m bytes) g.info) same wanted.wanted) k.1.wanted,
            ))
          ]
        ],
        tt,
      )
  is_find_frames position (Ok (Found place g)) new after (Ok (No_frame undecided)) left i (n, before, taken, at, p, wanted, fits, begins, to, cost) h = absurd (h.none n (omega arith) g.info wanted)
  is_find_frames position (Ok (Found place g)) new after (Ok (OverBudget stop)) left i e h = (tt, tt)
  is_find_frames position (Ok (Found place g)) new after (Err x) left i e h = (tt, tt)
  is_find_frames position (Ok NotFound) new after (Ok (Frame_at f)) left i (p, to) h =
      let k = h.first in
      elim (cases_lt f.position (length bytes)) [
        | inl lt ↦ not_passed f left (length bytes) after k.1 k.2 h.spent lt p
        | inr le ↦ none_at_end known None bytes f.position f.block le k.1.wanted
      ]
  is_find_frames position (Ok NotFound) new after (Ok (No_frame undecided)) left i e h = tt
  is_find_frames position (Ok NotFound) new after (Ok (OverBudget stop)) left i e h = tt
  is_find_frames position (Ok NotFound) new after (Err x) left i e h = tt
  is_find_frames position (Ok (ReadOn needed)) new after r left i e h = absurd i
  is_find_frames position (Err x) new after r left i e h = absurd i
