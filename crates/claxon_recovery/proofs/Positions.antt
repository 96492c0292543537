-- Positions at which no frame begins.
use Rattle.std.proofs.Common.{◌≡◌, inl, inr, ℕ, zero, suc, ◌+◌, ◌<◌, ◌≤◌, Bool, true, false, List, [], ◌++◌, length, drop, Some, None, refl, sym, ap, subst, ◌∙◌, append-nil, arith, length-append}
use Rattle.std.specs.Prelude.{IsTrue, if◌then◌else◌, Option, IfSome}
use Rattle.std.proofs.lemmas.Bool.{cases_lt}
use Rattle.std.proofs.lemmas.List.{drop-append-le, drop-drop, drop_all, length-drop}
use Rattle.claxon.specs.ShownHead.{HasBitDepth}
use Rattle.claxon.specs.StreamInfos.{StreamInfo}
use Rattle.claxon_recovery.specs.AtStart.{BeginsWithStreamFrame, EndsEarly, NoFrameWhateverFollows}
use Rattle.claxon_recovery.specs.Parts.{IsCause, IsStep, MayBePassed, NoFrames}
use Rattle.claxon_recovery.specs.Kept.{most_kept}
use Rattle.claxon_recovery.specs.Steps.{first_step, step_count, step_unsearched}
use Rattle.claxon_recovery.specs.Search.{BeginsWithStreamHeader, NoneBefore}
use Rattle.claxon_recovery.specs.declared.part.Cause.{Cause}
use Rattle.claxon_recovery.specs.declared.part.Cause.TheVariants.{Cut, Fault, OtherFormat, TooLong}
use Rattle.claxon_recovery.specs.declared.parts.Step.{Step}
use Rattle.claxon_seek.proofs.Searches.{header_longer}
use Rattle.claxon_recovery.proofs.Beginnings.{early_is_none, fault_is_none, frame_longer, other_is_none}

module _ (info : Option StreamInfo) where
  -- ---- a search

  pub none_so_far : (bytes : List ℕ) → NoneBefore info bytes 0
  none_so_far bytes at before = absurd (omega (arith, before))

  pub one_more : (bytes : List ℕ) (to : ℕ) → NoneBefore info bytes to → NoFrameWhateverFollows info (drop to bytes) → NoneBefore info bytes (to + 1)
  one_more bytes to none here at before = elim (cases_lt at to) [
    | inl lt ↦ none at lt
    | inr le ↦ (let same : to ≡ at = omega (arith, le, before) in subst (λ (n : ℕ). NoFrameWhateverFollows info (drop n bytes)) same here)
  ]

  pub ends_at_end : (bytes : List ℕ) → EndsEarly info (drop (length bytes) bytes)
  ends_at_end bytes = let n = length-drop (length bytes) bytes in inl (omega (arith, n))

  -- ---- what follows in the source

  module _ (bytes left : List ℕ) where
    abbrev all : List ℕ
    all = bytes ++ left

    rest_of : (at : ℕ) → at ≤ length bytes → drop at all ≡ drop at bytes ++ left
    rest_of at le = drop-append-le at bytes left le

    pub none_below : (to : ℕ) → to ≤ length bytes → NoneBefore info bytes to → (at : ℕ) → at < to → BeginsWithStreamFrame info (drop at all) → ⊥
    none_below to within none at before frame = none at before left (subst (BeginsWithStreamFrame info) (rest_of at (omega (arith, before, within))) frame)

    -- a frame begins there
    pub step_to_frame : (to : ℕ) → NoneBefore info bytes to → to ≤ length bytes → BeginsWithStreamFrame info (drop to bytes) → IsStep info all (record { searched = to; passes_next = false; is_last = true })
    step_to_frame to none within frame = record {
      none = none_below to within none;
      passed = λ is. absurd cc;
      last = λ is. inr (subst (BeginsWithStreamFrame info) (sym (rest_of to within)) (frame_longer info (drop to bytes) left frame));
    }

    -- the one that is passed unsearched
    module _ (to : ℕ) (none : NoneBefore info bytes to) (within : to ≤ length bytes) where
      passing : MayBePassed info (drop to bytes ++ left) → IsStep info all (record { searched = to; passes_next = true; is_last = false })
      passing may = record {
        none = none_below to within none;
        passed = λ is. subst (MayBePassed info) (sym (rest_of to within)) may;
        last = λ is. absurd cc;
      }

      pub step_over_header : BeginsWithStreamHeader info (drop to bytes) → IsStep info all (record { searched = to; passes_next = true; is_last = false })
      step_over_header header = passing (inl (header.0, header_longer info None (drop to bytes) left header.0 header.1))

      pub step_over_long : EndsEarly info (drop to bytes) → most_kept info ≤ length (drop to bytes) → IsStep info all (record { searched = to; passes_next = true; is_last = false })
      step_over_long ends long = passing (inr (record { front = drop to bytes; rest = left; joined = refl; long = long; ends = ends }))

      -- up to one of which more bytes have to be read
      pub step_up_to : IsStep info all (record { searched = to; passes_next = false; is_last = false })
      step_up_to = record {
        none = none_below to within none;
        passed = λ is. absurd cc;
        last = λ is. absurd cc;
      }

      -- past one at which none begins, as nothing follows
      pub step_past : left ≡ [] → EndsEarly info (drop to bytes) → IsStep info all (record { searched = to + 1; passes_next = false; is_last = false })
      step_past end ends = record {
        none = λ at before frame. elim (cases_lt at to) [
          | inl lt ↦ none_below to within none at lt frame
          | inr le ↦ (
              let same : at ≡ to = omega (arith, le, before) in
              let e : drop to all ≡ drop to bytes = rest_of to within ∙ ap (λ (l : List ℕ). drop to bytes ++ l) end ∙ append-nil (drop to bytes) in
              early_is_none info (drop to bytes) ends (subst (BeginsWithStreamFrame info) e (subst (λ (n : ℕ). BeginsWithStreamFrame info (drop n all)) same frame))
              )
        ];
        passed = λ is. absurd cc;
        last = λ is. absurd cc;
      }

    -- to the end
    pub step_to_end : left ≡ [] → NoneBefore info bytes (length bytes) → IsStep info all (record { searched = length bytes; passes_next = false; is_last = true })
    step_to_end end none = record {
      none = none_below (length bytes) (omega arith) none;
      passed = λ is. absurd cc;
      last = λ is. inl (drop_all (length bytes) all (omega (arith, length-append bytes left, ap length end)));
    }

  -- ---- positions that were passed

  pub more_none : (s : List ℕ) (n k unsearched : ℕ) → NoFrames info s n unsearched → ((at : ℕ) → at < k → BeginsWithStreamFrame info (drop at (drop n s)) → ⊥) → NoFrames info s (n + k) unsearched
  more_none s n zero unsearched h none = let e : n ≡ n + 0 = omega arith in subst (λ (m : ℕ). NoFrames info s m unsearched) e h
  more_none s n (suc k) unsearched h none =
      let e : suc (n + k) ≡ n + suc k = omega arith in
      let here : BeginsWithStreamFrame info (drop (n + k) s) → ⊥ = λ frame. none k (omega arith) (subst (BeginsWithStreamFrame info) (sym (drop-drop k n s)) frame) in
      subst (λ (m : ℕ). NoFrames info s m unsearched) e (inl (here, more_none s n k unsearched h (λ at before. none at (omega (arith, before)))))

  pub one_passed : (s : List ℕ) (n unsearched : ℕ) → NoFrames info s n unsearched → MayBePassed info (drop n s) → NoFrames info s (n + 1) (unsearched + 1)
  one_passed s n unsearched h may = let e : suc n ≡ n + 1 = omega arith in subst (λ (m : ℕ). NoFrames info s m (unsearched + 1)) e (inr (unsearched, refl, may, h))

  -- a step after them
  pub step_taken : (s : List ℕ) (n unsearched : ℕ) (step : Step) → NoFrames info s n unsearched → IsStep info (drop n s) step → NoFrames info s (n + step_count step) (step_unsearched step unsearched)
  step_taken s n unsearched step h is = go step.passes_next (λ e. is.passed e)
    where
      go : (b : Bool) → (IsTrue b → MayBePassed info (drop step.searched (drop n s))) → NoFrames info s (n + (if b then step.searched + 1 else step.searched)) (if b then unsearched + 1 else unsearched)
      go false may = more_none s n step.searched unsearched h is.none
      go true may =
          let e : (n + step.searched) + 1 ≡ n + (step.searched + 1) = omega arith in
          let there = subst (MayBePassed info) (drop-drop step.searched n s) (may refl) in
          subst (λ (m : ℕ). NoFrames info s m (unsearched + 1)) e (one_passed s (n + step.searched) unsearched (more_none s n step.searched unsearched h is.none) there)

  -- ---- the first step

  pub one_first : (cause : Cause) → step_count (first_step cause) ≡ 1
  one_first (Fault e) = refl
  one_first (OtherFormat block) = refl
  one_first Cut = refl
  one_first TooLong = refl

  pub cause_is_none : IfSome info HasBitDepth → (cause : Cause) (s : List ℕ) → IsCause info cause s → IsStep info s (first_step cause)
  cause_is_none depth cause s is = go cause is
    where
      one : (BeginsWithStreamFrame info s → ⊥) → IsStep info s (record { searched = 1; passes_next = false; is_last = false })
      one none = record {
        none = λ at before frame. (let e : at ≡ 0 = omega (arith, before) in none (subst (λ (n : ℕ). BeginsWithStreamFrame info (drop n s)) e frame));
        passed = λ is. absurd cc;
        last = λ is. absurd cc;
      }

      whatever : NoFrameWhateverFollows info s → BeginsWithStreamFrame info s → ⊥
      whatever none frame = none [] (frame_longer info s [] frame)

      go : (cause : Cause) → IsCause info cause s → IsStep info s (first_step cause)
      go (Fault e) is = one (whatever (fault_is_none info depth e s is))
      go (OtherFormat block) is = one (whatever (other_is_none info block s is))
      go Cut is = one (early_is_none info s is)
      go TooLong is = record {
        none = λ at before. absurd (omega (arith, before));
        passed = λ p. inr is;
        last = λ p. absurd cc;
      }
