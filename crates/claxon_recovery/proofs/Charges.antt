-- What tries are charged, and which positions are counted as unsearched.
use Rattle.std.proofs.Common.{◌≡◌, inr, ℕ, ◌+◌, ◌-◌, ◌%◌, ◌^◌, ◌<◌, Bool, true, false, List, refl, sym, ap, subst, arith, Option}
use Rattle.std.specs.Prelude.{Ok, if◌then◌else◌, IfSome}
use Rattle.claxon.specs.BlockInfos.{BlockInfo}
use Rattle.claxon.specs.ShownHead.{HasBitDepth}
use Rattle.claxon.specs.StreamInfos.{StreamInfo}
use Rattle.claxon_seek.specs.Find.{WantedHeader}
use Rattle.std.specs.Prelude.{Some, None}
use Rattle.claxon_recovery.specs.AtStart.{FrameStands, HasCause}
use Rattle.claxon_recovery.specs.Budget.{CountsUnsearched, RequestIsAnswered, unsearched_positions, wasted_work}
use Rattle.claxon_recovery.specs.Charges.{RestIsCharged, TriedIsCounted, tried_of}
use Rattle.claxon_recovery.specs.Search.{TriedIsThere}
use Rattle.claxon_recovery.specs.declared.at_start.RestHere.{RestHere}
use Rattle.claxon_recovery.specs.declared.at_start.RestHere.TheVariants.{Broken, CutFrame, Whole}
use Rattle.claxon_recovery.specs.Steps.{first_step, step_unsearched}
use Rattle.claxon_recovery.specs.declared.budget.Budget.{Budget}
use Rattle.claxon_recovery.specs.declared.budget.TheConstants.{MAX_WASTED}
use Rattle.claxon_recovery.specs.declared.part.Cause.{Cause}
use Rattle.claxon_recovery.specs.declared.part.Cause.TheVariants.{Cut, Fault, OtherFormat, TooLong}
use Rattle.claxon_recovery.specs.declared.parts.Step.{Step}
use Rattle.claxon_recovery.proofs.Beginnings.{fault_is_none, fault_of_rest, whole_is_frame}

pub same_count : (old new : ℕ) → new ≡ old → new % 2 ^ 64 ≡ (old + 0) % 2 ^ 64
same_count old new e = omega (arith, e)

pub counts_both : (n a b c : ℕ) → b % 2 ^ 64 ≡ (a + 0) % 2 ^ 64 → c % 2 ^ 64 ≡ (b + n) % 2 ^ 64 → c % 2 ^ 64 ≡ (a + n) % 2 ^ 64
counts_both n a b c h k = omega (arith, h, k)

pub rest_searched : (samples size : ℕ) (rest : RestHere) (old new : Budget) → RestIsCharged samples size rest old new → CountsUnsearched 0 old new
rest_searched samples size (Whole len decoded) old new h = same_count (unsearched_positions old) (unsearched_positions new) (ap unsearched_positions h)
rest_searched samples size (Broken len e) old new h = same_count (unsearched_positions old) (unsearched_positions new) h.unsearched
rest_searched samples size CutFrame old new h = same_count (unsearched_positions old) (unsearched_positions new) h.unsearched

-- ---- requests

pub granted : (samples : ℕ) (r : Bool) (old new : Budget) → r ≡ true → RequestIsAnswered samples r old new → CountsUnsearched 0 old new
granted samples true old new e h = same_count (unsearched_positions old) (unsearched_positions new) (ap unsearched_positions h.1)
granted samples false old new e h = absurd cc

pub over_budget : (samples : ℕ) (r : Bool) (old new : Budget) → r ≡ false → RequestIsAnswered samples r old new → (MAX_WASTED - wasted_work old < samples) × CountsUnsearched 1 old new
over_budget samples true old new e h = absurd cc
over_budget samples false old new e h = (h.0, h.2)

-- ---- a try

pub tried_counts : (rest : RestHere) (old new : Budget) → CountsUnsearched 0 old new → TriedIsCounted (tried_of rest) old new
tried_counts (Whole len decoded) old new h = h
tried_counts (Broken len e) old new h = h
tried_counts CutFrame old new h = h

pub tried_there : (info : Option StreamInfo) → IfSome info HasBitDepth → (s : List ℕ) (wasted : ℕ) (header : BlockInfo) (rest : RestHere) → WantedHeader info None s header → FrameStands info s (Ok rest) → TriedIsThere info s wasted (Ok (tried_of rest))
tried_there info depth s wasted header (Whole len block) wanted stands = whole_is_frame info s header block len wanted stands
tried_there info depth s wasted header (Broken len e) wanted stands = fault_is_none info depth e s (fault_of_rest info e s len stands)
tried_there info depth s wasted header CutFrame wanted stands = inr (inr stands)

-- ---- positions that aren't searched

-- bytes that tell the cause are searched
pub cause_is_searched : (info : Option StreamInfo) (cause : Cause) (s : List ℕ) → HasCause info cause s → step_unsearched (first_step cause) 0 ≡ 0
cause_is_searched info (Fault e) s h = refl
cause_is_searched info (OtherFormat block) s h = refl
cause_is_searched info Cut s h = absurd h
cause_is_searched info TooLong s h = absurd h

pub counts_cause : (info : Option StreamInfo) (cause : Cause) (s : List ℕ) (a b : ℕ) → HasCause info cause s → b % 2 ^ 64 ≡ (a + 0) % 2 ^ 64 → b % 2 ^ 64 ≡ (a + step_unsearched (first_step cause) 0) % 2 ^ 64
counts_cause info cause s a b h counts = subst (λ (n : ℕ). b % 2 ^ 64 ≡ (a + n) % 2 ^ 64) (sym (cause_is_searched info cause s h)) counts

pub more_unsearched : (step : Step) (n : ℕ) → step_unsearched step n ≡ n + step_unsearched step 0
more_unsearched step n = go step.passes_next
  where
    go : (b : Bool) → (if b then n + 1 else n) ≡ n + (if b then 0 + 1 else 0)
    go true = omega arith
    go false = omega arith

pub first_counted : (old new passed taken first : ℕ) → new ≡ old → passed ≡ taken % 2 ^ 64 → taken ≡ first → (new + first) % 2 ^ 64 ≡ (old + passed) % 2 ^ 64
first_counted old new passed taken first e p t = omega (arith, e, p, t)

pub next_counted : (old a b c passed after n m more first : ℕ) → (a + first) % 2 ^ 64 ≡ (old + passed) % 2 ^ 64 → passed ≡ n % 2 ^ 64 → after ≡ m % 2 ^ 64 → m ≡ n + more → b % 2 ^ 64 ≡ (a + more) % 2 ^ 64 → c ≡ b → (c + first) % 2 ^ 64 ≡ (old + after) % 2 ^ 64
next_counted old a b c passed after n m more first h p q e s t = omega (arith, h, p, q, e, s, t)

pub damage_counts : (old mid new first unsearched : ℕ) → mid % 2 ^ 64 ≡ (old + first) % 2 ^ 64 → (new + first) % 2 ^ 64 ≡ (mid + unsearched) % 2 ^ 64 → new % 2 ^ 64 ≡ (old + unsearched) % 2 ^ 64
damage_counts old mid new first unsearched h k = omega (arith, h, k)
