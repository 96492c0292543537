-- Damage, one step after another.
use Rattle.std.proofs.Common.{◌≡◌, ◌⊎◌, inl, inr, ℕ, ◌+◌, ◌%◌, ◌^◌, ◌≤◌, false, List, [], ◌++◌, length, drop, take, refl, sym, ap, subst, ◌∙◌, append_assoc, append-nil, arith, length-append}
use Rattle.std.specs.Prelude.{Ok, Err, IsTrue, Option, IfSome}
use Rattle.std.proofs.lemmas.List.{drop_at, length-take-le, take-append-drop}
use Rattle.claxon.specs.Errors.{Error}
use Rattle.claxon.specs.Error.{is_out_of_memory}
use Rattle.claxon.specs.Errors.TheVariants.{FormatError, IoError, OutOfMemory, Unsupported}
use Rattle.claxon.specs.Promises.{IsOutOfMemory}
use Rattle.claxon.specs.ShownHead.{HasBitDepth}
use Rattle.claxon.specs.Source.{Source}
use Rattle.claxon.specs.StreamInfos.{StreamInfo}
use Rattle.claxon_recovery.specs.AtStart.{BeginsWithStreamFrame}
use Rattle.claxon_recovery.specs.Parts.{DamageGives, IsCause, IsStep, NoFrames, PartFails, PartStops, PassesBytes, SourceIsKnown, Stays, TakesStep, parts_known, parts_pending, parts_position, parts_source, unread}
use Rattle.claxon_recovery.specs.Passed.{IsOfBytes}
use Rattle.claxon_recovery.specs.Steps.{first_step, step_count, step_unsearched}
use Rattle.claxon_recovery.specs.Window.{Reads, bytes_left}
use Rattle.claxon_recovery.specs.declared.part.Cause.{Cause}
use Rattle.claxon_recovery.specs.declared.parts.Parts.{Parts}
use Rattle.claxon_recovery.specs.declared.parts.Step.{Step}
use Rattle.claxon_recovery.specs.declared.passed.Passed.{Passed}
use Rattle.claxon_recovery.proofs.Positions.{cause_is_none, one_first, step_taken}
use Rattle.claxon_recovery.proofs.Reading.{fails_after, reads_both, reads_none}

-- an error that isn't `OutOfMemory`
pub not_memory : {A : Type 0} (e : Error) → is_out_of_memory e ≡ false → IsOutOfMemory {A = A} (Err e) → ⊥
not_memory (IoError cause) h m = cc
not_memory (FormatError text) h m = cc
not_memory (Unsupported text) h m = cc
not_memory OutOfMemory h m = cc

module _ {R : Type 0} (source : R → Source ℕ) where
  abbrev known_of : Parts R → Type 0
  known_of p = SourceIsKnown source p

  -- ---- what remains, after calls

  pub stays_unread : (a b : Parts R) → Stays source a b → known_of a → unread source a ≡ unread source b
  stays_unread a b h known =
      let left = (h.reads.known known).left in
      let after = bytes_left (source (parts_source b)) in
      ap (λ (l : List ℕ). parts_pending a ++ l) left ∙ sym (append_assoc (parts_pending a) h.more after) ∙ sym (ap (λ (l : List ℕ). l ++ after) h.held)

  pub passed_unread : (count : ℕ) (a b : Parts R) → PassesBytes count a b → count ≤ length (parts_pending a) → unread source a ≡ take count (parts_pending a) ++ unread source b
  passed_unread count a b h within =
      let left = bytes_left (source (parts_source a)) in
      let e : parts_pending a ≡ take count (parts_pending a) ++ parts_pending b = sym (take-append-drop count (parts_pending a)) ∙ ap (λ (l : List ℕ). take count (parts_pending a) ++ l) (sym h.pending_is) in
      ap (λ (l : List ℕ). l ++ left) e ∙ append_assoc (take count (parts_pending a)) (parts_pending b) left
      ∙ ap (λ (r : R). take count (parts_pending a) ++ (parts_pending b ++ bytes_left (source r))) (sym h.source_is)

  pub passed_reads : (count : ℕ) (a b c : Parts R) (more : List ℕ) → Reads (source (parts_source a)) (source (parts_source b)) more → PassesBytes count b c → Reads (source (parts_source a)) (source (parts_source c)) more
  passed_reads count a b c more h k = subst (λ (r : R). Reads (source (parts_source a)) (source r) more) (sym k.source_is) h

  -- ---- the damage so far

  -- It is known what remains, and no frame begins there for this cause.
  abbrev pub Told : Cause → Parts R → Type 0
  Told cause p = SourceIsKnown source p × IsCause (parts_known p) cause (unread source p)

  -- These bytes were passed, at so many positions unsearched.
  pub record SoFar (cause : Cause) (old now : Parts R) (passed : Passed) (front : List ℕ) (unsearched : ℕ) : Type 0 where
    pub more : List ℕ
    pub reads : Reads (source (parts_source old)) (source (parts_source now)) more
    pub position_is : parts_position now % 2 ^ 64 ≡ (parts_position old + length front) % 2 ^ 64
    pub known_is : parts_known now ≡ parts_known old
    pub kept : IsOfBytes front unsearched passed
    pub joined : known_of old → unread source old ≡ front ++ unread source now
    pub none : Told cause old → NoFrames (parts_known old) (unread source old) (length front) unsearched

  -- They are more than so many.
  pub record Passes (cause : Cause) (old now : Parts R) (passed : Passed) (count : ℕ) : Type 0 where
    pub front : List ℕ
    pub unsearched : ℕ
    pub so_far : SoFar cause old now passed front unsearched
    pub long : count + 1 ≤ length front

  module _ (cause : Cause) (old : Parts R) where
    pub none_passed : (passed : Passed) → IsOfBytes [] 0 passed → SoFar cause old old passed [] 0
    none_passed passed kept = record {
      more = [];
      reads = reads_none (source (parts_source old));
      position_is = omega arith;
      known_is = refl;
      kept = kept;
      joined = λ known. refl;
      none = λ known. refl;
    }

    pub no_more : Stays source old old
    no_more = record { more = []; held = sym (append-nil (parts_pending old)); reads = reads_none (source (parts_source old)); position_is = refl }

    -- a step more
    module _ (a b c : Parts R) (passed after : Passed) (front : List ℕ) (unsearched : ℕ) (step : Step) where
      position_of : (k at n pa pb pc m : ℕ) → m ≡ n + k → pb ≡ pa → pa % 2 ^ 64 ≡ (at + n) % 2 ^ 64 → pc ≡ (pb + k) % 2 ^ 64 → pc % 2 ^ 64 ≡ (at + m) % 2 ^ 64
      position_of k at n pa pb pc m whole same e f = omega (arith, whole, same, e, f)

      pub stepped : SoFar cause old a passed front unsearched → Stays source a b → step_count step ≤ length (parts_pending b) → (Told cause old → IsStep (parts_known a) (unread source b) step) → PassesBytes (step_count step) b c → parts_known c ≡ parts_known a → TakesStep (take (step_count step) (parts_pending b)) step passed after
          → SoFar cause old c after (front ++ take (step_count step) (parts_pending b)) (step_unsearched step unsearched)
      stepped h stays within is passes same takes =
          let k = step_count step in
          let t = take k (parts_pending b) in
          let size : length t ≡ k = length-take-le k (parts_pending b) within in
          let whole : length (front ++ t) ≡ length front + k = length-append front t ∙ ap (λ (n : ℕ). length front + n) size in
          record {
            more = h.more ++ stays.more;
            reads = passed_reads k old b c (h.more ++ stays.more) (reads_both h.reads stays.reads) passes;
            position_is = position_of k (parts_position old) (length front) (parts_position a) (parts_position b) (parts_position c) (length (front ++ t)) whole stays.position_is h.position_is passes.position_is;
            known_is = same ∙ h.known_is;
            kept = takes front unsearched h.kept;
            joined = λ known. h.joined known ∙ ap (λ (l : List ℕ). front ++ l) (stays_unread a b stays (h.reads.known known).known ∙ passed_unread k b c passes within) ∙ sym (append_assoc front t (unread source c));
            none = λ told.
                let ka = (h.reads.known told.0).known in
                let rest : drop (length front) (unread source old) ≡ unread source b = ap (drop (length front)) (h.joined told.0) ∙ drop_at front (unread source a) (length front) refl ∙ stays_unread a b stays ka in
                let there = subst (λ (s : List ℕ). IsStep (parts_known old) s step) (sym rest) (subst (λ (i : Option StreamInfo). IsStep i (unread source b) step) h.known_is (is told)) in
                subst (λ (n : ℕ). NoFrames (parts_known old) (unread source old) n (step_unsearched step unsearched)) (sym whole) (step_taken (parts_known old) (unread source old) (length front) unsearched step (h.none told) there);
          }

      -- the frame or the end after it
      pub next_after : Stays source a b → step_count step ≤ length (parts_pending b) → (known_of a → IsStep (parts_known a) (unread source b) step) → PassesBytes (step_count step) b c → IsTrue step.is_last → known_of a → (unread source c ≡ []) ⊎ BeginsWithStreamFrame (parts_known a) (unread source c)
      next_after stays within is passes last known =
          let k = step_count step in
          let t = take k (parts_pending b) in
          let size : length t ≡ k = length-take-le k (parts_pending b) within in
          let e : drop k (unread source b) ≡ unread source c = ap (drop k) (passed_unread k b c passes within) ∙ drop_at t (unread source c) k size in
          elim ((is known).last last) [
            | inl none ↦ inl (sym e ∙ none)
            | inr frame ↦ inr (subst (BeginsWithStreamFrame (parts_known a)) e frame)
          ]

    -- the first step
    module _ (c : Parts R) (passed after : Passed) (step : Step) (is : step ≡ first_step cause) (some : 1 ≤ length (parts_pending old)) where
      one : step_count step ≡ 1
      one = ap step_count is ∙ one_first (parts_known old) cause

      pub within_first : step_count step ≤ length (parts_pending old)
      within_first = omega (arith, one, some)

      pub first_passed : IfSome (parts_known old) HasBitDepth → IsOfBytes [] 0 passed → PassesBytes (step_count step) old c → parts_known c ≡ parts_known old → TakesStep (take (step_count step) (parts_pending old)) step passed after → Passes cause old c after 0
      first_passed depth kept passes same takes = record {
        front = take (step_count step) (parts_pending old);
        unsearched = step_unsearched step 0;
        so_far = stepped old old c passed after [] 0 step (none_passed passed kept) no_more within_first (λ told. subst (IsStep (parts_known old) (unread source old)) (sym is) (cause_is_none (parts_known old) depth cause (unread source old) told.1)) passes same takes;
        long = (let n = length-take-le (step_count step) (parts_pending old) within_first in omega (arith, n, one));
      }

    -- one step more
    module _ (a b c : Parts R) (passed after : Passed) (n : ℕ) (step : Step) (h : Passes cause old a passed n) (stays : Stays source a b) (within : step_count step ≤ length (parts_pending b))
        (is : known_of a → IsStep (parts_known a) (unread source b) step) (passes : PassesBytes (step_count step) b c) (same : parts_known c ≡ parts_known a) (takes : TakesStep (take (step_count step) (parts_pending b)) step passed after) where
      abbrev more : List ℕ
      more = take (step_count step) (parts_pending b)

      long_more : length (h.front ++ more) ≡ length h.front + step_count step
      long_more = length-append h.front more ∙ ap (λ (k : ℕ). length h.front + k) (length-take-le (step_count step) (parts_pending b) within)

      so_far_then : SoFar cause old c after (h.front ++ more) (step_unsearched step h.unsearched)
      so_far_then = stepped a b c passed after h.front h.unsearched step h.so_far stays within (λ told. is (h.so_far.reads.known told.0).known) passes same takes

      pub next_passed : 1 ≤ step_count step → Passes cause old c after (n + 1)
      next_passed some = record { front = h.front ++ more; unsearched = step_unsearched step h.unsearched; so_far = so_far_then; long = (let k = h.long in let l = long_more in omega (arith, k, l, some)) }

      -- the damage is over
      pub damage_is : IsTrue step.is_last
          → DamageGives source old c cause (Ok (record { start = parts_position old; end = parts_position c; cause = cause; unsearched = after.unsearched; first = after.first; are_zeros = after.are_zeros }))
      damage_is last =
          let f = so_far_then in (
            record {
              more = f.more;
              reads = f.reads;
              is = λ known is_cause. record {
                bytes = h.front ++ more;
                joined = f.joined known;
                some = (let k = h.long in let l = long_more in omega (arith, k, l));
                cause = is_cause;
                unsearched = step_unsearched step h.unsearched;
                none = f.none (known, is_cause);
                next = subst (λ (i : Option StreamInfo). (unread source c ≡ []) ⊎ BeginsWithStreamFrame i (unread source c)) h.so_far.known_is (next_after a b c passed after h.front h.unsearched step stays within is passes last (h.so_far.reads.known known).known);
                start_is = refl;
                end_is = (let e = f.position_is in let p = passes.position_is in omega (arith, e, p));
                unsearched_is = f.kept.count;
                first = f.kept.first;
                zeros = f.kept.zeros;
              };
            },
            refl,
          )

    module _ (a : Parts R) (passed : Passed) (n : ℕ) (h : Passes cause old a passed n) where
      pub too_long : 2 ^ 64 ≤ n + 1 → (e : Error) → PartStops source old a e
      too_long long e = inr (inr (λ known. (let k = ap length (h.so_far.joined known) in let l = h.long in omega (arith, long, k, l, length-append h.front (unread source a)))))

      -- a search stops
      pub stops_later : (b : Parts R) (e : Error) → ((e ≡ OutOfMemory) ⊎ PartFails source a b e) → PartStops source old b e
      stops_later b e (inl m) = inl m
      stops_later b e (inr f) = inr (inl (record { is_io = f.is_io; fails = fails_after h.so_far.reads f.fails }))
