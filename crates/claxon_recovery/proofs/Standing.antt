-- What stands at a position, while more bytes are read.
use Rattle.std.proofs.Common.{◌≡◌, ℕ, ◌+◌, ◌≤◌, Bool, true, false, List, [], ◌++◌, length, drop, refl, sym, ap, subst, ◌∙◌, append_assoc, append-nil, arith}
use Rattle.std.proofs.lemmas.List.{length-drop}
use Rattle.claxon.specs.Source.{Source}
use Rattle.claxon.specs.StreamInfos.{StreamInfo}
use Rattle.std.specs.Prelude.{Ok, Option}
use Rattle.claxon_recovery.specs.AtStart.{AnswerIsThere, EndsEarly, HasCause}
use Rattle.claxon_recovery.specs.declared.at_start.Answer.{Answer}
use Rattle.claxon_recovery.specs.declared.search.Next.{Next}
use Rattle.claxon_recovery.specs.Kept.{most_kept}
use Rattle.claxon_recovery.specs.Parts.{IsCause, IsStep, SourceIsKnown, Stays, parts_pending, parts_position, parts_source, unread}
use Rattle.claxon_recovery.specs.Search.{NextIsThere, NoneBefore}
use Rattle.claxon_recovery.specs.Window.{FillIs, NothingIsLeft, ReadsOn, bytes_left, pending, window_source}
use Rattle.claxon_recovery.specs.declared.part.Cause.{Cause}
use Rattle.claxon_recovery.specs.declared.part.Cause.TheVariants.{Cut, Fault, OtherFormat, TooLong}
use Rattle.claxon_recovery.specs.declared.parts.Parts.{Parts}
use Rattle.claxon_recovery.specs.declared.window.Window.{Window}
use Rattle.claxon_recovery.proofs.Beginnings.{fault_longer, other_longer}
use Rattle.claxon_recovery.proofs.Kept.{least_kept}
use Rattle.claxon_recovery.proofs.Positions.{step_over_long, step_past, step_to_end}
use Rattle.claxon_recovery.proofs.Reading.{reads_both, reads_none}

-- ---- answers about the same bytes

pub same_next : {i j : Option StreamInfo} {xs ys : List ℕ} {r q : Next} → i ≡ j → xs ≡ ys → r ≡ q → NextIsThere i xs (Ok r) → NextIsThere j ys (Ok q)
same_next {i} {j} {xs} {ys} {r} {q} e f h there =
    subst (λ (x : Next). NextIsThere j ys (Ok x)) h (subst (λ (s : List ℕ). NextIsThere j s (Ok r)) f (subst (λ (k : Option StreamInfo). NextIsThere k xs (Ok r)) e there))

pub same_answer : {i j : Option StreamInfo} {xs ys : List ℕ} {r q : Answer} → i ≡ j → xs ≡ ys → r ≡ q → AnswerIsThere i xs (Ok r) → AnswerIsThere j ys (Ok q)
same_answer {i} {j} {xs} {ys} {r} {q} e f h there =
    subst (λ (x : Answer). AnswerIsThere j ys (Ok x)) h (subst (λ (s : List ℕ). AnswerIsThere j s (Ok r)) f (subst (λ (k : Option StreamInfo). AnswerIsThere k xs (Ok r)) e there))

-- ---- causes

pub cause_longer : (info : Option StreamInfo) (cause : Cause) (s more : List ℕ) → HasCause info cause s → IsCause info cause (s ++ more)
cause_longer info (Fault e) s more h = fault_longer info e s more h
cause_longer info (OtherFormat block) s more h = other_longer info block s more h
cause_longer info Cut s more h = absurd h
cause_longer info TooLong s more h = absurd h

module _ {R : Type 0} (source : R → Source ℕ) where
  -- ---- bytes that are read

  pub fill_reads : (wanted : ℕ) (a b : Window R) (full : Bool) → FillIs source wanted a b full → ReadsOn source a b
  fill_reads wanted a b true h = h.0
  fill_reads wanted a b false h = h.0

  pub filled : (wanted : ℕ) (a b : Window R) (full : Bool) → FillIs source wanted a b full → full ≡ true → wanted ≤ length (pending b)
  filled wanted a b true h e = h.1
  filled wanted a b false h e = absurd cc

  not_filled : (wanted : ℕ) (a b : Window R) (full : Bool) → FillIs source wanted a b full → full ≡ false → NothingIsLeft (source (window_source a)) (source (window_source b))
  not_filled wanted a b true h e = absurd cc
  not_filled wanted a b false h e = h.1

  empty_is_end : (wanted : ℕ) (a b : Window R) (full : Bool) → FillIs source wanted a b full → 1 ≤ wanted → pending b ≡ [] → NothingIsLeft (source (window_source a)) (source (window_source b))
  empty_is_end wanted a b true h some none = absurd (let n = ap length none in omega (arith, h.1, some, n))
  empty_is_end wanted a b false h some none = h.1

  pub stays_none : (p : Parts R) → Stays source p p
  stays_none p = record { more = []; held = sym (append-nil (parts_pending p)); reads = reads_none (source (parts_source p)); position_is = refl }

  -- the window of b, after that of a
  module _ (old a b : Parts R) (stays : Stays source old a) (wanted : ℕ) (full : Bool) (fill : FillIs source wanted a.window b.window full) where
    pub stays_more : parts_position b ≡ parts_position a → Stays source old b
    stays_more same =
        let h = fill_reads wanted a.window b.window full fill in
        record {
          more = stays.more ++ h.more;
          held = h.held ∙ ap (λ (l : List ℕ). l ++ h.more) stays.held ∙ append_assoc (parts_pending old) stays.more h.more;
          reads = reads_both stays.reads h.reads;
          position_is = same ∙ stays.position_is;
        }

    known_then : SourceIsKnown source old → SourceIsKnown source a
    known_then known = (stays.reads.known known).known

    pub end_here : 1 ≤ wanted → parts_pending b ≡ [] → NothingIsLeft (source (parts_source old)) (source (parts_source b))
    end_here some none known = empty_is_end wanted a.window b.window full fill some none (known_then known)

    nothing_left : full ≡ false → SourceIsKnown source old → bytes_left (source (parts_source b)) ≡ []
    nothing_left e known = not_filled wanted a.window b.window full fill e (known_then known)

    module _ (info : Option StreamInfo) where
      pub cut_here : full ≡ false → EndsEarly info (parts_pending b) → SourceIsKnown source old → IsCause info Cut (unread source b)
      cut_here e ends known = subst (EndsEarly info) (sym (append-nil (parts_pending b)) ∙ ap (λ (l : List ℕ). parts_pending b ++ l) (sym (nothing_left e known))) ends

      pub long_here : full ≡ true → wanted ≡ most_kept info → EndsEarly info (parts_pending b) → IsCause info TooLong (unread source b)
      long_here e most ends = record { front = parts_pending b; rest = bytes_left (source (parts_source b)); joined = refl; long = (let n = filled wanted a.window b.window full fill e in omega (arith, n, most)); ends = ends }

      -- ---- steps

      pub end_step : (to : ℕ) → full ≡ false → to ≡ length (parts_pending b) → NoneBefore info (parts_pending b) to → SourceIsKnown source old → IsStep info (unread source b) (record { searched = to; passes_next = false; is_last = true })
      end_step to e all none known =
          let bytes = parts_pending b in
          subst (λ (n : ℕ). IsStep info (unread source b) (record { searched = n; passes_next = false; is_last = true })) (sym all)
          (step_to_end info bytes (bytes_left (source (parts_source b))) (nothing_left e known) (subst (NoneBefore info bytes) all none))

      pub past_step : (to : ℕ) → full ≡ false → NoneBefore info (parts_pending b) to → to ≤ length (parts_pending b) → EndsEarly info (drop to (parts_pending b)) → SourceIsKnown source old → IsStep info (unread source b) (record { searched = to + 1; passes_next = false; is_last = false })
      past_step to e none within ends known = step_past info (parts_pending b) (bytes_left (source (parts_source b))) to none within (nothing_left e known) ends

      pub long_step : (to : ℕ) → full ≡ true → wanted ≡ most_kept info → to ≡ 0 → NoneBefore info (parts_pending b) to → to ≤ length (parts_pending b) → EndsEarly info (drop to (parts_pending b)) → IsStep info (unread source b) (record { searched = to; passes_next = true; is_last = false })
      long_step to e most zero none within ends =
          let n = filled wanted a.window b.window full fill e in
          step_over_long info (parts_pending b) (bytes_left (source (parts_source b))) to none within ends (let l = length-drop to (parts_pending b) in omega (arith, l, n, most, zero))

      pub long_count : (to : ℕ) → full ≡ true → wanted ≡ most_kept info → to ≡ 0 → to + 1 ≤ length (parts_pending b)
      long_count to e most zero = let n = filled wanted a.window b.window full fill e in let some = least_kept info in omega (arith, n, most, zero, some)
