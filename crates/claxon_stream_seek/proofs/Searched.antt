-- The bytes that a search has passed in one call.
use Rattle.std.proofs.Common.{◌≡◌, ℕ, ◌+◌, ◌-◌, ◌≤◌, Bool, true, false, List, length, drop, Option, refl, sym, ap, subst, ◌∙◌, length-append, arith}
use Rattle.std.specs.Prelude.{Ok, if◌then◌else◌}
use Rattle.std.proofs.lemmas.List.{length-drop}
use Rattle.claxon.specs.StreamInfos.{StreamInfo}
use Rattle.claxon_stream.specs.Held.{StandsIn, ends_there, held_from}
use Rattle.claxon_stream.proofs.HeldBytes.{held_stands}
use Rattle.claxon_stream.proofs.SearchAnswers.{none_at_end}
use Rattle.claxon_stream_seek.specs.Search.{FoundIsHeld, HasPassed, SearchFindsHeld, SearchNeedsMore, end_answer, read_on, search_cost}
use Rattle.claxon_stream_seek.specs.Sought.{Passes, PassesAll, SeekEventIs}
use Rattle.claxon_stream_seek.specs.declared.event.SeekEvent.{SeekEvent}
use Rattle.claxon_stream_seek.specs.declared.event.SeekEvent.TheVariants.{NotFound, OverBudget}
use Rattle.claxon_stream_seek.specs.declared.search.ByteSearch.{ByteSearch}
use Rattle.claxon_stream_seek.specs.declared.sought.Sought.{Sought}

-- what is passed from one position on, up to another
pub record IsSearched (at : ℕ) (bytes : List ℕ) (is_end : Bool) (known : Option StreamInfo) (old now : ByteSearch) (from end : ℕ) : Type 0 where
  pub begins : from ≡ old.position
  pub ends : end ≡ from + length (held_from at from bytes)
  pub same : now.sought ≡ old.sought
  pub start : from ≤ now.position
  pub within : now.position ≤ end
  pub passed : (stream : List ℕ) → StandsIn stream at bytes is_end → HasPassed known stream old → HasPassed known stream now

module _ (at : ℕ) (bytes : List ℕ) (is_end : Bool) (known : Option StreamInfo) (old now : ByteSearch) (from end : ℕ) (s : IsSearched at bytes is_end known old now from end) (last : end ≤ now.position) where
  none_held : length (held_from at now.position bytes) ≡ 0
  none_held =
      let here : now.position ≡ from + length (held_from at from bytes) = omega (arith, s.within, last, s.ends) in
      ap (λ (p : ℕ). length (held_from at p bytes)) here ∙ none_at_end at from bytes is_end

  -- at the end of the stream all is passed
  all_passed : ends_there at now.position is_end ≡ true → (stream : List ℕ) → StandsIn stream at bytes is_end → HasPassed known stream now → PassesAll known now.sought stream now.has_passed_over
  all_passed over stream stands h =
      let k = held_stands stream at now.position bytes is_end stands in
      let rest : length (drop now.position stream) ≡ length (held_from at now.position bytes) + length k.0 = ap length k.1 ∙ length-append (held_from at now.position bytes) k.0 in
      let none : length k.0 ≡ 0 = ap length (k.2 over) in
      let first = now.sought.first_frame in
      let count : now.position - first ≡ length (drop first stream) =
      omega (arith, h.start, h.inside, length-drop first stream, length-drop now.position stream, rest, none, none_held) in
      (search_cost now, subst (λ (n : ℕ). Passes known now.sought stream n (search_cost now)) count h.passes, refl)

  end_by : (ends over : Bool) → ends_there at now.position is_end ≡ ends → now.has_passed_over ≡ over → (stream : List ℕ) → StandsIn stream at bytes is_end → HasPassed known stream now
      → SeekEventIs known now.sought stream (Ok (if ends then (if over then OverBudget else NotFound) else read_on now.position 0))
  end_by true true e f stream stands h = subst (λ (b : Bool). PassesAll known now.sought stream b) f (all_passed e stream stands h)
  end_by true false e f stream stands h = subst (λ (b : Bool). PassesAll known now.sought stream b) f (all_passed e stream stands h)
  end_by false over e f stream stands h = tt

  pub end_of_stream : (answer : SeekEvent) → answer ≡ end_answer at is_end now → (stream : List ℕ) → StandsIn stream at bytes is_end → HasPassed known stream old → HasPassed known stream now × SeekEventIs known now.sought stream (Ok answer)
  end_of_stream answer is stream stands h =
      let now_passed = s.passed stream stands h in
      (now_passed, subst (λ (a : SeekEvent). SeekEventIs known now.sought stream (Ok a)) (sym is) (end_by (ends_there at now.position is_end) now.has_passed_over refl refl stream stands now_passed))

  needs_by : (ends over : Bool) → ends_there at now.position is_end ≡ ends → SearchNeedsMore at bytes is_end (Ok (if ends then (if over then OverBudget else NotFound) else read_on now.position 0))
  needs_by true true e = tt
  needs_by true false e = tt
  needs_by false over e = (omega (arith, none_held), e)

  pub end_needs : (answer : SeekEvent) → answer ≡ end_answer at is_end now → SearchNeedsMore at bytes is_end (Ok answer)
  end_needs answer is = subst (λ (a : SeekEvent). SearchNeedsMore at bytes is_end (Ok a)) (sym is) (needs_by (ends_there at now.position is_end) now.has_passed_over refl)

  held_by : (ends over : Bool) → FoundIsHeld at bytes known old.sought (Ok (if ends then (if over then OverBudget else NotFound) else read_on now.position 0))
  held_by true true = tt
  held_by true false = tt
  held_by false over = tt

  pub end_finds_held : (answer : SeekEvent) → answer ≡ end_answer at is_end now → SearchFindsHeld at bytes known old (Ok answer) now
  end_finds_held answer is = λ placed. (
    omega (arith, placed, s.start, s.begins, ap (λ (q : Sought). q.first_frame) s.same),
    subst (λ (a : SeekEvent). FoundIsHeld at bytes known old.sought (Ok a)) (sym is) (held_by (ends_there at now.position is_end) now.has_passed_over),
  )
