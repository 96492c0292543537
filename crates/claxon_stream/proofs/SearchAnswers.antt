-- A search for a frame, where it stops at a position without a try.
use Rattle.std.proofs.Common.{◌≡◌, inl, inr, ℕ, ◌+◌, ◌-◌, ◌≤◌, Bool, true, false, List, ◌++◌, length, drop, Option, sym, ap, subst, ◌∙◌, append-nil, arith}
use Rattle.std.specs.Prelude.{IfSome, Result, Ok}
use Rattle.std.proofs.lemmas.Bool.{cases_lt}
use Rattle.std.proofs.lemmas.List.{length-drop}
use Rattle.claxon.specs.Errors.{Error}
use Rattle.claxon.specs.ShownHead.{HasBitDepth}
use Rattle.claxon.specs.StreamInfos.{StreamInfo}
use Rattle.claxon_stream.specs.Budget.{wasted_work}
use Rattle.claxon_stream.specs.FrameDecoder.{IsRightOf}
use Rattle.claxon_stream.specs.FrameFinder.{FindIsOfStream, FindKeepsNotes, FindNeedsMore, MovesTo, finder_cost, finder_position, read_on}
use Rattle.claxon_stream.specs.Held.{StandsIn, ends_there, held_from}
use Rattle.claxon_stream.specs.Search.{Passes}
use Rattle.claxon_stream.specs.declared.event.FindEvent.{FindEvent}
use Rattle.claxon_stream.specs.declared.event.FindEvent.TheVariants.{NotFound}
use Rattle.claxon_stream.specs.declared.finder.FrameFinder.{FrameFinder}
use Rattle.claxon_stream.proofs.HeldBytes.{held_after, held_before, held_stands, known}
use Rattle.claxon_stream.proofs.Searching.{Searching, right_there, search_end, wasted_there, within}

-- ---- the end of the bytes that are held

module _ (at from : ℕ) (bytes : List ℕ) (is_end : Bool) where
  abbrev end_of : ℕ
  end_of = from + length (held_from at from bytes)

  pub none_at_end : length (held_from at end_of bytes) ≡ 0
  none_at_end = elim (cases_lt from at) [
    | inl lt ↦ (let none : length (held_from at from bytes) ≡ 0 = ap length (held_before at from bytes lt) in
        let same : end_of ≡ from = omega (arith, none) in
        ap (λ (p : ℕ). length (held_from at p bytes)) same ∙ none)
    | inr le ↦ (let later : at ≤ end_of = omega (arith, le) in
        let first : length (held_from at from bytes) ≡ length bytes - (from - at) = ap length (held_after at from bytes le) ∙ length-drop (from - at) bytes in
        let last : length (held_from at end_of bytes) ≡ length bytes - (end_of - at) = ap length (held_after at end_of bytes later) ∙ length-drop (end_of - at) bytes in
        omega (arith, first, last, le))
  ]

  pub ends_before : ends_there at end_of is_end ≡ true → ends_there at from is_end ≡ true
  ends_before e = elim (cases_lt from at) [
    | inl lt ↦ (let none : length (held_from at from bytes) ≡ 0 = ap length (held_before at from bytes lt) in
        let same : end_of ≡ from = omega (arith, none) in
        ap (λ (p : ℕ). ends_there at p is_end) (sym same) ∙ e)
    | inr le ↦ (let later : at ≤ end_of = omega (arith, le) in
        known at from bytes is_end le ∙ sym (known at end_of bytes is_end later) ∙ e)
  ]

module _ {known_info : Option StreamInfo} {at : ℕ} {bytes : List ℕ} {is_end : Bool} {old now : FrameFinder} {position : ℕ} {new : FrameFinder} (depth : IfSome known_info (λ info. HasBitDepth info))
    (s : Searching known_info at bytes is_end old now position) (m : MovesTo position now new) where
  abbrev from : ℕ
  from = finder_position old

  pub passed_to : (stream : List ℕ) → StandsIn stream at bytes is_end → Passes known_info (drop from stream) (position - from) (finder_cost old) (finder_cost new)
  passed_to stream stands = subst (Passes known_info (drop from stream) (position - from) (finder_cost old)) (sym m.cost) (s.passes stream stands)

  pub keeps_notes : FindKeepsNotes known_info at bytes is_end old new
  keeps_notes stream stands right = right_there known_info at bytes is_end depth stream position now new m.goes (s.right stream stands right)

  pub wastes_nothing : (stream : List ℕ) → StandsIn stream at bytes is_end → IsRightOf known_info stream old.decoder → wasted_work new.decoder.budget ≤ wasted_work old.decoder.budget
  wastes_nothing stream stands right = omega (arith, wasted_there known_info at bytes is_end position now new m.goes, s.waste stream stands right)

  -- more bytes are needed
  pub reads_on : (count : ℕ) → FindIsOfStream known_info at bytes is_end old (Ok (read_on position count)) new
  reads_on count stream stands = (position - from, m.goes.0 ∙ there, within known_info at bytes is_end old now position s stream stands, passed_to stream stands)
    where
      there : position ≡ from + (position - from)
      there = omega (arith, s.start)

  pub needs_more : (held : ℕ) → held ≡ length (held_from at position bytes) → ends_there at position is_end ≡ false → FindNeedsMore at bytes is_end (Ok (read_on position held)) new
  needs_more held e ends is = subst (λ (p : ℕ). answer (read_on position held) ≡ answer (read_on p (length (held_from at p bytes))) × (ends_there at p is_end ≡ false)) (sym m.goes.0) (ap (λ (n : ℕ). answer (read_on position n)) e, ends)
    where
      answer : FindEvent → Result FindEvent Error
      answer event = Ok event

  -- all bytes are passed
  pub not_found : position ≡ search_end known_info at bytes is_end old → ends_there at position is_end ≡ true → FindIsOfStream known_info at bytes is_end old (Ok NotFound) new
  not_found last ends stream stands =
      let k = held_stands stream at from bytes is_end stands in
      let over = ends_before at from bytes is_end (subst (λ (p : ℕ). ends_there at p is_end ≡ true) last ends) in
      let all : length (drop from stream) ≡ length (held_from at from bytes) = ap length (k.1 ∙ ap (λ (z : List ℕ). held_from at from bytes ++ z) (k.2 over) ∙ append-nil (held_from at from bytes)) in
      let count : position - from ≡ length (drop from stream) = omega (arith, last, all) in
      (subst (λ (n : ℕ). Passes known_info (drop from stream) n (finder_cost old) (finder_cost new)) count (passed_to stream stands), m.goes.0 ∙ last ∙ ap (λ (n : ℕ). from + n) (sym all))
