-- A search for a frame, position by position.
use Rattle.std.proofs.Common.{◌≡◌, inl, inr, ℕ, suc, ◌+◌, ◌-◌, ◌<◌, ◌≤◌, Bool, true, false, List, ◌++◌, length, drop, Option, None, refl, sym, ap, subst, ◌∙◌, append-nil, length-append, arith}
use Rattle.std.specs.Option.{option_map}
use Rattle.std.specs.Prelude.{IfSome}
use Rattle.std.proofs.lemmas.List.{drop-drop}
use Rattle.claxon.specs.BlockInfos.{BlockInfo}
use Rattle.claxon.specs.FrameReader.{stream_with}
use Rattle.claxon.specs.ShownHead.{HasBitDepth}
use Rattle.claxon.specs.StreamInfos.{StreamInfo}
use Rattle.claxon_seek.specs.Find.{WantedHeader, known_format}
use Rattle.claxon_seek.proofs.Searches.{header_longer}
use Rattle.claxon_stream.specs.Budget.{counted_position, made_good, wasted_work, work_left}
use Rattle.claxon_stream.specs.FrameDecoder.{IsFromPosition, IsRightOf, decoder_position}
use Rattle.claxon_stream.specs.FrameEnd.{summed_bytes}
use Rattle.claxon_stream.specs.FrameFinder.{GoesTo, IsTriedOrPassedOver, PassesUnread, cost_at, finder_cost, finder_position}
use Rattle.claxon_stream.specs.HeaderThere.{HeaderIsThere}
use Rattle.claxon_stream.specs.Held.{StandsIn, ends_there, held_from}
use Rattle.claxon_stream.specs.Search.{Cost, FitsBudget, Passes, PassesByte, after_bytes, after_passing_over, samples_of}
use Rattle.claxon_stream.specs.declared.finder.FrameFinder.{FrameFinder}
use Rattle.claxon_stream.specs.declared.frames.FrameDecoder.{FrameDecoder}
use Rattle.claxon_stream.specs.declared.header.HeaderThere.TheVariants.{CutHeader, NotWanted}
use Rattle.claxon_stream.proofs.HeadersSaid.{header_has_samples, header_or_none}
use Rattle.claxon_stream.proofs.HeldBytes.{held_stands}
use Rattle.claxon_stream.proofs.Notes.{known_depth}

-- ---- the cost

pub cost_is : (a b : ℕ) (x y : Bool) → a ≡ b → x ≡ y → (let r : Cost = record { wasted = a; passes_over = x } in r) ≡ (record { wasted = b; passes_over = y })
cost_is a b x y e f = ap (λ (n : ℕ). let r : Cost = record { wasted = n; passes_over = x } in r) e ∙ ap (λ (z : Bool). let r : Cost = record { wasted = b; passes_over = z } in r) f

-- what one byte more makes good
made_good_more : (w c p : ℕ) → c ≤ p → made_good w (p + 1 - c) ≡ made_good (made_good w (p - c)) 1
made_good_more w c p le = omega (arith, le)

pub next_cost : (s : FrameFinder) (position : ℕ) → counted_position s.budget ≤ position → cost_at s (position + 1) ≡ after_bytes 1 (cost_at s position)
next_cost s position le = cost_is _ _ s.has_passed_over s.has_passed_over (made_good_more (wasted_work s.budget) (counted_position s.budget) position le) refl

-- where the cost is counted up to the position
pub cost_after : (s : FrameFinder) (position count : ℕ) → counted_position s.budget ≡ position → cost_at s (position + count) ≡ after_bytes count (finder_cost s)
cost_after s position count e =
    let n : position + count - counted_position s.budget ≡ count = omega (arith, e) in
    cost_is _ _ s.has_passed_over s.has_passed_over (ap (made_good (wasted_work s.budget)) n) refl

-- ---- the bytes of the stream

pub later_bytes : (stream : List ℕ) (from position : ℕ) → from ≤ position → drop (position - from) (drop from stream) ≡ drop position stream
later_bytes stream from position le =
    let there : from + (position - from) ≡ position = omega (arith, le) in
    drop-drop (position - from) from stream ∙ ap (λ (n : ℕ). drop n stream) there

module _ (known : Option StreamInfo) (at : ℕ) (bytes : List ℕ) (is_end : Bool) where
  module _ (stream : List ℕ) (stands : StandsIn stream at bytes is_end) (position : ℕ) where
    -- a header of the bytes that are held is one of the stream
    pub header_there : (info : BlockInfo) → WantedHeader known None (held_from at position bytes) info → WantedHeader known None (drop position stream) info
    header_there info wanted =
        let k = held_stands stream at position bytes is_end stands in
        subst (λ (s : List ℕ). WantedHeader known None s info) (sym k.1) (header_longer known None (held_from at position bytes) k.0 info wanted)

    pub no_header_there : HeaderIsThere known (held_from at position bytes) NotWanted → (info : BlockInfo) → WantedHeader known None (drop position stream) info → ⊥
    no_header_there none info wanted =
        let k = held_stands stream at position bytes is_end stands in
        none k.0 info (subst (λ (s : List ℕ). WantedHeader known None s info) k.1 wanted)

    pub no_header_at_end : HeaderIsThere known (held_from at position bytes) CutHeader → ends_there at position is_end ≡ true → (info : BlockInfo) → WantedHeader known None (drop position stream) info → ⊥
    no_header_at_end cut ends info wanted =
        let k = held_stands stream at position bytes is_end stands in
        let all : drop position stream ≡ held_from at position bytes = k.1 ∙ ap (λ (s : List ℕ). held_from at position bytes ++ s) (k.2 ends) ∙ append-nil (held_from at position bytes) in
        cut.0 info (subst (λ (s : List ℕ). WantedHeader known None s info) all wanted)

  -- ---- the decoder goes to a position

  module _ (depth : IfSome known (λ info. HasBitDepth info)) where
    pub right_from : (stream : List ℕ) (position : ℕ) (d e : FrameDecoder) → IsFromPosition d position e → IsRightOf known stream e
    right_from stream position d e f = f.starts (option_map stream_with known) (known_depth known depth) (drop (decoder_position e) stream)

    pub right_there : (stream : List ℕ) (position : ℕ) (s t : FrameFinder) → GoesTo position s t → IsRightOf known stream s.decoder → IsRightOf known stream t.decoder
    right_there stream position s t goes right = elim goes.1 [
      | inl same ↦ subst (IsRightOf known stream) (sym same.1) right
      | inr f ↦ right_from stream position s.decoder t.decoder f.1
    ]

  pub summed_there : (position : ℕ) (s t : FrameFinder) → GoesTo position s t → summed_bytes t.decoder.end ≤ summed_bytes s.decoder.end
  summed_there position s t goes = elim goes.1 [
    | inl same ↦ omega (arith, ap (λ (d : FrameDecoder). summed_bytes d.end) same.1)
    | inr f ↦ omega (arith, f.1.summed)
  ]

  pub wasted_there : (position : ℕ) (s t : FrameFinder) → GoesTo position s t → wasted_work t.decoder.budget ≡ wasted_work s.decoder.budget
  wasted_there position s t goes = elim goes.1 [
    | inl same ↦ ap (λ (d : FrameDecoder). wasted_work d.budget) same.1
    | inr f ↦ ap wasted_work f.1.budget
  ]

  module _ (old : FrameFinder) where
    -- the bytes up to the position are passed, and the decoder wasted no work on tries
    pub record Searching (now : FrameFinder) (position : ℕ) : Type 0 where
      pub start : finder_position old ≤ position
      pub inside : position ≤ finder_position old + length (held_from at (finder_position old) bytes)
      pub counted : counted_position now.budget ≤ position
      pub passes : (stream : List ℕ) → StandsIn stream at bytes is_end → Passes known (drop (finder_position old) stream) (position - finder_position old) (finder_cost old) (cost_at now position)
      pub right : (stream : List ℕ) → StandsIn stream at bytes is_end → IsRightOf known stream old.decoder → IsRightOf known stream now.decoder
      pub summed : summed_bytes now.decoder.end ≤ summed_bytes old.decoder.end
      pub waste : (stream : List ℕ) → StandsIn stream at bytes is_end → IsRightOf known stream old.decoder → wasted_work now.decoder.budget ≤ wasted_work old.decoder.budget

    abbrev pub search_end : ℕ
    search_end = finder_position old + length (held_from at (finder_position old) bytes)

    pub search_begins : (now : FrameFinder) → now.decoder ≡ old.decoder → finder_cost now ≡ finder_cost old → counted_position now.budget ≡ finder_position old → Searching now (finder_position old)
    search_begins now same cost counted = record {
      start = omega arith;
      inside = omega arith;
      counted = omega (arith, counted);
      passes = λ stream stands.
          let none : finder_position old - finder_position old ≡ 0 = omega arith in
          let nothing : made_good (wasted_work now.budget) (finder_position old - counted_position now.budget) ≡ wasted_work now.budget = omega (arith, counted) in
          let here : cost_at now (finder_position old) ≡ finder_cost now = cost_is _ _ now.has_passed_over now.has_passed_over nothing refl in
          subst (λ (n : ℕ). Passes known (drop (finder_position old) stream) n (finder_cost old) (cost_at now (finder_position old))) (sym none) (here ∙ cost);
      right = λ stream stands right. subst (IsRightOf known stream) (sym same) right;
      summed = omega (arith, ap (λ (d : FrameDecoder). summed_bytes d.end) same);
      waste = λ stream stands right. omega (arith, ap (λ (d : FrameDecoder). wasted_work d.budget) same);
    }

    -- what is passed is of the stream
    pub within : (now : FrameFinder) (position : ℕ) → Searching now position → (stream : List ℕ) → StandsIn stream at bytes is_end → position - finder_position old ≤ length (drop (finder_position old) stream)
    within now position s stream stands =
        let from = finder_position old in
        let k = held_stands stream at from bytes is_end stands in
        let all : length (drop from stream) ≡ length (held_from at from bytes) + length k.0 = ap length k.1 ∙ length-append (held_from at from bytes) k.0 in
        omega (arith, s.start, s.inside, all)

    module _ (now : FrameFinder) (position : ℕ) (s : Searching now position) (before : position < search_end) where
      -- one more byte is passed
      pub pass : (next : FrameFinder) → ((stream : List ℕ) → StandsIn stream at bytes is_end → PassesByte known (drop position stream) (cost_at now position) (cost_at next (position + 1)))
          → counted_position next.budget ≤ position + 1 → ((stream : List ℕ) → StandsIn stream at bytes is_end → IsRightOf known stream old.decoder → IsRightOf known stream next.decoder)
          → summed_bytes next.decoder.end ≤ summed_bytes old.decoder.end → ((stream : List ℕ) → StandsIn stream at bytes is_end → IsRightOf known stream old.decoder → wasted_work next.decoder.budget ≤ wasted_work old.decoder.budget) → Searching next (position + 1)
      pass next byte counted right summed waste = record {
        start = omega (arith, s.start);
        inside = omega (arith, before);
        counted = counted;
        passes = λ stream stands.
            let from = finder_position old in
            let more : suc (position - from) ≡ position + 1 - from = omega (arith, s.start) in
            subst (λ (n : ℕ). Passes known (drop from stream) n (finder_cost old) (cost_at next (position + 1))) more
            (cost_at now position, s.passes stream stands, subst (λ (z : List ℕ). PassesByte known z (cost_at now position) (cost_at next (position + 1))) (sym (later_bytes stream from position s.start)) (byte stream stands));
        right = right;
        summed = summed;
        waste = waste;
      }

      -- no header begins there
      pub no_header : ((stream : List ℕ) → StandsIn stream at bytes is_end → (info : BlockInfo) → WantedHeader known None (drop position stream) info → ⊥) → Searching now (position + 1)
      no_header none = pass now (λ stream stands. inl (none stream stands, next_cost now position s.counted)) (omega (arith, s.counted)) s.right s.summed s.waste

      module _ (info : BlockInfo) (wanted : WantedHeader known None (held_from at position bytes) info) (samples : ℕ) (are : samples ≡ samples_of info) where
        -- a header begins there, and is passed over
        pub passed_over : (result : Bool) (next : FrameFinder) → IsTriedOrPassedOver position samples now result next → result ≡ false → Searching next (position + 1)
        passed_over result next w is =
            let p = w.passed_over is in
            let counted : counted_position next.budget ≡ position = omega (arith, w.counted, s.counted) in
            let work : wasted_work next.budget ≡ (cost_at now position).wasted = w.wasted in
            let cost : cost_at next (position + 1) ≡ after_bytes 1 (after_passing_over (cost_at now position)) =
            cost_after next position 1 counted ∙ ap (after_bytes 1) (cost_is (wasted_work next.budget) ((cost_at now position).wasted) next.has_passed_over true work p.1) in
            let spent : FitsBudget (cost_at now position) info → ⊥ = λ fits. omega (arith, p.0, ap work_left work, are, fits) in
            pass next (λ stream stands. inr (info, header_there stream stands position info wanted, inl (spent, cost))) (omega (arith, counted))
            (λ stream stands right. subst (IsRightOf known stream) (sym p.2) (s.right stream stands right))
            (omega (arith, s.summed, ap (λ (d : FrameDecoder). summed_bytes d.end) p.2))
            (λ stream stands right. omega (arith, s.waste stream stands right, ap (λ (d : FrameDecoder). wasted_work d.budget) p.2))

      -- nothing is read there, as a header would be passed over
      pub passed_unread : PassesUnread position now → Searching now (position + 1)
      passed_unread (over, none_left) = pass now byte (omega (arith, s.counted)) s.right s.summed s.waste
        where
          byte : (stream : List ℕ) → StandsIn stream at bytes is_end → PassesByte known (drop position stream) (cost_at now position) (cost_at now (position + 1))
          byte stream stands = elim (header_or_none known (drop position stream)) [
            | inl (info, wanted) ↦ inr (
              info,
              wanted,
              inl (
                λ fits. omega (arith, fits, none_left, header_has_samples (known_format known) info wanted.header.0 wanted.header.2),
                next_cost now position s.counted
                    ∙ ap (after_bytes 1) (cost_is ((cost_at now position).wasted) ((cost_at now position).wasted) now.has_passed_over true refl over),
              ),
            )
            | inr none ↦ inl (none, next_cost now position s.counted)
          ]
