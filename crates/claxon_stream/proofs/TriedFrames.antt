-- A search for a frame, where a frame is tried.
use Rattle.std.proofs.Common.{◌≡◌, ◌⊎◌, inl, inr, ℕ, ◌+◌, ◌-◌, ◌*◌, ◌<◌, ◌≤◌, max, Bool, true, false, List, ◌++◌, length, drop, Option, None, refl, sym, ap, subst, ◌∙◌, arith}
use Rattle.std.specs.Global.{Global}
use Rattle.std.specs.Prelude.{IfSome, Result, Ok, Err}
use Rattle.claxon.specs.BlockInfo.{HeaderOf}
use Rattle.claxon.specs.BlockInfos.{BlockInfo}
use Rattle.claxon.specs.DecodedFrame.{FrameWithHeader, decoded_view}
use Rattle.claxon.specs.DecodedFrames.{DecodedFrame}
use Rattle.claxon.specs.Errors.{Error}
use Rattle.claxon.specs.Errors.TheVariants.{OutOfMemory}
use Rattle.claxon.specs.Fault.{Fault}
use Rattle.claxon.specs.Frame.{FrameBytesFault, NoFrameLeft}
use Rattle.claxon.specs.FrameReader.{block_view}
use Rattle.claxon.specs.Prefix.{BeginsWith}
use Rattle.claxon.specs.Promises.{IsOutOfMemory}
use Rattle.claxon.specs.ShownHead.{HasBitDepth}
use Rattle.claxon.specs.StreamInfos.{StreamInfo}
use Rattle.claxon.proofs.BlockInfo.{header_has_two_bytes, headers_unambiguous}
use Rattle.claxon_seek.specs.Find.{WantedFrame, WantedHeader, known_format}
use Rattle.claxon_seek.proofs.Searches.{begins_longer, frame_is_wanted}
use Rattle.claxon_stream.specs.Budget.{charged, cost_of_try, counted_position, wasted_work}
use Rattle.claxon_stream.specs.DecodedAtStart.{BeginsWithLength}
use Rattle.claxon_stream.specs.Event.{EventIs, IsAnswer, IsOpen, IsReadOn, needed_after}
use Rattle.claxon_stream.specs.FrameDecoder.{EventIsOfStream, EventIsSound, FaultIsTimely, FrameIsTimely, IsOverBudget, IsRightOf, WasteIsInVain, decoder_position}
use Rattle.claxon_stream.specs.FrameEnd.{IsZeroWithin, summed_bytes}
use Rattle.claxon_stream.specs.FrameFinder.{IsNotedInVain, IsTriedOrPassedOver, IsUndecided, cost_at, finder_cost, finder_position}
use Rattle.claxon_stream.specs.Held.{StandsIn, ends_there, held_from}
use Rattle.claxon_stream.specs.Search.{Cost, FindEventIs, FitsBudget, IsReadInVain, Passes, after_bytes, after_work, samples_of}
use Rattle.claxon_stream.specs.declared.event.Event.{Event}
use Rattle.claxon_stream.specs.declared.event.Event.TheVariants.{Cut, Decoded, End, Faulty, ReadOn}
use Rattle.claxon_stream.specs.declared.event.FindEvent.{FindEvent}
use Rattle.claxon_stream.specs.declared.event.FindEvent.TheVariants.{Found}
use Rattle.claxon_stream.specs.declared.event.NeededBytes.{NeededBytes}
use Rattle.claxon_stream.specs.declared.finder.FrameFinder.{FrameFinder}
use Rattle.claxon_stream.specs.declared.frames.FrameDecoder.{FrameDecoder}
use Rattle.claxon_stream.proofs.Notes.{zero_before}
use Rattle.claxon_stream.proofs.Searching.{Searching, cost_after, cost_is, header_there, later_bytes, pass, right_from, right_there, search_end, summed_there, wasted_there}

error_is : (e : Error) → IsOutOfMemory {A = Event} (Err e) → e ≡ OutOfMemory
error_is e is = cc

needed_is : (needed : NeededBytes) (position count : ℕ) → needed.position ≡ position → needed.count ≡ count → needed ≡ record { position = position; count = count }
needed_is needed position count p q =
    ap (λ (x : ℕ). let n : NeededBytes = record { position = x; count = needed.count } in n) p ∙ ap (λ (x : ℕ). let n : NeededBytes = record { position = position; count = x } in n) q

-- a try that led to no frame, whatever follows
abbrev pub IsVain : Event → Type 0
IsVain (Faulty fault) = Unit {0}
IsVain (Cut at) = Unit {0}
IsVain End = Unit {0}
IsVain (Decoded frame) = ⊥
IsVain (ReadOn needed) = ⊥

-- how many bytes it read
read_in_vain : (known : Option StreamInfo) (all : List ℕ) (capacity position new : ℕ) (info : BlockInfo) → WantedHeader known None all info → (read : Event) → IsVain read → EventIs (known_format known) all true capacity position (Ok read) new
    → (n : ℕ) × IsReadInVain known all n × (new ≡ position + n)
read_in_vain known all capacity position new info wanted (Faulty fault) is h = let f = h.1 in let p = f.2 in (p.0, inl (f.0, p.1), p.2)
read_in_vain known all capacity position new info wanted (Cut at) is h = (length all, inr (h.3, refl), h.4)
read_in_vain known all capacity position new info wanted End is h =
    let k = wanted.header in
    absurd (header_has_two_bytes (known_format known) info k.0 k.1 k.2 (subst (λ (s : List ℕ). length s < 2) k.3 h.1))
read_in_vain known all capacity position new info wanted (Decoded frame) is h = absurd is
read_in_vain known all capacity position new info wanted (ReadOn needed) is h = absurd is

is_answer : (read : Event) → IsVain read → IsAnswer (Ok read)
is_answer (Faulty fault) is = tt
is_answer (Cut at) is = tt
is_answer End is = tt
is_answer (Decoded frame) is = absurd is
is_answer (ReadOn needed) is = absurd is

not_read_on : (read : Event) → IsVain read → IsReadOn (Ok read) → ⊥
not_read_on (Faulty fault) is r = r
not_read_on (Cut at) is r = r
not_read_on End is r = r
not_read_on (Decoded frame) is r = is
not_read_on (ReadOn needed) is r = is

-- the frame of a wanted header, with what is decoded
module _ (known : Option StreamInfo) (all : List ℕ) (info : BlockInfo) (wanted : WantedHeader known None all info) (frame : DecodedFrame Global) (taken : ℕ) (begins : BeginsWithLength (FrameWithHeader (known_format known) (decoded_view frame)) all taken) where
  pub same_info : frame.info ≡ info
  same_info =
      let k = begins in
      let longer = begins_longer k.0 k.1 k.2.1 in
      let h : BeginsWith (HeaderOf (known_format known) frame.info) all = subst (BeginsWith (HeaderOf (known_format known) frame.info)) (sym k.3) longer in
      let w = wanted.header in
      ((headers_unambiguous (known_format known)).one_code frame.info info h.0 w.0 h.1 w.1 h.2 w.2 (sym h.3 ∙ w.3)).0

  pub frame_there : WantedFrame known None all frame.info
  frame_there =
      let k = begins in
      subst (WantedFrame known None all) (sym same_info) (frame_is_wanted known None all info wanted (record { block = block_view frame.block; frame = (k.0, k.1, k.2.0, k.3) }))

-- the frame at a position is tried, whose header is there
pub record IsTried (known : Option StreamInfo) (at : ℕ) (bytes : List ℕ) (is_end : Bool) (old now : FrameFinder) (position : ℕ) (info : BlockInfo) (samples : ℕ) (tried : FrameFinder) : Type 0 where
  pub depth : IfSome known (λ info. HasBitDepth info)
  pub searching : Searching known at bytes is_end old now position
  pub before : position < search_end known at bytes is_end old
  pub wanted : WantedHeader known None (held_from at position bytes) info
  pub are : samples ≡ samples_of info
  pub worth : IsTriedOrPassedOver position samples now true tried

module _ {known : Option StreamInfo} {at : ℕ} {bytes : List ℕ} {is_end : Bool} {old now : FrameFinder} {position : ℕ} {info : BlockInfo} {samples : ℕ} {tried : FrameFinder}
    (t : IsTried known at bytes is_end old now position info samples tried) (capacity : ℕ) (r : Result Event Error) (d : FrameDecoder) where
  abbrev from : ℕ
  from = finder_position old

  abbrev after_try : FrameFinder
  after_try = record { decoder = d; budget = tried.budget; has_passed_over = tried.has_passed_over }

  pub is_there : decoder_position tried.decoder ≡ position
  is_there = (t.worth.tried refl).2.0

  counted : counted_position tried.budget ≡ position
  counted = omega (arith, t.worth.counted, t.searching.counted)

  pub cost_there : finder_cost tried ≡ cost_at now position
  cost_there = cost_is (wasted_work tried.budget) ((cost_at now position).wasted) tried.has_passed_over now.has_passed_over t.worth.wasted (t.worth.tried refl).1

  pub fits_there : FitsBudget (finder_cost tried) info
  fits_there = omega (arith, (t.worth.tried refl).0, t.are)

  fits_now : FitsBudget (cost_at now position) info
  fits_now = subst (λ (e : Cost). FitsBudget e info) cost_there fits_there

  module _ (stream : List ℕ) (stands : StandsIn stream at bytes is_end) where
    pub passed_there : Passes known (drop from stream) (position - from) (finder_cost old) (finder_cost tried)
    passed_there = subst (Passes known (drop from stream) (position - from) (finder_cost old)) (sym cost_there) (t.searching.passes stream stands)

    pub right_tried : IsRightOf known stream old.decoder → IsRightOf known stream tried.decoder
    right_tried right = right_there known at bytes is_end t.depth stream position now tried (t.worth.tried refl).2 (t.searching.right stream stands right)

    pub here : position ≡ from + (position - from)
    here = omega (arith, t.searching.start)

    -- what is answered of all bytes of the stream from the position on
    of_all : EventIsOfStream known capacity at bytes is_end tried.decoder r d → IsAnswer r → EventIs (known_format known) (drop position stream) true capacity position r (decoder_position d)
    of_all of_stream answer = subst (λ (p : ℕ). EventIs (known_format known) (drop p stream) true capacity p r (decoder_position d)) is_there (of_stream stream stands answer)

    wanted_there : WantedHeader known None (drop position stream) info
    wanted_there = header_there known at bytes is_end stream stands position info t.wanted

    -- ---- a frame is found

    pub found_there : EventIsOfStream known capacity at bytes is_end tried.decoder r d → (frame : DecodedFrame Global) → r ≡ Ok (Decoded frame) → (new : FrameFinder) → new.decoder ≡ d → finder_cost new ≡ cost_at tried (decoder_position d)
        → FindEventIs known (drop from stream) from (finder_cost old) (Ok (Found position frame)) (finder_position new) (finder_cost new)
    found_there of_stream frame is new same cost =
        let h = subst (λ (x : Result Event Error). EventIs (known_format known) (drop position stream) true capacity position x (decoder_position d)) is (of_all of_stream (subst IsAnswer (sym is) tt)) in
        let taken : ℕ = h.0 in
        let rest = later_bytes stream from position t.searching.start in
        let one = same_info known (drop position stream) info wanted_there frame taken h.1 in
        let at_end : cost_at tried (decoder_position d) ≡ after_bytes taken (finder_cost tried) = ap (cost_at tried) h.2 ∙ cost_after tried position taken counted in (
          position - from,
          finder_cost tried,
          taken,
          here,
          passed_there,
          subst (λ (z : List ℕ). WantedFrame known None z frame.info) (sym rest) (frame_there known (drop position stream) info wanted_there frame taken h.1),
          subst (FitsBudget (finder_cost tried)) (sym one) fits_there,
          subst (λ (z : List ℕ). BeginsWithLength (FrameWithHeader (known_format known) (decoded_view frame)) z taken) (sym rest) h.1,
          ap decoder_position same ∙ h.2,
          cost ∙ at_end,
        )

  -- ---- a try in vain

  module _ (of_stream : EventIsOfStream known capacity at bytes is_end tried.decoder r d) (waste : WasteIsInVain known at bytes is_end tried.decoder r d) where
    -- no work is wasted but by `ReadOn`
    pub waste_stays : (IsReadOn r → ⊥) → (stream : List ℕ) → StandsIn stream at bytes is_end → IsRightOf known stream old.decoder → wasted_work d.budget ≤ wasted_work old.decoder.budget
    waste_stays other stream stands right = elim (waste stream stands (right_tried stream stands right)) [
      | inl le ↦ omega (arith, le, wasted_there known at bytes is_end position now tried (t.worth.tried refl).2, t.searching.waste stream stands right)
      | inr k ↦ absurd (other k.0)
    ]

    pub in_vain_there : (read : Event) → IsVain read → r ≡ Ok read → (next : FrameFinder) → IsNotedInVain position samples after_try next → Searching known at bytes is_end old next (position + 1)
    in_vain_there read vain is next noted =
        let counted_next : counted_position next.budget ≡ position = noted.counted ∙ counted in
        pass known at bytes is_end old now position t.searching t.before next
        (λ stream stands.
        let h = subst (λ (x : Result Event Error). EventIs (known_format known) (drop position stream) true capacity position x (decoder_position d)) is (of_all stream stands of_stream (subst IsAnswer (sym is) (is_answer read vain))) in
        let k = read_in_vain known (drop position stream) capacity position (decoder_position d) info (wanted_there stream stands) read vain h in
        let n : ℕ = k.0 in
        let work : decoder_position d - position + samples ≡ n + samples_of info = omega (arith, k.2, t.are) in
        let cost : finder_cost next ≡ after_work (n + samples_of info) (finder_cost tried) =
        noted.cost ∙ cost_is _ _ tried.has_passed_over tried.has_passed_over (ap (charged (wasted_work tried.budget)) work) refl in
        inr (
          info,
          wanted_there stream stands,
          inr (
            fits_now,
            (n, k.1, cost_after next position 1 counted_next ∙ ap (after_bytes 1) (cost ∙ ap (after_work (n + samples_of info)) cost_there)),
          ),
        ))
        (omega (arith, counted_next))
        (λ stream stands right. right_from known at bytes is_end t.depth stream (position + 1) d next.decoder noted.decoder)
        (omega (arith, noted.decoder.summed))
        (λ stream stands right. omega (arith, ap wasted_work noted.decoder.budget, waste_stays (λ o. not_read_on read vain (subst IsReadOn is o)) stream stands right))

  -- ---- more bytes are needed

  module _ (needed : NeededBytes) (is : r ≡ Ok (ReadOn needed)) (sound : EventIsSound known capacity at bytes is_end tried.decoder r d) where
    said : EventIs (known_format known) (held_from at (decoder_position tried.decoder) bytes) (ends_there at (decoder_position tried.decoder) is_end) capacity (decoder_position tried.decoder) (Ok (ReadOn needed)) (decoder_position d)
    said = subst (λ (x : Result Event Error). EventIs (known_format known) (held_from at (decoder_position tried.decoder) bytes) (ends_there at (decoder_position tried.decoder) is_end) capacity (decoder_position tried.decoder) x (decoder_position d)) is sound

    pub stays : decoder_position d ≡ position
    stays = said.3 ∙ is_there

    pub needed_there : needed ≡ needed_after (decoder_position d) (length (held_from at (decoder_position d) bytes))
    needed_there = needed_is needed (decoder_position d) (max (length (held_from at (decoder_position d) bytes) + 1) 2)
        (said.0 ∙ sym said.3)
        (said.1 ∙ ap (λ (p : ℕ). max (length (held_from at p bytes) + 1) 2) (sym said.3))

    pub goes_on : ends_there at (decoder_position d) is_end ≡ false
    goes_on = ap (λ (p : ℕ). ends_there at p is_end) said.3 ∙ said.2

    pub undecided_there : FrameIsTimely known at bytes is_end tried.decoder r d → FaultIsTimely known at bytes is_end tried.decoder r → (stream : List ℕ) → StandsIn stream at bytes is_end → IsRightOf known stream old.decoder → IsUndecided known (held_from at (decoder_position d) bytes) after_try
    undecided_there frame fault stream stands right =
        let waits : IsReadOn r = subst IsReadOn (sym is) tt in
        let right_now = right_tried stream stands right in
        subst (λ (p : ℕ). IsUndecided known (held_from at p bytes) after_try) (sym stays) (inr (inr (
          info,
          t.wanted,
          fits_there,
          subst (λ (p : ℕ). NoFrameLeft (known_format known) (held_from at p bytes) ⊎ IsOverBudget d) is_there (frame stream stands right_now waits),
          subst (λ (p : ℕ). (f : Fault) (t rest : List ℕ) → FrameBytesFault (known_format known) f t → held_from at p bytes ≡ t ++ rest → length (held_from at p bytes) < 2 * length t) is_there (fault stream stands right_now waits),
        )))

    -- the work of a try, by the position
    abbrev IsWasted : List ℕ → ℕ → Type 0
    IsWasted stream p =
        IsOpen (known_format known) (held_from at p bytes)
        × IsZeroWithin (drop p stream) (max (length (held_from at p bytes)) (summed_bytes old.decoder.end))
        × (wasted_work d.budget ≤ wasted_work old.decoder.budget + cost_of_try (length (held_from at p bytes)))

    pub waste_there : WasteIsInVain known at bytes is_end tried.decoder r d → (stream : List ℕ) → StandsIn stream at bytes is_end → IsRightOf known stream old.decoder → (wasted_work d.budget ≤ wasted_work old.decoder.budget) ⊎ IsWasted stream (decoder_position d)
    waste_there waste stream stands right =
        let same = wasted_there known at bytes is_end position now tried (t.worth.tried refl).2 in
        let less = t.searching.waste stream stands right in
        elim (waste stream stands (right_tried stream stands right)) [
          | inl le ↦ inl (omega (arith, le, same, less))
          | inr k ↦ inr (subst (IsWasted stream) (sym said.3) (
            k.1,
            zero_before (drop (decoder_position tried.decoder) stream) _ _ (omega (arith, summed_there known at bytes is_end position now tried (t.worth.tried refl).2, t.searching.summed)) k.2,
            omega (arith, k.3, same, less),
          ))
        ]

  -- ---- memory is refused

  pub refused_there : (e : Error) → r ≡ Err e → EventIsSound known capacity at bytes is_end tried.decoder r d → (stream : List ℕ) → StandsIn stream at bytes is_end → FindEventIs known (drop from stream) from (finder_cost old) (Err e) (decoder_position d) (finder_cost tried)
  refused_there e is sound stream stands =
      let pos = decoder_position tried.decoder in
      let h : EventIs (known_format known) (held_from at pos bytes) (ends_there at pos is_end) capacity pos (Err e) (decoder_position d) =
      subst (λ (x : Result Event Error). EventIs (known_format known) (held_from at pos bytes) (ends_there at pos is_end) capacity pos x (decoder_position d)) is sound in (
        ap (λ (x : Error). let y : Result FindEvent Error = Err x in y) (error_is e h.0),
        (
          position - from,
          h.2 ∙ is_there ∙ here stream stands,
          passed_there stream stands,
          (info, subst (λ (z : List ℕ). WantedHeader known None z info) (sym (later_bytes stream from position t.searching.start)) (wanted_there stream stands), fits_there),
        ),
      )
