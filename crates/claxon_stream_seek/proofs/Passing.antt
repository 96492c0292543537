-- What a search passes, byte by byte, and what it answers.
use Rattle.std.proofs.Common.{◌≡◌, inl, inr, ℕ, suc, ◌+◌, ◌-◌, ◌<◌, ◌≤◌, Bool, true, false, List, length, drop, Option, None, Some, refl, sym, ap, subst, ◌∙◌, length-append, arith}
use Rattle.std.specs.Global.{Global}
use Rattle.std.specs.Prelude.{Result, Ok, Err}
use Rattle.std.proofs.lemmas.Bool.{cases_lt}
use Rattle.std.proofs.lemmas.List.{length-drop}
use Rattle.claxon.specs.BlockInfo.{HeaderOf}
use Rattle.claxon.specs.BlockInfos.{BlockInfo}
use Rattle.claxon.specs.DecodedFrame.{FrameWithHeader, decoded_view}
use Rattle.claxon.specs.DecodedFrames.{DecodedFrame}
use Rattle.claxon.specs.Errors.{Error}
use Rattle.claxon.specs.Errors.TheVariants.{OutOfMemory}
use Rattle.claxon.specs.FrameReader.{HeaderOfLargerBlock}
use Rattle.claxon.specs.Prefix.{BeginsWith}
use Rattle.claxon.specs.Promises.{IsOutOfMemory}
use Rattle.claxon.specs.StreamInfos.{StreamInfo}
use Rattle.claxon.proofs.BlockInfo.{header_has_two_bytes}
use Rattle.claxon_seek.specs.Find.{HasFormat, WantedFrame, WantedHeader, known_format}
use Rattle.claxon_seek.proofs.Searches.{begins_longer}
use Rattle.claxon_stream.specs.Budget.{charged, counted_position, made_good, wasted_work, work_left}
use Rattle.claxon_stream.specs.DecodedAtStart.{BeginsWithLength}
use Rattle.claxon_stream.specs.Event.{EventIs, IsAnswer}
use Rattle.claxon_stream.specs.FrameDecoder.{EventIsOfStream, EventIsSound, decoder_position}
use Rattle.claxon_stream.specs.Held.{StandsIn, ends_there, held_from}
use Rattle.claxon_stream.specs.Search.{Cost, FitsBudget, IsReadInVain, after_bytes, after_passing_over, after_work, samples_of}
use Rattle.claxon_stream.specs.declared.event.Event.{Event}
use Rattle.claxon_stream.specs.declared.event.Event.TheVariants.{Cut, Decoded, End, Faulty, ReadOn as Event_ReadOn}
use Rattle.claxon_stream.specs.declared.event.NeededBytes.{NeededBytes}
use Rattle.claxon_stream.specs.declared.frames.FrameDecoder.{FrameDecoder}
use Rattle.claxon_stream.proofs.HeldBytes.{held_after, held_before, held_stands}
use Rattle.claxon_stream.proofs.Searching.{cost_is, header_there}
use Rattle.claxon_stream.proofs.TriedFrames.{IsVain, frame_there, same_info}
use Rattle.claxon_stream_seek.specs.Search.{FoundIsHeld, HasPassed, IsAnswered, IsAtByte, IsPlaced, IsTriedAt, IsVainAt, NeedsMore, SkipsByte, found_at, search_cost}
use Rattle.claxon_stream_seek.specs.Sought.{HasSample, Passes, PassesByte, SoughtHeader, start_of}
use Rattle.claxon_stream_seek.specs.declared.event.SeekEvent.{SeekEvent}
use Rattle.claxon_stream_seek.specs.declared.search.ByteSearch.{ByteSearch}
use Rattle.claxon_stream_seek.specs.declared.sought.Sought.{Sought}

-- ---- one byte

module _ (known : Option StreamInfo) (stream : List ℕ) where
  pub pass : (old new : ByteSearch) → HasPassed known stream old → new.sought ≡ old.sought → new.position ≡ old.position + 1 → counted_position new.budget ≤ old.position + 1 → old.position < length stream
      → PassesByte known old.sought stream old.position (search_cost old) (search_cost new) → HasPassed known stream new
  pass old new h same moved counted inside byte =
      let first : new.sought.first_frame ≡ old.sought.first_frame = ap (λ (s : Sought). s.first_frame) same in
      let from = old.sought.first_frame in
      let count : new.position - new.sought.first_frame ≡ suc (old.position - from) = omega (arith, h.start, moved, first) in
      let there : from + (old.position - from) ≡ old.position = omega (arith, h.start) in
      let one : PassesByte known old.sought stream (from + (old.position - from)) (search_cost old) (search_cost new) =
      subst (λ (n : ℕ). PassesByte known old.sought stream n (search_cost old) (search_cost new)) (sym there) byte in
      let all : Passes known old.sought stream (suc (old.position - from)) (search_cost new) = (search_cost old, h.passes, one) in
      record {
        start = omega (arith, h.start, moved, first);
        counted = omega (arith, counted, moved);
        inside = omega (arith, count, inside, h.start, length-drop new.sought.first_frame stream, first);
        passes =
            subst (λ (n : ℕ). Passes known new.sought stream n (search_cost new)) (sym count)
            (subst (λ (s : Sought). Passes known s stream (suc (old.position - from)) (search_cost new)) (sym same) all);
      }

  skip_cost : (old : ByteSearch) → counted_position old.budget ≤ old.position → search_cost (record old { position = old.position + 1 }) ≡ after_bytes 1 (search_cost old)
  skip_cost old le = cost_is _ _ old.has_passed_over old.has_passed_over (made_good_more (wasted_work old.budget) (counted_position old.budget) old.position le) refl
    where
      made_good_more : (w c p : ℕ) → c ≤ p → made_good w (p + 1 - c) ≡ made_good (made_good w (p - c)) 1
      made_good_more w c p le = omega (arith, le)

  -- no header begins there
  pub skipped : (old new : ByteSearch) → SkipsByte old new → old.position < length stream → ((info : BlockInfo) → SoughtHeader known old.sought stream old.position info → ⊥) → HasPassed known stream old → HasPassed known stream new
  skipped old new is inside none h =
      subst (λ (n : ByteSearch). HasPassed known stream n) (sym is)
      (pass old (record old { position = old.position + 1 }) h refl refl (omega (arith, h.counted)) inside (inl (none, skip_cost old h.counted)))

-- the cost where it is counted up to the position
cost_next : (s : ByteSearch) (w : ℕ) (over : Bool) → wasted_work s.budget ≡ w → s.has_passed_over ≡ over → s.position - counted_position s.budget ≡ 1 → search_cost s ≡ after_bytes 1 (record { wasted = w; passes_over = over })
cost_next s w over e f n = cost_is (made_good (wasted_work s.budget) (s.position - counted_position s.budget)) (made_good w 1) s.has_passed_over over
    (ap (λ (k : ℕ). made_good (wasted_work s.budget) k) n ∙ ap (λ (k : ℕ). made_good k 1) e) f

-- ---- what a decoder answers

pub error_is : (e : Error) → IsOutOfMemory {A = Event} (Err e) → IsOutOfMemory {A = SeekEvent} (Err e)
error_is e is = let same : e ≡ OutOfMemory = cc in ap (λ (x : Error). let r : Result SeekEvent Error = Err x in r) same

read_in_vain : (known : Option StreamInfo) (all : List ℕ) (capacity position new : ℕ) (info : BlockInfo) → WantedHeader known None all info → (read : Event) → IsVain read → EventIs (known_format known) all true capacity position (Ok read) new
    → (n : ℕ) × IsReadInVain known all n × (new ≡ position + n)
read_in_vain known all capacity position new info wanted (Faulty fault) is h = let f = h.1 in let p = f.2 in (p.0, inl (f.0, p.1), p.2)
read_in_vain known all capacity position new info wanted (Cut at) is h = (length all, inr (h.3, refl), h.4)
read_in_vain known all capacity position new info wanted End is h =
    let k = wanted.header in
    absurd (header_has_two_bytes (known_format known) info k.0 k.1 k.2 (subst (λ (s : List ℕ). length s < 2) k.3 h.1))
read_in_vain known all capacity position new info wanted (Decoded frame) is h = absurd is
read_in_vain known all capacity position new info wanted (Event_ReadOn needed) is h = absurd is

is_answer : (read : Event) → IsVain read → IsAnswer (Ok read)
is_answer (Faulty fault) is = tt
is_answer (Cut at) is = tt
is_answer End is = tt
is_answer (Decoded frame) is = absurd is
is_answer (Event_ReadOn needed) is = absurd is

module _ (at : ℕ) (bytes : List ℕ) (is_end : Bool) where
  pub held_inside : (stream : List ℕ) → StandsIn stream at bytes is_end → (position : ℕ) → 0 < length (held_from at position bytes) → position < length stream
  held_inside stream stands position some =
      let k = held_stands stream at position bytes is_end stands in
      let all : length (drop position stream) ≡ length (held_from at position bytes) + length k.0 = ap length k.1 ∙ length-append (held_from at position bytes) k.0 in
      omega (arith, some, all, length-drop position stream)

  pub held_more : (from position : ℕ) → from ≤ position → position < from + length (held_from at from bytes) → 0 < length (held_from at position bytes)
  held_more from position after before = elim (cases_lt from at) [
    | inl lt ↦ (let none : length (held_from at from bytes) ≡ 0 = ap length (held_before at from bytes lt) in absurd (omega (arith, none, after, before)))
    | inr le ↦ (let later : at ≤ position = omega (arith, le, after) in
        let first : length (held_from at from bytes) ≡ length bytes - (from - at) = ap length (held_after at from bytes le) ∙ length-drop (from - at) bytes in
        let last : length (held_from at position bytes) ≡ length bytes - (position - at) = ap length (held_after at position bytes later) ∙ length-drop (position - at) bytes in
        omega (arith, first, last, le, after, before))
  ]

  module _ (known : Option StreamInfo) (capacity : ℕ) (old d : FrameDecoder) where
    abbrev at_decoder : ℕ
    at_decoder = decoder_position old

    pub needed_more : (needed : NeededBytes) → EventIsSound known capacity at bytes is_end old (Ok (Event_ReadOn needed)) d → NeedsMore at bytes is_end needed
    needed_more needed h =
        let same : length (held_from at needed.position bytes) ≡ length (held_from at at_decoder bytes) = ap (λ (p : ℕ). length (held_from at p bytes)) h.0 in
        (omega (arith, same, h.1), ap (λ (p : ℕ). ends_there at p is_end) h.0 ∙ h.2)

    module _ (stream : List ℕ) (stands : StandsIn stream at bytes is_end) where
      pub refused : (e : Error) → EventIsSound known capacity at bytes is_end old (Err e) d → IsOutOfMemory {A = SeekEvent} (Err e) × BeginsWith (HeaderOfLargerBlock (known_format known) capacity) (drop at_decoder stream)
      refused e h =
          let k = held_stands stream at at_decoder bytes is_end stands in
          let longer = begins_longer (held_from at at_decoder bytes) k.0 h.1 in
          (error_is e h.0, subst (BeginsWith (HeaderOfLargerBlock (known_format known) capacity)) (sym k.1) longer)

      pub decoded : (frame : DecodedFrame Global) → EventIsOfStream known capacity at bytes is_end old (Ok (Decoded frame)) d
          → (taken : ℕ) × BeginsWithLength (FrameWithHeader (known_format known) (decoded_view frame)) (drop at_decoder stream) taken × (decoder_position d ≡ at_decoder + taken)
      decoded frame h = h stream stands tt

-- what the header of a decoded frame says
pub header_of : (known : Option StreamInfo) (all : List ℕ) (frame : DecodedFrame Global) (taken : ℕ) → BeginsWithLength (FrameWithHeader (known_format known) (decoded_view frame)) all taken → HasFormat known frame.info → WantedHeader known None all frame.info
header_of known all frame taken k format =
    let longer = begins_longer k.0 k.1 k.2.1 in
    record { format = format; holds = tt; header = subst (BeginsWith (HeaderOf (known_format known) frame.info)) (sym k.3) longer }

-- ---- the frame at a position

module _ (at : ℕ) (bytes : List ℕ) (is_end : Bool) (known : Option StreamInfo) (old : ByteSearch) where
  pub passes_byte : (new : ByteSearch) → new.sought ≡ old.sought → new.position ≡ old.position + 1 → ((stream : List ℕ) → StandsIn stream at bytes is_end → HasPassed known stream old → HasPassed known stream new) → IsAtByte at bytes is_end known old (Ok None) new
  passes_byte new same moved all = record { moves = moved; needs = tt; finds_held = λ placed. (omega (arith, placed, moved, ap (λ (s : Sought). s.first_frame) same), tt); of_stream = λ stream stands h. (all stream stands h, tt) }

  module _ (held : 0 < length (held_from at old.position bytes)) where
    pub no_header : (new : ByteSearch) → SkipsByte old new → ((stream : List ℕ) → StandsIn stream at bytes is_end → (info : BlockInfo) → SoughtHeader known old.sought stream old.position info → ⊥) → IsAtByte at bytes is_end known old (Ok None) new
    no_header new is none = passes_byte new (ap (λ (s : ByteSearch). s.sought) is) (ap (λ (s : ByteSearch). s.position) is)
        (λ stream stands h. skipped known stream old new is (held_inside at bytes is_end stream stands old.position held) (none stream stands) h)

    module _ (info : BlockInfo) (samples : ℕ) (are : samples ≡ samples_of info) (wanted : WantedHeader known None (held_from at old.position bytes) info) (has : HasSample old.sought old.position info) where
      sought : (stream : List ℕ) → StandsIn stream at bytes is_end → SoughtHeader known old.sought stream old.position info
      sought stream stands = (header_there known at bytes is_end stream stands old.position info wanted, has)

      -- the header is passed over
      pub over : (result : Bool) (new : ByteSearch) → IsTriedAt samples old result new → result ≡ false → IsAtByte at bytes is_end known old (Ok None) new
      over result new t is =
          let p = t.passed_over is in
          passes_byte new t.sought p.1 (λ stream stands h.
          let counted : counted_position new.budget ≡ old.position = omega (arith, t.counted, h.counted) in
          let spent : FitsBudget (search_cost old) info → ⊥ = λ fits. omega (arith, p.0, ap work_left t.wasted, are, fits) in
          let cost : search_cost new ≡ after_bytes 1 (after_passing_over (search_cost old)) = cost_next new ((search_cost old).wasted) true t.wasted p.2 (omega (arith, p.1, counted)) in
          pass known stream old new h t.sought p.1 (omega (arith, counted)) (held_inside at bytes is_end stream stands old.position held) (inr (info, sought stream stands, inl (spent, cost))))

      -- the frame is tried
      module _ (mid : ByteSearch) (t : IsTriedAt samples old true mid) (capacity : ℕ) (d : FrameDecoder) where
        abbrev tried : ByteSearch
        tried = record mid { decoder = d }

        place : mid.position ≡ old.position
        place = (t.tried refl).1

        decoder_place : decoder_position mid.decoder ≡ old.position
        decoder_place = (t.tried refl).3

        fits : FitsBudget (search_cost old) info
        fits = omega (arith, (t.tried refl).0, ap work_left t.wasted, are)

        same_cost : counted_position old.budget ≤ old.position → search_cost tried ≡ search_cost old
        same_cost le =
            let counted : mid.position - counted_position mid.budget ≡ 0 = omega (arith, t.counted, le, place) in
            cost_is (made_good (wasted_work mid.budget) (mid.position - counted_position mid.budget)) ((search_cost old).wasted) mid.has_passed_over old.has_passed_over
            (ap (λ (k : ℕ). made_good (wasted_work mid.budget) k) counted ∙ unchanged (wasted_work mid.budget) ∙ t.wasted) (t.tried refl).2
          where
            unchanged : (w : ℕ) → made_good w 0 ≡ w
            unchanged w = omega arith

        stays : (stream : List ℕ) → HasPassed known stream old → HasPassed known stream tried
        stays stream h =
            let first : mid.sought.first_frame ≡ old.sought.first_frame = ap (λ (s : Sought). s.first_frame) t.sought in
            let count : mid.position - mid.sought.first_frame ≡ old.position - old.sought.first_frame = omega (arith, place, first) in
            record {
              start = omega (arith, h.start, place, first);
              counted = omega (arith, t.counted, h.counted, place);
              inside = omega (arith, count, h.inside, length-drop mid.sought.first_frame stream, length-drop old.sought.first_frame stream, first);
              passes =
                  subst (λ (e : Cost). Passes known mid.sought stream (mid.position - mid.sought.first_frame) e) (sym (same_cost h.counted))
                  (subst (λ (n : ℕ). Passes known mid.sought stream n (search_cost old)) (sym count)
                  (subst (λ (s : Sought). Passes known s stream (old.position - old.sought.first_frame) (search_cost old)) (sym t.sought) h.passes));
            }

        module _ (r : Result Event Error) (sound : EventIsSound known capacity at bytes is_end mid.decoder r d) (of_stream : EventIsOfStream known capacity at bytes is_end mid.decoder r d) where
          of_all : (stream : List ℕ) → StandsIn stream at bytes is_end → IsAnswer r → EventIs (known_format known) (drop old.position stream) true capacity old.position r (decoder_position d)
          of_all stream stands answer = subst (λ (p : ℕ). EventIs (known_format known) (drop p stream) true capacity p r (decoder_position d)) decoder_place (of_stream stream stands answer)

        vain : (read : Event) → IsVain read → EventIsOfStream known capacity at bytes is_end mid.decoder (Ok read) d → (new : ByteSearch) → IsVainAt samples tried None new → IsAtByte at bytes is_end known old (Ok None) new
        vain read is of_stream new v =
            let moved : new.position ≡ old.position + 1 = omega (arith, v.position, place) in
            passes_byte new (v.sought ∙ t.sought) moved (λ stream stands h.
            let e = subst (λ (p : ℕ). EventIs (known_format known) (drop p stream) true capacity p (Ok read) (decoder_position d)) decoder_place (of_stream stream stands (is_answer read is)) in
            let k = read_in_vain known (drop old.position stream) capacity old.position (decoder_position d) info (sought stream stands).0 read is e in
            let n : ℕ = k.0 in
            let work : decoder_position d - mid.position + samples ≡ n + samples_of info = omega (arith, k.2, are, place) in
            let counted : counted_position new.budget ≡ old.position = omega (arith, v.counted, t.counted, h.counted) in
            let wasted : wasted_work new.budget ≡ charged ((search_cost old).wasted) (n + samples_of info) =
            v.wasted ∙ ap (λ (w : ℕ). charged (wasted_work mid.budget) w) work ∙ ap (λ (w : ℕ). charged w (n + samples_of info)) t.wasted in
            let cost : search_cost new ≡ after_bytes 1 (after_work (n + samples_of info) (search_cost old)) =
            cost_next new (charged ((search_cost old).wasted) (n + samples_of info)) old.has_passed_over wasted (v.passes_over ∙ (t.tried refl).2) (omega (arith, moved, counted)) in
            pass known stream old new h (v.sought ∙ t.sought) moved (omega (arith, counted)) (held_inside at bytes is_end stream stands old.position held)
            (inr (info, sought stream stands, inr (fits, (n, k.1, cost)))))

        -- what is answered, and the search after it
        as_answered : (result other : Result (Option SeekEvent) Error) (new now : ByteSearch) → result ≡ other → new ≡ now → IsAtByte at bytes is_end known old other now → IsAtByte at bytes is_end known old result new
        as_answered result other new now e f h =
            subst (λ (r : Result (Option SeekEvent) Error). IsAtByte at bytes is_end known old r new) (sym e)
            (subst (λ (n : ByteSearch). IsAtByte at bytes is_end known old other n) (sym f) h)

        first_stays : mid.sought.first_frame ≡ old.sought.first_frame
        first_stays = ap (λ (s : Sought). s.first_frame) t.sought

        placed_there : IsPlaced old → IsPlaced tried
        placed_there placed = omega (arith, placed, place, first_stays)

        -- the frame stands in the bytes that are held
        found_held : (frame : DecodedFrame Global) → EventIsSound known capacity at bytes is_end mid.decoder (Ok (Decoded frame)) d → IsPlaced old → FoundIsHeld at bytes known old.sought (Ok (found_at tried frame))
        found_held frame sound placed =
            let e = subst (λ (p : ℕ). EventIs (known_format known) (held_from at p bytes) (ends_there at p is_end) capacity p (Ok (Decoded frame)) (decoder_position d)) decoder_place sound in
            let here = held_from at old.position bytes in
            let one = same_info known here info wanted frame e.0 e.1 in
            let there = frame_there known here info wanted frame e.0 e.1 in (
              omega (arith, placed, place),
              record {
                there = subst (λ (p : ℕ). WantedFrame known None (held_from at p bytes) frame.info) (sym place) there;
                has = subst (λ (p : ℕ). HasSample old.sought p frame.info) (sym place) (subst (λ (i : BlockInfo). HasSample old.sought old.position i) (sym one) has);
                code = (
                  e.0,
                  subst (λ (p : ℕ). BeginsWithLength (FrameWithHeader (known_format known) (decoded_view frame)) (held_from at p bytes) e.0) (sym place) e.1,
                  e.2 ∙ ap (λ (p : ℕ). p + e.0) (sym place),
                );
                time = ap (λ (s : Sought). start_of s mid.position frame.info) t.sought;
              },
            )

        found : (frame : DecodedFrame Global) → EventIsSound known capacity at bytes is_end mid.decoder (Ok (Decoded frame)) d → EventIsOfStream known capacity at bytes is_end mid.decoder (Ok (Decoded frame)) d → IsAtByte at bytes is_end known old (Ok (Some (found_at tried frame))) tried
        found frame sound of_stream = record {
          moves = place;
          needs = tt;
          finds_held = λ placed. (placed_there placed, found_held frame sound placed);
          of_stream = λ stream stands h. (
            stays stream h,
            let e = subst (λ (p : ℕ). EventIs (known_format known) (drop p stream) true capacity p (Ok (Decoded frame)) (decoder_position d)) decoder_place (of_stream stream stands tt) in
                let first : mid.sought.first_frame ≡ old.sought.first_frame = ap (λ (s : Sought). s.first_frame) t.sought in
                let w = (sought stream stands).0 in
                let one = same_info known (drop old.position stream) info w frame e.0 e.1 in
                let has_it : HasSample mid.sought mid.position frame.info =
                subst (λ (s : Sought). HasSample s mid.position frame.info) (sym t.sought)
                (subst (λ (p : ℕ). HasSample old.sought p frame.info) (sym place) (subst (λ (i : BlockInfo). HasSample old.sought old.position i) (sym one) has)) in
                let there = frame_there known (drop old.position stream) info w frame e.0 e.1 in
                record {
                  after_first = omega (arith, h.start, place, first);
                  there = (subst (λ (p : ℕ). WantedFrame known None (drop p stream) frame.info) (sym place) there, has_it);
                  code = (
                    e.0,
                    subst (λ (p : ℕ). BeginsWithLength (FrameWithHeader (known_format known) (decoded_view frame)) (drop p stream) e.0) (sym place) e.1,
                    e.2 ∙ ap (λ (p : ℕ). p + e.0) (sym place),
                  );
                  time = refl;
                },
          );
        }

        pub answered : (r : Result Event Error) (result : Result (Option SeekEvent) Error) (new : ByteSearch) → EventIsSound known capacity at bytes is_end mid.decoder r d → EventIsOfStream known capacity at bytes is_end mid.decoder r d → IsAnswered samples r tried result new → IsAtByte at bytes is_end known old result new
        answered (Ok (Decoded frame)) result new sound of_stream a = as_answered result _ new tried a.0 a.1 (found frame sound of_stream)
        answered (Ok (Event_ReadOn needed)) result new sound of_stream a = as_answered result _ new tried a.0 a.1 (record {
          moves = place;
          needs = needed_more at bytes is_end known capacity mid.decoder d needed sound;
          finds_held = λ placed. (placed_there placed, tt);
          of_stream = λ stream stands h. (stays stream h, tt);
        })
        answered (Ok (Faulty fault)) result new sound of_stream a = as_answered result (Ok None) new new a.0 refl (vain (Faulty fault) tt of_stream new a.1)
        answered (Ok (Cut p)) result new sound of_stream a = as_answered result (Ok None) new new a.0 refl (vain (Cut p) tt of_stream new a.1)
        answered (Ok End) result new sound of_stream a = as_answered result (Ok None) new new a.0 refl (vain End tt of_stream new a.1)
        answered (Err e) result new sound of_stream a = as_answered result (Err e) new tried a.0 a.1 (record {
          moves = place;
          needs = tt;
          finds_held = λ placed. (placed_there placed, (error_is e sound.0, (decoder_position mid.decoder, capacity, sound.1)));
          of_stream = λ stream stands h. (
            stays stream h,
            let k = refused at bytes is_end known capacity mid.decoder d stream stands e sound in
                let first : mid.sought.first_frame ≡ old.sought.first_frame = ap (λ (s : Sought). s.first_frame) t.sought in
                (k.0, (decoder_position mid.decoder, capacity, omega (arith, h.start, first, decoder_place), k.1)),
          );
        })
