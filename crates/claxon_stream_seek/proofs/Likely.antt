-- The frame to which headers led.
use Rattle.std.proofs.Common.{◌≡◌, inl, inr, ℕ, ◌+◌, ◌≤◌, Bool, List, drop, Option, None, refl, sym, ap, subst, ◌∙◌, arith}
use Rattle.std.specs.Prelude.{Result, Ok, Err}
use Rattle.claxon.specs.DecodedFrame.{FrameWithHeader, decoded_view}
use Rattle.claxon.specs.Errors.{Error}
use Rattle.claxon.specs.StreamInfos.{StreamInfo}
use Rattle.claxon_seek.specs.Find.{known_format}
use Rattle.claxon_stream.specs.DecodedAtStart.{BeginsWithLength}
use Rattle.claxon_stream.specs.FrameDecoder.{EventIsOfStream, EventIsSound, decoder_position}
use Rattle.claxon_stream.specs.Held.{StandsIn, held_from}
use Rattle.claxon_stream.specs.declared.event.Event.{Event}
use Rattle.claxon_stream.specs.declared.event.Event.TheVariants.{Cut, Decoded, End, Faulty, ReadOn as Event_ReadOn}
use Rattle.claxon_stream.specs.declared.frames.FrameDecoder.{FrameDecoder}
use Rattle.claxon_stream.proofs.TriedFrames.{frame_there}
use Rattle.claxon_stream_seek.specs.Search.{FoundIsHeld, answer_at}
use Rattle.claxon_stream_seek.specs.Seeker.{LikelyIsAnswered, sought_by}
use Rattle.claxon_stream_seek.specs.Sought.{SeekEventIs}
use Rattle.claxon_stream_seek.specs.declared.event.SeekEvent.{SeekEvent}
use Rattle.claxon_stream_seek.specs.declared.seeker.Seeker.{Seeker}
use Rattle.claxon_stream_seek.proofs.Passing.{decoded, error_is, header_of, refused}

module _ (at : ℕ) (bytes : List ℕ) (is_end : Bool) (known : Option StreamInfo) (old : Seeker) (position : ℕ) (here : position ≡ decoder_position old.likely) (after : old.search.sought.first_frame ≤ position) (capacity : ℕ) (d : FrameDecoder) where
  abbrev tried : Seeker
  tried = record old { likely = d }

  as_answered : (result other : Result (Option SeekEvent) Error) (stream : List ℕ) → result ≡ other → SeekEventIs known (sought_by old) stream (answer_at at bytes is_end other) → SeekEventIs known (sought_by old) stream (answer_at at bytes is_end result)
  as_answered result other stream e h = subst (λ (r : Result (Option SeekEvent) Error). SeekEventIs known (sought_by old) stream (answer_at at bytes is_end r)) (sym e) h

  pub likely_of_stream : (r : Result Event Error) (result : Result (Option SeekEvent) Error) → EventIsSound known capacity at bytes is_end old.likely r d → EventIsOfStream known capacity at bytes is_end old.likely r d → LikelyIsAnswered known position r tried result
      → (stream : List ℕ) → StandsIn stream at bytes is_end → SeekEventIs known (sought_by old) stream (answer_at at bytes is_end result)
  likely_of_stream (Ok (Decoded frame)) result sound of_stream a stream stands = elim a [
    | inr none ↦ as_answered result (Ok None) stream none tt
    | inl p ↦ (let e = decoded at bytes is_end known capacity old.likely d stream stands frame of_stream in
        let begins = subst (λ (q : ℕ). BeginsWithLength (FrameWithHeader (known_format known) (decoded_view frame)) (drop q stream) e.0) (sym here) e.1 in
        let wanted = header_of known (drop position stream) frame e.0 begins p.1.0 in
        as_answered result _ stream p.0 (record {
          after_first = after;
          there = (frame_there known (drop position stream) frame.info wanted frame e.0 begins, p.1.1);
          code = (e.0, begins, e.2 ∙ ap (λ (q : ℕ). q + e.0) (sym here));
          time = refl;
        }))
  ]
  likely_of_stream (Ok (Event_ReadOn needed)) result sound of_stream a stream stands = as_answered result _ stream a tt
  likely_of_stream (Ok (Faulty fault)) result sound of_stream a stream stands = as_answered result (Ok None) stream a tt
  likely_of_stream (Ok (Cut p)) result sound of_stream a stream stands = as_answered result (Ok None) stream a tt
  likely_of_stream (Ok End) result sound of_stream a stream stands = as_answered result (Ok None) stream a tt
  likely_of_stream (Err e) result sound of_stream a stream stands =
      let k = refused at bytes is_end known capacity old.likely d stream stands e sound in
      as_answered result (Err e) stream a (k.0, (decoder_position old.likely, capacity, omega (arith, here, after), k.1))

  as_held : (result other : Result (Option SeekEvent) Error) → result ≡ other → FoundIsHeld at bytes known (sought_by old) (answer_at at bytes is_end other) → FoundIsHeld at bytes known (sought_by old) (answer_at at bytes is_end result)
  as_held result other e h = subst (λ (r : Result (Option SeekEvent) Error). FoundIsHeld at bytes known (sought_by old) (answer_at at bytes is_end r)) (sym e) h

  pub likely_is_held : (r : Result Event Error) (result : Result (Option SeekEvent) Error) → EventIsSound known capacity at bytes is_end old.likely r d → LikelyIsAnswered known position r tried result
      → FoundIsHeld at bytes known (sought_by old) (answer_at at bytes is_end result)
  likely_is_held (Ok (Decoded frame)) result sound a = elim a [
    | inr none ↦ as_held result (Ok None) none tt
    | inl p ↦ (let begins = subst (λ (q : ℕ). BeginsWithLength (FrameWithHeader (known_format known) (decoded_view frame)) (held_from at q bytes) sound.0) (sym here) sound.1 in
        let wanted = header_of known (held_from at position bytes) frame sound.0 begins p.1.0 in
        as_held result _ p.0 (
          after,
          record {
            there = frame_there known (held_from at position bytes) frame.info wanted frame sound.0 begins;
            has = p.1.1;
            code = (sound.0, begins, sound.2 ∙ ap (λ (q : ℕ). q + sound.0) (sym here));
            time = refl;
          },
        ))
  ]
  likely_is_held (Ok (Event_ReadOn needed)) result sound a = as_held result _ a tt
  likely_is_held (Ok (Faulty fault)) result sound a = as_held result (Ok None) a tt
  likely_is_held (Ok (Cut p)) result sound a = as_held result (Ok None) a tt
  likely_is_held (Ok End) result sound a = as_held result (Ok None) a tt
  likely_is_held (Err e) result sound a = as_held result (Err e) a (error_is e sound.0, (decoder_position old.likely, capacity, sound.1))
