-- What the clock is told of what comes next.
use Rattle.std.proofs.Common.{◌≡◌, ℕ, List, Option, Some, refl, sym, subst, ◌∙◌}
use Rattle.std.specs.Prelude.{Ok}
use Rattle.std.specs.Global.{Global}
use Rattle.claxon.specs.DecodedFrames.{DecodedFrame}
use Rattle.claxon_stream.specs.declared.event.Event.{Event}
use Rattle.claxon_stream.specs.declared.event.Event.TheVariants.{Cut, Decoded, End, Faulty, ReadOn}
use Rattle.claxon_stream_seek.specs.declared.clock.Clock.{Clock}
use Rattle.claxon_seekable.specs.SeekableReader.{EventIsNoted, IsNoted, NextIsNoted, next_event_is, reader_position}
use Rattle.claxon_seekable.specs.declared.reader.SeekableReader.{SeekableReader}

module _ {R : Type 0} (old new : SeekableReader R) where
  -- of a frame it is told what its header says, and where it stands
  pub noted : (frame : DecodedFrame Global) (at end : ℕ) (told : Clock) → at ≡ reader_position old → {there : ℕ} → end ≡ there → reader_position new ≡ there → new.clock ≡ told → IsNoted at end frame.info old.clock told → EventIsNoted old (Ok (Decoded frame)) new
  noted frame at end told at_is end_is new_is clock_is h =
      subst (λ (a : ℕ). IsNoted a (reader_position new) frame.info old.clock new.clock) at_is
      (subst (λ (e : ℕ). IsNoted at e frame.info old.clock new.clock) (end_is ∙ sym new_is)
      (subst (IsNoted at end frame.info old.clock) (sym clock_is) h))

  -- of what is no frame it is told nothing
  pub not_noted : (event : Event) → ((frame : DecodedFrame Global) → event ≡ Decoded frame → ⊥) → new.clock ≡ old.clock → EventIsNoted old (Ok event) new
  not_noted (Decoded frame) other same = absurd (other frame refl)
  not_noted End other same = same
  not_noted (Faulty fault) other same = same
  not_noted (Cut at) other same = same
  not_noted (ReadOn needed) other same = same

  -- so it is of the frame of a block
  pub frame_is_noted : (remaining : R → Option (List ℕ)) (frame : DecodedFrame Global) → next_event_is remaining old (Ok (Decoded frame)) new → EventIsNoted old (Ok (Decoded frame)) new → NextIsNoted old (Ok (Some frame.block)) new
  frame_is_noted remaining frame g noted = (frame.info, g.0.says.2.1, noted)
