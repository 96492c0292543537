-- What a seek finds in a source.
use Rattle.std.proofs.Common.{◌≡◌, inl, inr, ℕ, ◌+◌, ◌-◌, ◌^◌, ◌<◌, ◌≤◌, List, [], length, Option, None, Some, refl, sym, ap, subst, ◌∙◌, arith}
use Rattle.std.specs.Prelude.{Ok, Err, unwrap_or}
use Rattle.std.proofs.lemmas.Bool.{cases_lt}
use Rattle.std.proofs.lemmas.List.{length-drop}
use Rattle.claxon.specs.BlockInfos.{BlockInfo}
use Rattle.claxon.specs.Errors.{Error}
use Rattle.claxon.specs.Errors.TheVariants.{OutOfMemory}
use Rattle.claxon.specs.StreamInfos.{StreamInfo}
use Rattle.claxon.proofs.BlockInfo.{header_has_two_bytes}
use Rattle.claxon_seek.specs.Find.{WantedFrame, known_format}
use Rattle.claxon_stream.specs.Held.{held_from}
use Rattle.claxon_stream.proofs.HeldBytes.{held_after, held_before}
use Rattle.claxon_stream_seek.specs.Search.{FoundIsHeld}
use Rattle.claxon_stream_seek.specs.Seeker.{SeekIsPlaced, SeekStartsRight}
use Rattle.claxon_stream_seek.specs.Clock.{clock_time}
use Rattle.claxon_stream_seek.specs.Sought.{IsSoughtIn, start_of}
use Rattle.claxon_stream_seek.specs.declared.clock.Clock.{Clock}
use Rattle.claxon_stream_seek.specs.declared.event.SeekEvent.TheVariants.{Found}
use Rattle.claxon_stream_seek.specs.declared.seeker.Seeker.{Seeker}
use Rattle.claxon_stream_seek.specs.declared.event.SoughtFrame.{SoughtFrame}
use Rattle.claxon_stream_seek.specs.declared.sought.Sought.{Sought}
use Rattle.claxon.specs.ShownHead.{head_streaminfo}
use Rattle.claxon_seekable.specs.Searches.{spent_budgets}
use Rattle.claxon_seekable.specs.SeekableReader.{IsAtSample, KeepsStream, NothingFailed, SeekIsCounted, shown_streaminfo}
use Rattle.claxon_seekable.specs.SourceFrames.{FindIs, FindSays, FramesStay, GoTo, IsBlockRefused, frames_held, frames_spent}
use Rattle.claxon_seekable.specs.Window.{KeepsCounts, held, place}
use Rattle.claxon_seekable.proofs.Counts.{then_failed, then_nothing, then_spent}
use Rattle.claxon_seekable.specs.declared.frames.SourceFrames.{SourceFrames}
use Rattle.claxon_seekable.specs.declared.reader.SeekableReader.{SeekableReader}
use Rattle.claxon_seekable.specs.declared.window.Window.{Window}

-- bytes that are held stand within the window
within : (at position : ℕ) (bytes : List ℕ) → 2 ≤ length (held_from at position bytes) → position < at + length bytes
within at position bytes some = elim (cases_lt position at) [
  | inl lt ↦ omega (arith, some, ap length (held_before at position bytes lt))
  | inr le ↦ omega (arith, some, le, ap length (held_after at position bytes le), length-drop (position - at) bytes)
]

two_bytes : (known : Option StreamInfo) (bytes : List ℕ) (info : BlockInfo) → WantedFrame known None bytes info → 2 ≤ length bytes
two_bytes known bytes info there =
    let k = there.wanted.header in
    elim (cases_lt (length bytes) 2) [
      | inl lt ↦ absurd (header_has_two_bytes (known_format known) info k.0 k.1 k.2 (subst (λ (s : List ℕ). length s < 2) k.3 lt))
      | inr le ↦ le
    ]

-- the position of a frame that is held has 64 bits
pub is_placed : {R : Type 0} (known : Option StreamInfo) (sought : Sought) (w : Window R) (found : SoughtFrame) → IsSoughtIn known sought (held_from (place w) found.position (held w)) found → found.position < 2 ^ 64 - 1
is_placed known sought w found is =
    let some = two_bytes known (held_from (place w) found.position (held w)) found.frame.info is.there in
    omega (arith, within (place w) found.position (held w) some, w.fits, length-drop w.taken w.bytes.items)

-- the reader goes to the frame that was found
pub goes : {R : Type 0} (sought : Sought) (now : SourceFrames R) (new : SeekableReader R) (sample : ℕ) (found : SoughtFrame) → sought.sample ≡ sample → sought.clock ≡ new.clock
    → IsSoughtIn (Some (shown_streaminfo new)) sought (frames_held now found.position) found → GoTo found.position now new.frames → IsAtSample new sample (record found.frame.info { time = found.time })
goes sought now new sample found same clock is go = record {
  header = found.frame.info;
  says = refl;
  frame =
      subst (λ (p : ℕ). WantedFrame (Some (shown_streaminfo new)) None (held_from (place new.frames.window) p (held new.frames.window)) found.frame.info) (sym go.position_is)
      (subst (λ (w : Window _). WantedFrame (Some (shown_streaminfo new)) None (held_from (place w) found.position (held w)) found.frame.info) (sym go.window) is.there);
  time =
      is.time ∙ subst (λ (k : Clock). start_of sought found.position found.frame.info ≡ unwrap_or (clock_time k found.position found.frame.info) found.frame.info.time) clock refl
      ∙ subst (λ (p : ℕ). unwrap_or (clock_time new.clock found.position found.frame.info) found.frame.info.time ≡ unwrap_or (clock_time new.clock p found.frame.info) found.frame.info.time) (sym go.position_is) refl;
  starts = omega (arith, is.has.0, is.time, same);
  ends = omega (arith, is.has.1, is.time, same);
}

-- a new seeker isn't before the first frame
pub starts_placed : (s : Seeker) → SeekStartsRight s → SeekIsPlaced s
starts_placed s right = (right None []).start

module _ (known : Option StreamInfo) (seeking sought : Sought) {R : Type 0} (old new : SourceFrames R) (decoder : new.decoder ≡ old.decoder) (counts : KeepsCounts old.window new.window) (spent : frames_spent new ≡ frames_spent old) where
  -- memory for a block was refused
  pub find_refused : (x : Error) → FoundIsHeld (place new.window) (held new.window) known seeking (Err x) → FindIs known sought old (Err x) new
  find_refused x (memory, (position, capacity, header)) =
      let is : x ≡ OutOfMemory = cc in
      record { decoder = decoder; says = inr (inr (counts, spent, (position, (is, (capacity, header))))) }

  -- a frame was found
  pub find_found : seeking ≡ sought → (found : SoughtFrame) → FoundIsHeld (place new.window) (held new.window) known seeking (Ok (Found found)) → FindIs known sought old (Ok (Some found)) new
  find_found same found held = record {
    decoder = decoder;
    says = (counts, spent, subst (λ (s : Sought). (s.first_frame ≤ found.position) × IsSoughtIn known s (frames_held new found.position) found) same held);
  }

-- a seek that found none, after the clock was told the first frames, and the length of the source
module _ {R : Type 0} (old noted new : SeekableReader R) (measured : SourceFrames R) (sought : Sought) (kept : NothingFailed old.frames noted.frames) (stream : KeepsStream old noted) (stay : FramesStay noted.frames measured) (counts : KeepsCounts noted.frames.window measured.window) where
  before : NothingFailed old.frames measured
  before = then_nothing old.frames noted.frames measured kept (counts, ap spent_budgets stay.1)

  pub seek_failed : (x : Error) → FindSays (Some (shown_streaminfo noted)) sought measured (Err x) new.frames → SeekIsCounted old (Err x) new
  seek_failed x (inl failed) = inl (then_failed old.frames measured new.frames before x failed)
  seek_failed x (inr (inl (same, io, one))) = inr (inl (then_spent old.frames measured new.frames before x (io, same, one)))
  seek_failed x (inr (inr (same, spent, (position, refused)))) = inr (inr (
    then_nothing old.frames measured new.frames before (same, spent),
    (position, subst (λ h. IsBlockRefused (Some (head_streaminfo h)) (frames_held new.frames position) x) stream.head refused),
  ))
