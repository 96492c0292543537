-- The next frame of a stream in pieces.
use Rattle.std.proofs.Common.{◌≡◌, inl, inr, ℕ, zero, suc, ◌-◌, ◌*◌, ◌≤◌, Bool, true, false, List, [], ◌∷◌, ◌++◌, length, take, drop, Option, Some, refl, sym, subst}
use Rattle.std.specs.Prelude.{Result, Ok, Err, if◌then◌else◌, nat_lt}
use Rattle.std.proofs.lemmas.List.{take-append-drop}
use Rattle.std.proofs.lemmas.Bool.{cases_lt}
use Rattle.claxon.specs.Block.{BlockValue}
use Rattle.claxon.specs.BlockInfo.{HeaderOf}
use Rattle.claxon.specs.BlockInfos.{BlockInfo}
use Rattle.claxon.specs.Errors.{Error}
use Rattle.claxon.specs.FrameReader.{HeaderOfLargerBlock, block_view}
use Rattle.claxon.specs.Prefix.{BeginsWith}
use Rattle.claxon.specs.StreamInfos.{StreamInfo}
use Rattle.claxon.specs.Streams.{duration_of}
use Rattle.claxon_seek.proofs.Searches.{begins_longer}
use Rattle.claxon_stream.specs.FrameDecoder.{IsWaiting, decoder_position}
use Rattle.claxon_stream.specs.Held.{held_from}
use Rattle.claxon_stream.specs.declared.event.Event.{Event}
use Rattle.claxon_stream.specs.declared.event.Event.TheVariants.{Decoded, ReadOn}
use Rattle.claxon_stream.specs.declared.event.NeededBytes.{NeededBytes}
use Rattle.claxon_stream.specs.declared.frames.FrameDecoder.{FrameDecoder}
use Rattle.claxon_stream.proofs.Waiting.{cut_is_complete, end_is_complete, fault_is_charged, fault_is_complete, fault_is_timely, frame_is_complete, frame_is_timely, of_stream, read_on_is_complete, sound, waste_is_in_vain}
use Rattle.claxon_c.specs.declared.frames.ClaxonFrames.{ClaxonFrames}
use Rattle.claxon_c.specs.declared.heads.ClaxonInfo.{ClaxonInfo}
use Rattle.claxon_c.specs.declared.next_block.ClaxonBlock.{ClaxonBlock}
use Rattle.claxon_c.specs.Frames.{IsBlockOrStatus, FramesWait, IsNextEvent, NextFrame, NextLargerIsTold, ShowsNext, next_frames}
use Rattle.claxon_c.specs.HeldBytes.{frame_bytes, frame_end, is_full, says_yes}
use Rattle.claxon_c.specs.declared.held.TheConstants.{MAX_FRAME_BYTES}
use Rattle.claxon_c.specs.Info.{known_info, known_stream}
use Rattle.claxon_c.specs.Status.{need_more}
use Rattle.claxon_c.proofs.BlockCalls.{says_block}
use Rattle.claxon_c.proofs.HeadersAtStart.{says_larger}

-- the event where nothing is tried
pub waits : (known : Option StreamInfo) (at : ℕ) (bytes : List ℕ) (is_end : ℕ) (old new : FrameDecoder) (needed : NeededBytes) → IsWaiting at bytes (says_yes is_end) old (Some needed) new → IsNextEvent known at bytes is_end old (Ok (ReadOn needed)) new
waits known at bytes is_end old new needed w = record {
  capacity = 0;
  is_sound = sound needed w known 0;
  is_of_stream = of_stream needed w known 0;
  frame_is_complete = frame_is_complete needed w known 0;
  fault_is_complete = fault_is_complete needed w known 0;
  end_is_complete = end_is_complete needed w known 0;
  cut_is_complete = cut_is_complete needed w known 0;
  read_on_is_complete = read_on_is_complete needed w known 0;
  keeps_notes = w.keeps_notes known;
  frame_is_timely = frame_is_timely needed w known 0;
  fault_is_timely = fault_is_timely needed w known 0;
  waste_is_in_vain = waste_is_in_vain needed w known 0;
  fault_is_charged = fault_is_charged needed w known 0;
}

-- ---- as many bytes as a frame may have

prefix_there : (d n : ℕ) (bytes : List ℕ) → (rest : List ℕ) × (drop d bytes ≡ drop d (take n bytes) ++ rest)
prefix_there zero n bytes = (drop n bytes, sym (take-append-drop n bytes))
prefix_there (suc d) zero [] = ([], refl)
prefix_there (suc d) (suc n) [] = ([], refl)
prefix_there (suc d) zero (b ∷ bytes) = (drop d bytes, refl)
prefix_there (suc d) (suc n) (b ∷ bytes) = prefix_there d n bytes

-- those that are held begin with them
held_begins : (at position : ℕ) (bytes : List ℕ) → (rest : List ℕ) × (held_from at position bytes ≡ held_from at position (frame_bytes at position bytes) ++ rest)
held_begins at position bytes = pick (nat_lt position at)
  where
    count : ℕ
    count = length bytes - (length (held_from at position bytes) - MAX_FRAME_BYTES)

    pick : (b : Bool) → (rest : List ℕ) × ((if b then [] else drop (position - at) bytes) ≡ (if b then [] else drop (position - at) (take count bytes)) ++ rest)
    pick true = ([], refl)
    pick false = prefix_there (position - at) count bytes

-- ---- what is shown of the next event

module _ (info : ClaxonInfo) (at : ℕ) (bytes : List ℕ) (is_end capacity : ℕ) (old : ClaxonFrames) (next : FrameDecoder) (block shown : ClaxonBlock) (before after : List ℕ)
    (fits : BeginsWith (HeaderOfLargerBlock (known_stream info) capacity) (held_from at (decoder_position old.decoder) bytes) → ⊥) where
  abbrev window : List ℕ
  window = frame_bytes at (decoder_position old.decoder) bytes

  abbrev ends : ℕ
  ends = frame_end at (decoder_position old.decoder) bytes is_end

  -- the samples of a frame fit, as its header says
  frame_fits : (said : BlockInfo) (found : BlockValue) → IsNextEvent (known_info info) at window ends old.decoder (Ok (Decoded (record { info = said; block = found }))) next → length found.channels * duration_of found.channels ≤ capacity
  frame_fits said found e =
      let h = e.is_sound in
      let k = h.1 in
      let rest = held_from at (decoder_position old.decoder) window in
      let all = held_begins at (decoder_position old.decoder) bytes in
      let stream = known_stream info in
      let header = begins_longer k.0 k.1 k.2.1 in
      let there = subst (BeginsWith (HeaderOf stream said)) (sym k.3) header in
      let says = says_block stream rest said (block_view found) there (k.0, k.1, k.2.0, k.3) in
      elim (cases_lt capacity (said.channels * said.duration)) [
        | inl lt ↦ absurd (fits (subst (BeginsWith (HeaderOfLargerBlock stream capacity)) (sym all.1) (begins_longer rest all.0 (says_larger stream rest capacity said there lt))))
        | inr le ↦ rw (← says.channels, ← says.duration_is) le
      ]

  pub next_shown : (event : Result Event Error) (r : Result BlockValue ℕ) → IsBlockOrStatus (is_full at (decoder_position old.decoder) bytes) block shown before after event r → IsNextEvent (known_info info) at window ends old.decoder event next → NextFrame info at bytes is_end capacity old r (next_frames old event next) block shown before after
  next_shown event (Ok found) (said, is, shows, same) e = rw is (
    record { said = said; is_next = rw is at e; needed = refl; last = refl; fits = frame_fits said found (rw is at e); shows = shows },
    same,
  )
  next_shown event (Err status) h e = inr (event, next, e, h, refl)

  pub larger_told : (r : Result BlockValue ℕ) → NextLargerIsTold info at bytes capacity old r
  larger_told (Ok found) = fits
  larger_told (Err status) = λ larger. absurd (fits larger)

-- where bytes are needed, that is the next event
pub waits_next : (info : ClaxonInfo) (at : ℕ) (bytes : List ℕ) (is_end : ℕ) (old new : ClaxonFrames) (block : ClaxonBlock) (text : List ℕ) → FramesWait at bytes is_end old true new → ShowsNext info at bytes is_end old need_more new block block text text
waits_next info at bytes is_end old new block text (needed, next, w, are) = (Ok (ReadOn needed), next, waits (known_info info) at (frame_bytes at (decoder_position old.decoder) bytes) (frame_end at (decoder_position old.decoder) bytes is_end) old.decoder next needed w, (refl, refl, refl), are)
