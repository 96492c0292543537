-- What stands after the last frame of a stream that is verified frame by frame.
use Rattle.std.specs.Borrow.{MutBor}
use Rattle.std.proofs.Common.{◌≡◌, ◌⊎◌, inl, inr, ◌<◌, ◌+◌, ◌%◌, ◌^◌, ℕ, Bool, false, List, [], ◌∷◌, ◌++◌, length, refl, sym, ap, arith, subst, ◌∙◌, append-nil}
use Rattle.std.specs.Prelude.{IsTrue, Option, None, Some, Ok, Err, Result, ◌↔◌}
use Rattle.claxon.specs.DecodedFrame.{FrameWithHeader, decoded_view}
use Rattle.claxon.specs.DecodedFrames.{DecodedFrame}
use Rattle.claxon.specs.Error.{IsFault, IsIo, is_io, is_out_of_memory}
use Rattle.claxon.specs.Errors.{Error}
use Rattle.claxon.specs.Fault.{Fault, SyncMissing}
use Rattle.claxon.specs.Frame.{StreamFormat}
use Rattle.claxon.specs.FrameReader.{FrameAnswer, ReadsFrame}
use Rattle.claxon.specs.Gives.{ReadFailedIn}
use Rattle.claxon.specs.Promises.{Consumed}
use Rattle.claxon.specs.Source.{Source}
use Rattle.claxon.specs.MetadataBlock.{info_view, or_zero}
use Rattle.claxon.specs.RunningReader.{running_inner}
use Rattle.claxon.specs.SampleRuns.{lent}
use Rattle.claxon.specs.State.{State, RemainingIsKnown, bytes_in, final_values}
use Rattle.claxon.specs.StreamInfos.{StreamInfo}
use Rattle.claxon.specs.Streaminfo.{Streaminfo}
use Rattle.claxon.specs.RunningReaders.{RunningReader}
use Rattle.claxon_blocks.specs.FirstBytes.{AreFirst}
use Rattle.claxon_blocks.specs.Frames.{Is32BitFault, IsNotWhole}
use Rattle.claxon_blocks.specs.declared.frames.FrameError.{FrameError}
use Rattle.claxon_blocks.proofs.BlockReads.{BlockIsRead, io_not_fault}
use Rattle.claxon_report.specs.Places.{Scans, begun_or, begun_scan, places_at, scan_parts}
use Rattle.claxon_verify.specs.Trailing.{AreBytes, EndsWithTail, IsLast, IsOfFault, IsOfTail, KeepsFault, KeepsFrame, KeepsIfBegun, KeepsLast, TailOf, TrailingIs, TrailingIsTold, TrailingOf, WalksToTail, scan_of}
use Rattle.claxon_blocks.specs.Md5Verdict.{Md5IsJudged, Md5IsShown}
use Rattle.claxon_report.specs.Kept.{AreKept, Keeps}
use Rattle.claxon_heads.specs.StreamHead.{FoundHead}
use Rattle.claxon_heads.specs.BytesRead.{counted_bytes, last_of, last_read, position_of}
use Rattle.claxon_report.specs.Report.{NothingIsWrong}
use Rattle.claxon_verify.specs.Verify.{Counted, Counts, Md5Is, frames_of, report_view, sum_of}
use Rattle.claxon_verify.specs.Walk.{AddsFault, AddsFrame, BeginsWalk, EndsWalk}
use Rattle.claxon_heads.specs.declared.bytes_read.BytesRead.{BytesRead}
use Rattle.claxon_report.specs.declared.place.Damage.TheVariants.{Fault as FaultDamage}
use Rattle.claxon_report.specs.declared.place.Place.{Place}
use Rattle.claxon_report.specs.declared.report.Report.{Report}
use Rattle.claxon_heads.specs.declared.head.UnsupportedBlock.{UnsupportedBlock}
use Rattle.claxon_report.specs.declared.scan.Begun.{Begun}
use Rattle.claxon_report.specs.declared.scan.Scan.{Scan}
use Rattle.claxon_verify.specs.declared.walk.ByteRange.{ByteRange}
use Rattle.claxon_verify.specs.declared.walk.Walk.{Walk}
use Rattle.claxon_verify.proofs.SyncCodes.{fault_syncs, first_is_255, frame_syncs, not_whole_syncs}
use Rattle.claxon_verify.proofs.Trailed.{GoesOn, bytes_after, bytes_before, frame_goes_on, left_bytes, no_tail, part_goes_on, place_byte, tail_more, told}
use Rattle.claxon_verify.proofs.PartsVerified.{right_report}
use Rattle.claxon_verify.proofs.Verified.{HeadIsConsumed, counted_from, failed_since, head_code, judged_md5, restart, shown_md5}
use Rattle.claxon_heads.proofs.Positions.{position_modulo, read_after}
use Rattle.claxon_verify.proofs.Walking.{WalkedSoFar, cut_found, eof_found, eof_reached, fault_consumed, kept_err, scan_fault}

-- ---- one part more

-- The bytes from the place on that goes on are kept.
pub record FramesTail {R A : Type 0} (source : R → Source ℕ) (x y : RunningReader R BytesRead) (walk : Walk A) : Type 0 where
  pub is : RemainingIsKnown (counted_bytes source x) → AreBytes (counted_bytes source x).remaining
      → TailOf (position_of x) (counted_bytes source x).remaining (position_of y % 2 ^ 64) (counted_bytes source y).remaining walk.scan.begun walk.after

pub no_frames : {R A : Type 0} (source : R → Source ℕ) (x : RunningReader R BytesRead) {computes_md5 : Bool} {more : ℕ} (walk : Walk A) → BeginsWalk computes_md5 more walk → IsOfTail [] walk.after → FramesTail source x x walk
no_frames source x walk begins kept = record {
  is = λ k bytes.
      subst (λ (z : Scan). TailOf (position_of x) (counted_bytes source x).remaining (position_of x % 2 ^ 64) (counted_bytes source x).remaining z.begun walk.after) (sym begins.scan_is)
      (no_tail (position_of x) (counted_bytes source x).remaining (position_of x % 2 ^ 64) walk.after refl kept);
}

-- the bytes that are left, fewer than two
are_last : (span : ByteRange) (last other : ℕ) (rest : List ℕ) → length rest < 2 → span.start < 2 ^ 64 → span.end < 2 ^ 64 → span.end % 2 ^ 64 ≡ (span.start + length rest) % 2 ^ 64 → last ≡ last_of other rest → IsLast span last rest
are_last span last other [] few start end moved is = omega (arith, start, end, moved)
are_last span last other (y ∷ []) few start end moved is = (λ e. absurd (omega (arith, e, moved)), is, refl)
are_last span last other (y ∷ z ∷ rest) few start end moved is = absurd (omega (arith, few))

module _ {R : Type 0} (source : R → Source ℕ) (x y z : RunningReader R BytesRead) {A : Type 0} (walk more : Walk A) (h : FramesTail source x y walk) (known : RemainingIsKnown (counted_bytes source x) → RemainingIsKnown (counted_bytes source y)) where
  module _ (values : RemainingIsKnown (counted_bytes source y) → final_values (counted_bytes source z) ≡ final_values (counted_bytes source y)) (k : RemainingIsKnown (counted_bytes source x)) (bytes : AreBytes (counted_bytes source x).remaining) (l : RemainingIsKnown (counted_bytes source z)) (t : List ℕ) (joined : (counted_bytes source y).remaining ≡ t ++ (counted_bytes source z).remaining) where
    tail_step : GoesOn (position_of y % 2 ^ 64) walk.scan.begun more.scan.begun → KeepsIfBegun more.scan.begun t walk.after more.after
        → TailOf (position_of x) (counted_bytes source x).remaining (position_of z % 2 ^ 64) (counted_bytes source z).remaining more.scan.begun more.after
    tail_step goes keeps =
        let p = position_modulo source y z (known k) l (values (known k)) t joined in
        tail_more (h.is k bytes) t (counted_bytes source z).remaining joined (position_of z % 2 ^ 64) (omega (arith, p)) more.after more.scan.begun goes keeps

    bytes_here : AreBytes (t ++ (counted_bytes source z).remaining)
    bytes_here = subst AreBytes joined (left_bytes (h.is k bytes) bytes)

  at_byte : (byte : ℕ) → byte ≡ position_of y → byte < 2 ^ 64 → GoesOn byte walk.scan.begun more.scan.begun → GoesOn (position_of y % 2 ^ 64) walk.scan.begun more.scan.begun
  at_byte byte is small goes = (let same : byte ≡ position_of y % 2 ^ 64 = omega (arith, is, small) in subst (λ (n : ℕ). GoesOn n walk.scan.begun more.scan.begun) same goes)

  module _ (info : Streaminfo) (stream : Option StreamFormat) (byte : ℕ) (byte_is : byte ≡ position_of y) (small : byte < 2 ^ 64) where
    pub frame_tail : {B : Type 0} (frame : DecodedFrame B) → BlockIsRead stream (Ok (Some frame.block)) (counted_bytes source y) (counted_bytes source z) → Consumed (counted_bytes source y) (counted_bytes source z) (FrameWithHeader stream (decoded_view frame)) → AddsFrame info frame byte walk more
        → KeepsFrame more.scan.begun walk.after more.after → FramesTail source x z more
    frame_tail frame read consumed adds keeps = record {
      is = λ k bytes.
          let w = consumed (known k) in
          let t = w.1.0 in
          let values = read.kept.2 in
          let first = first_is_255 t (bytes_before t (counted_bytes source z).remaining (bytes_here values k bytes w.0 t w.1.2)) (frame_syncs stream (decoded_view frame).block t w.1.1.0) in
          let goes = subst (λ (s : Scan). GoesOn byte walk.scan.begun s.begun) (sym adds.scan_is) (frame_goes_on info byte adds.found walk.scan) in
          tail_step values k bytes w.0 t w.1.2 (at_byte byte byte_is small goes) (subst (λ (s : List ℕ). KeepsIfBegun more.scan.begun s walk.after more.after) (sym first.1) (keeps first.0));
    }

    -- what is wrong begins a place, or stands in one
    fault_goes_on : {end : ℕ} (fault : FrameError) → AddsFault fault byte end walk more → GoesOn byte walk.scan.begun more.scan.begun
    fault_goes_on fault adds = subst (λ (s : Scan). GoesOn byte walk.scan.begun s.begun) (sym adds.scan_is) (part_goes_on info walk.scan byte (Err fault))

    pub fault_tail : {end : ℕ} (fault : FrameError) → BlockIsRead stream (Err fault.error) (counted_bytes source y) (counted_bytes source z)
        → ((f : Fault) → IsFault f fault.error → RemainingIsKnown (counted_bytes source y) → AreFirst fault.first (counted_bytes source y).remaining (counted_bytes source z).remaining) → is_io fault.error ≡ false → is_out_of_memory fault.error ≡ false → AddsFault fault byte end walk more → KeepsFault fault walk.after more.after → FramesTail source x z more
    fault_tail fault read first io memory adds keeps = record {
      is = λ k bytes.
          let f = fault_consumed fault.error (counted_bytes source z) read io memory (known k) in
          let w = f.2 (known k) in
          let t = w.1.0 in
          let n = (counted_bytes source z).remaining in
          let values = kept_values fault.error io memory read in
          let here = bytes_here values k bytes w.0 t w.1.2 in
          let are = subst (λ (s : List ℕ). AreFirst fault.first s n) w.1.2 (first f.0 f.1 (known k)) in
          let of : IsOfFault fault t n = elim (fault_syncs stream f.0 t w.1.1) [
            | inl none ↦ inl (subst (λ (e : Fault). IsFault e fault.error) none.0 f.1, none.1, are)
            | inr syncs ↦ (let one = first_is_255 t (bytes_before t n here) syncs in inr (one.0, one.1, λ e. are))
          ] in
          tail_step values k bytes w.0 t w.1.2 (at_byte byte byte_is small (fault_goes_on fault adds))
          (subst (λ (s : Scan). KeepsIfBegun s.begun t walk.after more.after) (sym adds.scan_is) (keeps t n here of));
    }
      where
        kept_values : (e : Error) → is_io e ≡ false → is_out_of_memory e ≡ false → BlockIsRead stream (Err e) (counted_bytes source y) (counted_bytes source z) → RemainingIsKnown (counted_bytes source y) → final_values (counted_bytes source z) ≡ final_values (counted_bytes source y)
        kept_values e io memory read = (kept_err e io memory read.kept).2

    -- a frame that isn't whole is the last one
    pub cut_tail : {failed : Type 0} {end : ℕ} (fault : FrameError) → IsIo fault.error → (RemainingIsKnown (counted_bytes source y) → IsNotWhole stream (counted_bytes source y).remaining ⊎ failed) → AddsFault fault byte end walk more → KeepsFault fault walk.after more.after → RemainingIsKnown (counted_bytes source x) → AreBytes (counted_bytes source x).remaining
        → EndsWithTail failed (position_of x) (counted_bytes source x).remaining more.scan.begun more.after
    cut_tail fault io why adds keeps k bytes place e =
        let p = h.is k bytes in
        let rest = (counted_bytes source y).remaining in
        let here : Begun = record { byte = position_of y % 2 ^ 64; sample = walk.scan.due.sample; damage = FaultDamage fault } in
        let same : byte ≡ position_of y % 2 ^ 64 = omega (arith, byte_is, small) in
        let begun : Some (begun_or walk.scan.begun here) ≡ Some place = ap (λ (n : ℕ). Some (begun_or walk.scan.begun (record { byte = n; sample = walk.scan.due.sample; damage = FaultDamage fault }))) (sym same) ∙ ap (λ (s : Scan). s.begun) (sym adds.scan_is) ∙ e in
        let is : begun_or walk.scan.begun here ≡ place = cc in (
          p.tail ++ rest,
          record { front = p.front; joined = p.joined; position_is = subst (λ (b : Begun). b.byte ≡ (position_of x + length p.front) % 2 ^ 64) is (place_byte p walk.scan.begun refl here refl) },
          elim (why (known k)) [
            | inl n ↦ (
                let all = left_bytes p bytes in
                let one = first_is_255 rest all (not_whole_syncs stream rest n) in
                inl (keeps rest [] (subst AreBytes (sym (append-nil rest)) all) (inr (one.0, one.1, λ f. absurd (io_not_fault SyncMissing fault.error io f))) p.tail p.kept)
                )
            | inr f ↦ inr f
          ],
        )

  -- fewer than two bytes are left
  pub eof_tail : {failed : Type 0} {stream : Option StreamFormat} {r : FrameAnswer} {end : ℕ} (span : ByteRange) (last : ℕ) → r ≡ Ok None → ReadsFrame stream r (counted_bytes source y) (counted_bytes source z) → (RemainingIsKnown (counted_bytes source y) → length (counted_bytes source y).remaining < 2) → span.start ≡ position_of y → span.end ≡ position_of z → span.start < 2 ^ 64 → span.end < 2 ^ 64
      → last ≡ last_read z → EndsWalk end walk more → KeepsLast span last walk.after more.after → RemainingIsKnown (counted_bytes source x) → AreBytes (counted_bytes source x).remaining → EndsWithTail failed (position_of x) (counted_bytes source x).remaining more.scan.begun more.after
  eof_tail span last e read few start_is end_is start_fits end_fits last_is ends keeps k bytes place begun =
      let p = h.is k bytes in
      let rest = (counted_bytes source y).remaining in
      let q = (eof_reached e read).known (known k) in
      let none : length (counted_bytes source z).remaining ≡ 0 = ap length q.is.1 in
      let after = read_after source y z (known k) q.known q.values in
      let at = after.0 in
      let moved : span.end % 2 ^ 64 ≡ (span.start + length rest) % 2 ^ 64 = omega (arith, at, none, start_is, end_is) in
      let byte : last ≡ last_of (last_read y) rest = last_is ∙ sym (ap (last_of (last_read z)) q.is.1) ∙ after.1 in (
        p.tail ++ rest,
        record { front = p.front; joined = p.joined; position_is = p.place place (ap (λ (s : Scan). s.begun) (sym ends.scan_is) ∙ begun) },
        inl (keeps rest (are_last span last (last_read y) rest (few (known k)) start_fits end_fits moved byte) p.tail p.kept),
      )

-- ---- the end

pub eof_to_tail : {A : Type 0} {computes_md5 : Bool} {stream : Option StreamFormat} {info : Streaminfo} {start : ℕ} {a b : State ℕ} {count : ℕ} {walk : Walk A} (h : WalkedSoFar computes_md5 stream info start a b count walk) {more : Walk A} (end : ℕ) (c : State ℕ) → count + 1 < 2 ^ 64 → BlockIsRead stream (Ok None) b c → (RemainingIsKnown a → end ≡ (start + length a.remaining) % 2 ^ 64) → EndsWalk end walk more
    → (RemainingIsKnown a → AreBytes a.remaining → EndsWithTail (ReadFailedIn a c) start a.remaining more.scan.begun more.after) → WalksToTail computes_md5 stream info start a c more
unfolding Rattle.claxon_verify.proofs.Walking.eof_found
eof_to_tail {info = info} {walk = walk} h {more = more} end c bound read at_end ends tail k counts counted =
    let w = eof_found h end c bound read at_end ends k counts counted in
    let p = h.is k in
    (w.0, w.1, ends.scan_is ∙ sym (ap (λ (s : Scans). s.scan) (ap (scan_parts info (record { scan = begun_scan; places = [] })) (append-nil p.found) ∙ p.scan)), refl, tail k)

pub cut_to_tail : {A : Type 0} {computes_md5 : Bool} {stream : Option StreamFormat} {info : Streaminfo} {start : ℕ} {a b : State ℕ} {count : ℕ} {walk : Walk A} (h : WalkedSoFar computes_md5 stream info start a b count walk) {byte end : ℕ} (at : RemainingIsKnown a → (front : List ℕ) → a.remaining ≡ front ++ b.remaining → byte ≡ (start + length front) % 2 ^ 64) {more : Walk A} (fault : FrameError) (c : State ℕ) → (bound : count + 1 < 2 ^ 64)
    → (read : BlockIsRead stream (Err fault.error) b c) → (is_32_bit : RemainingIsKnown b → IsTrue fault.is_32_bit ↔ Is32BitFault b.remaining fault.error) → (io : IsIo fault.error) → (adds : AddsFault fault byte end walk more) → (RemainingIsKnown a → AreBytes a.remaining → EndsWithTail (ReadFailedIn a c) start a.remaining more.scan.begun more.after) → WalksToTail computes_md5 stream info start a c more
unfolding Rattle.claxon_verify.proofs.Walking.cut_found
cut_to_tail {info = info} {walk = walk} h {byte = byte} at {more = more} fault c bound read is_32_bit io adds tail k counts counted =
    let w = cut_found h at fault c bound read is_32_bit io adds k counts counted in
    let p = h.is k in
    (w.0, w.1, sym (ap (λ (s : Scans). s.scan) (scan_fault info p.found byte fault walk.scan more.scan p.places p.scan adds.scan_is)), refl, tail k)

-- ---- a whole stream

pub frames_told : {a m : State ℕ} (b : State ℕ) {head : FoundHead} {stream : Option StreamFormat} {start : ℕ} (h : HeadIsConsumed a m head stream start) (computes_md5 : Bool) {A B : Type 0} (info : StreamInfo) (walk : Walk A) (report : Report B) (of_info : head.info ≡ info_view info) (unsupported_is : report.unsupported ≡ head.unsupported) (walks : WalksToTail computes_md5 stream (info_view info) start m b walk) (info_is : report.info ≡ info)
    (frames_are : report.found.frames ≡ walk.frames) (samples_are : report.found.samples ≡ walk.samples) (kept : (all : List Place) → Keeps all walk.places → AreKept (places_at walk.end (or_zero info.samples) (record { scan = walk.scan; places = all })) report.found.places.first report.found.places.more.items report.found.places.left_out) (sizes_are : report.found.notes.changed_block_size ≡ walk.sizes.changed)
    (md5_is : Md5IsJudged (info_view info) walk.md5 report.md5) (md5_shown : Md5IsShown walk.md5 report.computed_md5) (unsupported : Option UnsupportedBlock) (given : report.unsupported ≡ unsupported) (right : IsTrue report.is_right ↔ ((unsupported ≡ None) × NothingIsWrong report.found (or_zero info.samples) report.md5)) (trailing : TrailingOf info.samples walk report.trailing) → TrailingIsTold computes_md5 a (Ok report) b
unfolding Rattle.claxon_verify.proofs.Verified.counted_from
frames_told {a} {m} b {head} {stream} {start} h computes_md5 info walk report of_info unsupported_is walks info_is frames_are samples_are kept sizes_are md5_is md5_shown unsupported given right trailing known bytes =
    let s = h.is known in
    let n : ℕ = length s.0 in
    let counts : Counts = (report_view report).counts in
    let w = walks (h.known known) counts (record { frames_are = frames_are; samples_are = samples_are; kept = kept; sizes_are = sizes_are }) in
    let k = counted_from (failed_since b h) n start s.3 m.remaining counts w.0 in
    let first : Judged n counts stream (info_view info) =
    (k.0, judged_md5 computes_md5 (info_view info) (frames_of w.0.parts) walk.md5 report.md5 w.1 md5_is, shown_md5 computes_md5 (info_view info) (frames_of w.0.parts) walk.md5 report.computed_md5 w.1 md5_shown, w.2, w.3) in
    let j = subst (λ (z : Option StreamFormat). Judged n counts z head.info) h.stream_is (subst (Judged n counts stream) (sym of_info) first) in
    let tail : EndsWithTail (ReadFailedIn a b) n m.remaining walk.scan.begun walk.after = λ place e.
    let t = w.4 (bytes_after s.0 m.remaining (subst AreBytes s.2 bytes)) place e in
    (t.0, record { front = t.1.front; joined = t.1.joined; position_is = restart n start (length t.1.front) place.byte s.3 t.1.position_is }, elim t.2 [ inl q ↦ inl q | inr f ↦ inr (failed_since b h f) ]) in (
      record {
        head = head;
        front = s.0;
        bytes = m.remaining;
        code = head_code a.remaining head s.0 m.remaining s.1 s.2;
        joined = s.2;
        info = ap info_view info_is ∙ sym of_info;
        unsupported = unsupported_is;
        counted = j.0;
        md5_is = j.1;
        sum_is = j.2;
        right = right_report report unsupported info given info_is right;
      },
      subst (λ (i : StreamInfo). TrailingIs (ReadFailedIn a b) i.samples (scan_of head.info (j.0.found ++ j.0.last)) n m.remaining j.0.end report.trailing) (sym info_is)
          (told (ReadFailedIn a b) info.samples walk (scan_of head.info (j.0.found ++ j.0.last)) n m.remaining j.0.end j.3 j.4 tail report.trailing trailing),
    )
  where
    -- counted, and so
    Judged : ℕ → Counts → Option StreamFormat → Streaminfo → Type 0
    Judged n counts z i =
        (c : Counted (ReadFailedIn a b) z i n m.remaining counts) × Md5Is computes_md5 i (frames_of c.parts) report.md5 × (report.computed_md5 ≡ sum_of computes_md5 i (frames_of c.parts)) × (walk.scan ≡ scan_of i (c.found ++ c.last)) × (walk.end ≡ c.end)

-- through the reader that counts bytes
pub frames_through : {R A : Type 0} (source : R → Source ℕ) (input : MutBor R) (x y : RunningReader (MutBor R) BytesRead) → running_inner x ≡ input → (computes_md5 : Bool) (result : Result (Report A) Error) → TrailingIsTold computes_md5 (counted_bytes (lent source) x) result (counted_bytes (lent source) y) → TrailingIsTold computes_md5 (bytes_in source input.now) result (bytes_in source (running_inner y).now)
unfolding bytes_in
frames_through {R = R} source input x y at computes_md5 result h = subst (λ (z : MutBor R). TrailingIsTold computes_md5 (bytes_in source z.now) result (bytes_in source (running_inner y).now)) at h
