-- Frames and faults that are found, one after another.
use Rattle.std.proofs.Common.{◌≡◌, ◌⊎◌, ◌<◌, ◌≤◌, ◌+◌, ◌%◌, ◌^◌, ℕ, true, false, List, [], ◌∷◌, ◌++◌, length, inl, inr, refl, sym, ap, arith, subst, ◌∙◌, length-append}
use Rattle.std.specs.Prelude.{Bool, IsTrue, Option, None, Some, Ok, Err, Result, ◌↔◌}
use Rattle.std.specs.List.{sum_by}
use Rattle.std.proofs.lemmas.Grind.{flat_map-append}
use Rattle.std.proofs.lemmas.List.{append-nil}
use Rattle.std.proofs.lemmas.List.Sums.{sum_by_push}
use Rattle.claxon.specs.DecodedFrame.{FrameValue, FrameWithHeader, decoded_view}
use Rattle.claxon.specs.DecodedFrames.{DecodedFrame}
use Rattle.claxon.specs.Block.{BlockValue}
use Rattle.claxon.specs.Streams.{interleave}
use Rattle.claxon.specs.Error.{IsFault, IsIo, is_io, is_out_of_memory}
use Rattle.claxon.specs.Errors.{Error}
use Rattle.claxon.specs.Errors.TheVariants.{FormatError, IoError, OutOfMemory, Unsupported}
use Rattle.claxon.specs.Fault.{Fault}
use Rattle.claxon.specs.Frame.{FrameBytesFault, StreamFormat}
use Rattle.claxon.specs.FrameReader.{FrameAnswer, ReadsFrame, block_view}
use Rattle.claxon.specs.read.Frame.{frame_bytes_at}
use Rattle.claxon.specs.Gives.{GivesOrEofOrOutOfMemory, ReachedEof, ReadFailedIn}
use Rattle.claxon.specs.Promises.{Consumed}
use Rattle.claxon.specs.Source.{Source}
use Rattle.claxon.specs.State.{State, RemainingIsKnown, final_values}
use Rattle.claxon.specs.Streaminfo.{Streaminfo}
use Rattle.claxon.specs.RunningReaders.{RunningReader}
use Rattle.claxon.proofs.Loans.{reads_loans}
use Rattle.claxon_md5.specs.WholeBytes.{whole_bytes_of_samples}
use Rattle.claxon_md5.specs.declared.Md5.{Md5}
use Rattle.claxon_blocks.specs.Frames.{HasHeader, Is32BitFault}
use Rattle.claxon_verify.specs.RightStream.{bytes_of_frames, frame_duration, samples_of_frames}
use Rattle.claxon_report.specs.Kept.{AreKept, Keeps}
use Rattle.claxon_report.specs.Places.{FoundPart, Scans, begun_scan, damaged, list_of, places_at, scan_frame, scan_more, scan_parts}
use Rattle.claxon_heads.specs.BytesRead.{counted_bytes, position_of}
use Rattle.claxon_verify.specs.Verify.{CanBeCounted, FrameOrFault, FrameOrFaultBytes, FramesAndFaults, IsTooMany, PartsFound, StopsCounting, fault_count_of, frame_count_of, frames_of, sample_count_of}
use Rattle.claxon_blocks.specs.Frames.{IsNotWhole}
use Rattle.claxon_verify.specs.Notes.{NotesEnd, NotesFault, NotesFrame, NothingNoted, WalkIsNoted}
use Rattle.claxon_verify.specs.Walk.{AddsFault, AddsFrame, AreSizesOf, BeginsWalk, EndsWalk, ExceedsCount, WalksToEnd}
use Rattle.claxon_blocks.specs.HashBlock.{HashesToo}
use Rattle.claxon_blocks.specs.Md5Verdict.{HasHashedBytes}
use Rattle.claxon_blocks.specs.declared.frames.FrameError.{FrameError}
use Rattle.claxon_report.specs.declared.places.KeptPlaces.{KeptPlaces}
use Rattle.claxon_report.specs.declared.place.Damage.TheVariants.{Fault as FaultDamage}
use Rattle.claxon_report.specs.declared.place.Place.{Place}
use Rattle.claxon_report.specs.declared.scan.Scan.{Scan}
use Rattle.claxon_heads.specs.declared.bytes_read.BytesRead.{BytesRead}
use Rattle.claxon_verify.specs.declared.sizes.SizesSoFar.{SizesSoFar}
use Rattle.claxon_verify.specs.declared.walk.Walk.{Walk}
use Rattle.claxon_blocks.proofs.BlockReads.{BlockIsRead, IfConsumed, block_read}
use Rattle.claxon_heads.proofs.Positions.{position_after}
use Rattle.claxon_verify.proofs.BlockSizes.{changed_of}
use Rattle.claxon_verify.proofs.FramesAndFaults.{found_push, parts_front, parts_push}
use Rattle.claxon_verify.proofs.Noting.{NotedSoFar, fault_so_far, frame_so_far, not_so, nothing_so_far, one_left}
use Rattle.claxon_report.proofs.Scanning.{scan_push}

-- ---- the frames among all

pub frames_of-append : (parts others : List FrameOrFault) → frames_of (parts ++ others) ≡ frames_of parts ++ frames_of others
frames_of-append [] others = refl
frames_of-append (Ok frame ∷ parts) others = ap (λ (fs : List FrameValue). frame ∷ fs) (frames_of-append parts others)
frames_of-append (Err f ∷ parts) others = frames_of-append parts others

-- ---- the walk

-- of an equal answer
pub read_as : {stream : Option StreamFormat} {r q : FrameAnswer} {a b : State ℕ} → r ≡ q → ReadsFrame stream r a b → BlockIsRead stream q a b
read_as {stream = stream} {r = r} {a = a} {b = b} e h = subst (λ (z : FrameAnswer). BlockIsRead stream z a b) e (block_read stream a b r (reads_loans h) h)

pub frame_as : {B : Type 0} (stream : Option StreamFormat) {r : Result (Option (DecodedFrame B)) FrameError} {frame : DecodedFrame B} (a b : State ℕ) → r ≡ Ok (Some frame) → HasHeader stream r a b → Consumed a b (FrameWithHeader stream (record { info = frame.info; block = block_view frame.block }))
frame_as {B = B} stream a b e h = subst (λ (z : Result (Option (DecodedFrame B)) FrameError). HasHeader stream z a b) e h

-- So far just frames and faults were consumed: this many, and these were counted.
pub record SoFar {A : Type 0} (computes_md5 : Bool) (stream : Option StreamFormat) (info : Streaminfo) (start : ℕ) (s m : List ℕ) (count : ℕ) (walk : Walk A) : Type 0 where
  pub parts : List FrameOrFault
  pub parts_are : FramesAndFaults stream s parts m
  pub count_is : sum_by frame_count_of parts + sum_by fault_count_of parts ≡ count
  pub frames : walk.frames ≡ sum_by frame_count_of parts
  pub samples : walk.samples ≡ sum_by sample_count_of parts
  pub samples_fit : walk.samples < 2 ^ 64
  pub sizes : AreSizesOf (frames_of parts) walk.sizes
  pub hashed : HasHashedBytes computes_md5 (bytes_of_frames info.bit_depth (frames_of parts)) walk.md5
  pub found : List FoundPart
  pub found_are : PartsFound stream info start s parts m found
  pub places : List Place
  pub scan : scan_parts info (record { scan = begun_scan; places = [] }) found ≡ record { scan = walk.scan; places = places }
  pub keeps : Keeps places walk.places
  pub noted : NotedSoFar stream info s m parts walk

-- So far no read of the source failed.
pub record WalkedSoFar {A : Type 0} (computes_md5 : Bool) (stream : Option StreamFormat) (info : Streaminfo) (start : ℕ) (a b : State ℕ) (count : ℕ) (walk : Walk A) : Type 0 where
  pub errors : b.source.errors ≡ a.source.errors
  pub empty_reads : b.source.empty_reads ≡ a.source.empty_reads
  pub loans : b.source.loans ≡ a.source.loans
  pub known : RemainingIsKnown a → RemainingIsKnown b
  pub values : RemainingIsKnown a → final_values b ≡ final_values a
  pub is : RemainingIsKnown a → SoFar computes_md5 stream info start a.remaining b.remaining count walk

pub none_so_far : {A : Type 0} (computes_md5 : Bool) (stream : Option StreamFormat) (info : Streaminfo) (start more : ℕ) (a : State ℕ) (walk : Walk A) → BeginsWalk computes_md5 more walk → NothingNoted walk → WalkedSoFar computes_md5 stream info start a a 0 walk
unfolding whole_bytes_of_samples
none_so_far computes_md5 stream info start more a walk begins none = record {
  errors = refl;
  empty_reads = refl;
  loans = refl;
  known = λ k. k;
  values = λ k. refl;
  is = λ k. record {
    parts = [];
    parts_are = refl;
    count_is = refl;
    frames = begins.frames_are;
    samples = begins.samples_are;
    samples_fit = let none = begins.samples_are in omega (arith, none);
    sizes = begins.no_size;
    hashed = begins.hasher;
    found = [];
    found_are = (refl, refl);
    places = [];
    scan = ap (λ (z : Scan). record { scan = z; places = [] }) (sym begins.scan_is);
    keeps = begins.keeps;
    noted = nothing_so_far stream info a.remaining walk none;
  };
}

-- an Err that is neither
pub kept_err : {P : Type 0} (e : Error) → is_io e ≡ false → is_out_of_memory e ≡ false → IfConsumed (Err e) P → P
kept_err (IoError cause) io memory h = absurd cc
kept_err (FormatError text) io memory h = h
kept_err (Unsupported text) io memory h = h
kept_err OutOfMemory io memory h = absurd cc

-- ---- the samples of one frame more

pub hashed_push : (computes_md5 : Bool) (bit_depth : ℕ) (block : BlockValue) (bytes : List ℕ) (old new : Option Md5) → HasHashedBytes computes_md5 bytes old → HashesToo bit_depth block old new → HasHashedBytes computes_md5 (bytes ++ whole_bytes_of_samples bit_depth (interleave block.channels)) new
hashed_push false bit_depth block bytes None new h k = k
hashed_push false bit_depth block bytes (Some old) new h k = absurd (let z : Some old ≡ None = h in cc)
hashed_push true bit_depth block bytes None new h k = absurd h
hashed_push true bit_depth block bytes (Some old) None h k = absurd k
hashed_push true bit_depth block bytes (Some old) (Some new) h k = k bytes h

pub bytes_push : (bit_depth : ℕ) (frames : List FrameValue) (frame : FrameValue) → bytes_of_frames bit_depth (frames ++ frame ∷ []) ≡ bytes_of_frames bit_depth frames ++ whole_bytes_of_samples bit_depth (interleave frame.block.channels)
unfolding whole_bytes_of_samples
bytes_push bit_depth frames frame =
    ap (whole_bytes_of_samples bit_depth) (flat_map-append (λ (f : FrameValue). interleave f.block.channels) frames (frame ∷ []) ∙ ap (λ (zs : List _). samples_of_frames frames ++ zs) (append-nil (interleave frame.block.channels)))
    ∙ flat_map-append _ (samples_of_frames frames) (interleave frame.block.channels)

-- The position moved past what was consumed.
abbrev pub Moves : State ℕ → State ℕ → ℕ → ℕ → Type 0
Moves b c byte end = RemainingIsKnown b → RemainingIsKnown c → final_values c ≡ final_values b → (t : List ℕ) → b.remaining ≡ t ++ c.remaining → end % 2 ^ 64 ≡ (byte + length t) % 2 ^ 64

-- ---- one part more

-- the scan after one part more
pub scan_with : (info : Streaminfo) (found : List FoundPart) (here : FoundPart) (scan : Scan) (places : List Place) → scan_parts info (record { scan = begun_scan; places = [] }) found ≡ record { scan = scan; places = places } → scan_parts info (record { scan = begun_scan; places = [] }) (found ++ here ∷ []) ≡ scan_more info (record { scan = scan; places = places }) here
scan_with info found here scan places e = scan_push info (record { scan = begun_scan; places = [] }) found here ∙ ap (λ (z : Scans). scan_more info z here) e

-- without a place
pub scan_fault : (info : Streaminfo) (found : List FoundPart) (byte : ℕ) (fault : FrameError) (scan new : Scan) (places : List Place) → scan_parts info (record { scan = begun_scan; places = [] }) found ≡ record { scan = scan; places = places } → new ≡ damaged byte (FaultDamage fault) scan
    → scan_parts info (record { scan = begun_scan; places = [] }) (found ++ record { start = byte; what = Err fault } ∷ []) ≡ record { scan = new; places = places }
scan_fault info found byte fault scan new places e is =
    scan_with info found (record { start = byte; what = Err fault }) scan places e
    ∙ ap (λ (z : List Place). record { scan = damaged byte (FaultDamage fault) scan; places = z }) (append-nil places)
    ∙ ap (λ (z : Scan). record { scan = z; places = places }) (sym is)

-- so many are kept
pub none_few : (items : List Place) (more : ℕ) → items ≡ [] → length items ≤ more
none_few items more none = let l : length items ≡ 0 = ap length none in omega (arith, l)

pub frame_few : {A B : Type 0} {info : Streaminfo} {frame : DecodedFrame B} {byte more : ℕ} {old new : Walk A} → AddsFrame info frame byte old new → old.places.more ≡ more → length old.places.places.more.items ≤ more → length new.places.places.more.items ≤ more
frame_few {old = old} {new = new} adds same few = subst (λ (n : ℕ). length new.places.places.more.items ≤ n) same (adds.places.few (subst (λ (n : ℕ). length old.places.places.more.items ≤ n) (sym same) few))

pub same_more : {A : Type 0} {fault : FrameError} {byte end : ℕ} {old new : Walk A} → AddsFault fault byte end old new → new.places.more ≡ old.places.more
same_more {A = A} adds = ap (λ (z : KeptPlaces A). z.more) adds.places_are

pub fault_few : {A : Type 0} {fault : FrameError} {byte end more : ℕ} {old new : Walk A} → AddsFault fault byte end old new → length old.places.places.more.items ≤ more → length new.places.places.more.items ≤ more
fault_few {A = A} {more = more} adds few = subst (λ (z : KeptPlaces A). length z.places.more.items ≤ more) (sym adds.places_are) few

pub end_more : {A : Type 0} {end : ℕ} {old new : Walk A} → EndsWalk end old new → new.places.more ≡ old.places.more
end_more {A = A} ends = ap (λ (z : KeptPlaces A). z.more) ends.places_are

pub end_few : {A : Type 0} {end more : ℕ} {old new : Walk A} → EndsWalk end old new → length old.places.places.more.items ≤ more → length new.places.places.more.items ≤ more
end_few {A = A} {more = more} ends few = subst (λ (z : KeptPlaces A). length z.places.more.items ≤ more) (sym ends.places_are) few

-- at the end all bytes were consumed
pub eof_reached : {stream : Option StreamFormat} {r : FrameAnswer} {a b : State ℕ} → r ≡ Ok None → ReadsFrame stream r a b → ReachedEof 2 a b
eof_reached {stream = stream} {a = a} {b = b} e h = subst (λ (z : FrameAnswer). GivesOrEofOrOutOfMemory 2 block_view z (frame_bytes_at stream) a b) e h.gives

pub at_eof : {R : Type 0} {stream : Option StreamFormat} {r : FrameAnswer} (source : R → Source ℕ) (x y z : RunningReader R BytesRead) → r ≡ Ok None → ReadsFrame stream r (counted_bytes source y) (counted_bytes source z) → RemainingIsKnown (counted_bytes source x) → RemainingIsKnown (counted_bytes source y) → final_values (counted_bytes source y) ≡ final_values (counted_bytes source x) → position_of z < 2 ^ 64
    → position_of z ≡ (position_of x + length (counted_bytes source x).remaining) % 2 ^ 64
at_eof source x y z e h known after values small =
    let k = (eof_reached e h).known after in
    position_after source x z known k.known (k.values ∙ values) small (counted_bytes source x).remaining (sym (append-nil (counted_bytes source x).remaining) ∙ ap (λ (m : List ℕ). (counted_bytes source x).remaining ++ m) (sym k.is.1))

-- what a fault consumed
pub fault_consumed : {stream : Option StreamFormat} {b : State ℕ} (error : Error) (c : State ℕ) → BlockIsRead stream (Err error) b c → is_io error ≡ false → is_out_of_memory error ≡ false → RemainingIsKnown b → (f : Fault) × IsFault f error × Consumed b c (FrameBytesFault stream f)
fault_consumed error c read io memory k = elim read.fault [
  | inl m ↦ absurd (let z : true ≡ false = subst (λ (q : Error). is_out_of_memory q ≡ false) m memory in cc)
  | inr (inl i) ↦ absurd (let z : true ≡ false = sym i ∙ io in cc)
  | inr (inr f) ↦ f k
]

module _ {A : Type 0} {computes_md5 : Bool} {stream : Option StreamFormat} {info : Streaminfo} {start : ℕ} {a b : State ℕ} {count : ℕ} {walk : Walk A} (h : WalkedSoFar computes_md5 stream info start a b count walk) where
  with_frame_or_fault : (part : FrameOrFault) (c : State ℕ) → Consumed b c (FrameOrFaultBytes stream part) → (k : RemainingIsKnown a) → (RemainingIsKnown c) × FramesAndFaults stream a.remaining ((h.is k).parts ++ part ∷ []) c.remaining
  with_frame_or_fault part c consumed k =
      let w = consumed (h.known k) in
      (w.0, parts_push stream (h.is k).parts part a.remaining b.remaining w.1.0 c.remaining (h.is k).parts_are w.1.1 w.1.2)

  -- where the next part begins
  pub part_at : (k : RemainingIsKnown a) → (front : List ℕ) × (a.remaining ≡ front ++ b.remaining) × (start + length a.remaining ≡ (start + length front) + length b.remaining)
  part_at k =
      let p = h.is k in
      let q = parts_front stream p.parts a.remaining b.remaining p.parts_are in
      let l : length a.remaining ≡ length q.0 + length b.remaining = ap length q.1 ∙ length-append q.0 b.remaining in
      (q.0, q.1, omega arith)

  pub frame_added : {B : Type 0} {more : Walk A} (frame : DecodedFrame B) (byte : ℕ) (c : State ℕ) → count + 1 < 2 ^ 64 → (RemainingIsKnown a → (front : List ℕ) → a.remaining ≡ front ++ b.remaining → byte ≡ (start + length front) % 2 ^ 64) → BlockIsRead stream (Ok (Some frame.block)) b c
      → Consumed b c (FrameWithHeader stream (decoded_view frame)) → AddsFrame info frame byte walk more → byte < 2 ^ 64 → {end : ℕ} → Moves b c byte end → NotesFrame info frame byte end walk more → WalkedSoFar computes_md5 stream info start a c (count + 1) more
  frame_added {more = more} frame byte c bound at read consumed adds fits moves notes =
      let part : FrameOrFault = Ok (decoded_view frame) in
      let scanned = scan_frame info byte adds.found walk.scan in
      record {
        errors = read.kept.0 ∙ h.errors;
        empty_reads = read.kept.1 ∙ h.empty_reads;
        loans = read.loans ∙ h.loans;
        known = λ k. (with_frame_or_fault part c consumed k).0;
        values = λ k. read.kept.2 (h.known k) ∙ h.values k;
        is = λ k.
            let p = h.is k in
            let w = (consumed (h.known k)).1 in
            let q = part_at k in
            record {
              parts = p.parts ++ part ∷ [];
              parts_are = (with_frame_or_fault part c consumed k).1;
              count_is = omega (arith, p.count_is, sum_by_push frame_count_of p.parts part, sum_by_push fault_count_of p.parts part);
              frames = adds.frames_are ∙ ap (λ (z : ℕ). z + 1) p.frames ∙ sym (sum_by_push frame_count_of p.parts part);
              samples = adds.samples_are ∙ ap (λ (z : ℕ). z + frame_duration (decoded_view frame)) p.samples ∙ sym (sum_by_push sample_count_of p.parts part);
              samples_fit = adds.samples_fit;
              sizes = subst (λ (fs : List FrameValue). AreSizesOf fs more.sizes) (sym (frames_of-append p.parts (part ∷ []))) (adds.sizes (frames_of p.parts) (decoded_view frame) refl refl p.sizes);
              hashed = subst (λ (bytes : List ℕ). HasHashedBytes computes_md5 bytes more.md5) (sym (ap (bytes_of_frames info.bit_depth) (frames_of-append p.parts (part ∷ [])) ∙ bytes_push info.bit_depth (frames_of p.parts) (decoded_view frame)))
                  (hashed_push computes_md5 info.bit_depth frame.block (bytes_of_frames info.bit_depth (frames_of p.parts)) walk.md5 more.md5 p.hashed adds.hashes);
              found = p.found ++ record { start = byte; what = Ok adds.found } ∷ [];
              found_are = found_push stream info p.parts start a.remaining b.remaining p.found p.found_are part w.0 c.remaining (record { start = byte; what = Ok adds.found }) (start + length q.0) w.1 w.2 q.2 (at k q.0 q.1) adds.is_found;
              places = p.places ++ list_of scanned.place;
              scan = scan_with info p.found (record { start = byte; what = Ok adds.found }) walk.scan p.places p.scan ∙ ap (λ (z : Scan). record { scan = z; places = p.places ++ list_of scanned.place }) (sym adds.scan_is);
              keeps = adds.places.keeps p.places p.keeps;
              noted = frame_so_far p.noted w.0 c.remaining w.2 w.1 fits (moves (h.known k) (consumed (h.known k)).0 (read.kept.2 (h.known k)) w.0 w.2) notes (frames_of-append p.parts (part ∷ []));
            };
      }

  -- ---- one fault more

  -- a read of the source failed, or the frame isn't whole
  pub failed_from : (fault : FrameError) (c : State ℕ) → BlockIsRead stream (Err fault.error) b c → IsIo fault.error → RemainingIsKnown b → IsNotWhole stream b.remaining ⊎ ReadFailedIn a c
  failed_from fault c read io known = elim (read.io io known) [
    | inl n ↦ inl n
    | inr f ↦ inr (elim f [ inl n ↦ inl (λ e. n (e ∙ sym h.errors)) | inr n ↦ inr (λ e. n.0 (e ∙ sym h.empty_reads), n.1) ])
  ]

  -- what is counted can be
  pub fit_now : (k : RemainingIsKnown a) → count + 1 < 2 ^ 64 → CanBeCounted (h.is k).parts
  fit_now k bound = let p = h.is k in let fit = p.samples_fit in let same = p.samples in let all = p.count_is in (omega (arith, fit, same), omega (arith, all, bound))

  -- the end
  unfoldable pub eof_found : {more : Walk A} (end : ℕ) (c : State ℕ) → count + 1 < 2 ^ 64 → BlockIsRead stream (Ok None) b c → (RemainingIsKnown a → end ≡ (start + length a.remaining) % 2 ^ 64) → EndsWalk end walk more → WalksToEnd computes_md5 stream info start a c more
  eof_found {more = more} end c bound read at_end ends k counts counted =
      let p = h.is k in
      let q = part_at k in
      let scan : scan_parts info (record { scan = begun_scan; places = [] }) (p.found ++ []) ≡ record { scan = more.scan; places = p.places } =
      ap (scan_parts info (record { scan = begun_scan; places = [] })) (append-nil p.found) ∙ p.scan ∙ ap (λ (z : Scan). record { scan = z; places = p.places }) (sym ends.scan_is) in (
        record {
          parts = p.parts;
          is_cut = false;
          front = q.0;
          rest = b.remaining;
          joined = q.1;
          parts_are = p.parts_are;
          ends = read.eof refl (h.known k);
          fit = fit_now k bound;
          frames = counted.frames_are ∙ ends.frames_are ∙ p.frames;
          samples = counted.samples_are ∙ ends.samples_are ∙ p.samples;
          sizes = counted.sizes_are ∙ ap (λ (s : SizesSoFar). s.changed) ends.sizes_are ∙ changed_of (frames_of p.parts) walk.sizes p.sizes;
          found = p.found;
          last = [];
          found_are = p.found_are;
          last_is = refl;
          end = more.end;
          end_is = λ e. ends.end_is ∙ at_end k;
          kept = subst (λ (z : Scans). AreKept (places_at more.end info.samples z) counts.first counts.more counts.left_out) (sym scan) (counted.kept p.places (subst (λ (z : KeptPlaces A). Keeps p.places z) (sym ends.places_are) p.keeps));
        },
        subst (HasHashedBytes computes_md5 (bytes_of_frames info.bit_depth (frames_of p.parts))) (sym ends.md5_is) p.hashed,
      )

  pub eof_noted : {more : Walk A} (byte end : ℕ) (c : State ℕ) → count + 1 < 2 ^ 64 → BlockIsRead stream (Ok None) b c → (RemainingIsKnown a → (front : List ℕ) → a.remaining ≡ front ++ b.remaining → byte ≡ (start + length front) % 2 ^ 64) → (RemainingIsKnown a → end ≡ (start + length a.remaining) % 2 ^ 64) → EndsWalk end walk more → NotesEnd byte end walk more → WalkIsNoted stream info start a c more
  unfolding eof_found
  eof_noted {more = more} byte end c bound read at at_end ends notes k counts counted =
      let p = h.is k in
      let q = part_at k in
      let begun = ap (λ (z : Scans). z.scan.begun) p.scan in
      let all : end ≡ (start + (length q.0 + length b.remaining)) % 2 ^ 64 = at_end k ∙ ap (λ (n : ℕ). (start + n) % 2 ^ 64) (ap length q.1 ∙ length-append q.0 b.remaining) in
      let left = one_left start (length q.0) byte end b.remaining (at k q.0 q.1) all (read.eof refl (h.known k)) in (
        (eof_found end c bound read at_end ends k counts counted).0,
        record {
          block_size = notes.block_size ∙ p.noted.noted.block_size;
          sizes = p.noted.sizes;
          sizes_are = p.noted.sizes_are;
          frame_size = notes.frame_size ∙ p.noted.noted.frame_size;
          byte_left = (λ t. let e = notes.byte_left.0 t in (refl, left.0 e.0, begun ∙ e.1), λ x. notes.byte_left.1 (left.1 x.1, sym begun ∙ x.2));
          failed_read = not_so more.notes.has_failed_read (notes.failed_read ∙ p.noted.none_failed) (λ x. x);
          searched = notes.searched ∙ p.noted.searched;
        },
      )

  module _ {byte end : ℕ} (at : RemainingIsKnown a → (front : List ℕ) → a.remaining ≡ front ++ b.remaining → byte ≡ (start + length front) % 2 ^ 64) where
    pub fault_added : {more : Walk A} (fault : FrameError) (c : State ℕ) → BlockIsRead stream (Err fault.error) b c → (RemainingIsKnown b → IsTrue fault.is_32_bit ↔ Is32BitFault b.remaining fault.error) → is_io fault.error ≡ false → is_out_of_memory fault.error ≡ false → AddsFault fault byte end walk more
        → NotesFault fault.error walk more → WalkedSoFar computes_md5 stream info start a c (count + 1) more
    fault_added {more = more} fault c read is_32_bit io memory adds notes =
        let error = fault.error in
        let kept = kept_err error io memory read.kept in
        record {
          errors = kept.0 ∙ h.errors;
          empty_reads = kept.1 ∙ h.empty_reads;
          loans = read.loans ∙ h.loans;
          known = λ k. ((fault_consumed error c read io memory (h.known k)).2 (h.known k)).0;
          values = λ k. kept.2 (h.known k) ∙ h.values k;
          is = λ k.
              let p = h.is k in
              let f = fault_consumed error c read io memory (h.known k) in
              let part : FrameOrFault = Err f.0 in
              let w = (f.2 (h.known k)).1 in
              let q = part_at k in
              let frames_are : frames_of (p.parts ++ part ∷ []) ≡ frames_of p.parts = frames_of-append p.parts (part ∷ []) ∙ append-nil (frames_of p.parts) in
              record {
                parts = p.parts ++ part ∷ [];
                parts_are = (with_frame_or_fault part c f.2 k).1;
                count_is = omega (arith, p.count_is, sum_by_push frame_count_of p.parts part, sum_by_push fault_count_of p.parts part);
                frames = adds.frames_are ∙ p.frames ∙ omega (arith, sum_by_push frame_count_of p.parts part);
                samples = adds.samples_are ∙ p.samples ∙ omega (arith, sum_by_push sample_count_of p.parts part);
                samples_fit = let fit = p.samples_fit in let same = adds.samples_are in omega (arith, fit, same);
                sizes = subst (λ (fs : List FrameValue). AreSizesOf fs more.sizes) (sym frames_are) (subst (AreSizesOf (frames_of p.parts)) (sym adds.sizes_are) p.sizes);
                hashed = subst (λ (fs : List FrameValue). HasHashedBytes computes_md5 (bytes_of_frames info.bit_depth fs) more.md5) (sym frames_are) (subst (HasHashedBytes computes_md5 (bytes_of_frames info.bit_depth (frames_of p.parts))) (sym adds.md5_is) p.hashed);
                found = p.found ++ record { start = byte; what = Err fault } ∷ [];
                found_are = found_push stream info p.parts start a.remaining b.remaining p.found p.found_are part w.0 c.remaining (record { start = byte; what = Err fault }) (start + length q.0) w.1 w.2 q.2 (at k q.0 q.1) (f.1, is_32_bit (h.known k));
                places = p.places;
                scan = scan_fault info p.found byte fault walk.scan more.scan p.places p.scan adds.scan_is;
                keeps = subst (λ (z : KeptPlaces A). Keeps p.places z) (sym adds.places_are) p.keeps;
                noted = fault_so_far p.noted w.0 c.remaining w.2 f.0 error w.1 io notes frames_are;
              };
        }

    -- a frame that isn't whole is the last one
    unfoldable pub cut_found : {more : Walk A} (fault : FrameError) (c : State ℕ) → count + 1 < 2 ^ 64 → BlockIsRead stream (Err fault.error) b c → (RemainingIsKnown b → IsTrue fault.is_32_bit ↔ Is32BitFault b.remaining fault.error) → IsIo fault.error → AddsFault fault byte end walk more → WalksToEnd computes_md5 stream info start a c more
    cut_found {more = more} fault c bound read is_32_bit io adds k counts counted =
        let p = h.is k in
        let q = part_at k in
        let why = failed_from fault c read io (h.known k) in
        let here : FoundPart = record { start = byte; what = Err fault } in
        let scan = scan_fault info p.found byte fault walk.scan more.scan p.places p.scan adds.scan_is in (
          record {
            parts = p.parts;
            is_cut = true;
            front = q.0;
            rest = b.remaining;
            joined = q.1;
            parts_are = p.parts_are;
            ends = why;
            fit = fit_now k bound;
            frames = counted.frames_are ∙ adds.frames_are ∙ p.frames;
            samples = counted.samples_are ∙ adds.samples_are ∙ p.samples;
            sizes = counted.sizes_are ∙ ap (λ (s : SizesSoFar). s.changed) adds.sizes_are ∙ changed_of (frames_of p.parts) walk.sizes p.sizes;
            found = p.found;
            last = here ∷ [];
            found_are = p.found_are;
            last_is = (here, fault, refl, at k q.0 q.1, refl, io, is_32_bit (h.known k));
            end = more.end;
            end_is = λ e. absurd (let z : true ≡ false = e in cc);
            kept = subst (λ (z : Scans). AreKept (places_at more.end info.samples z) counts.first counts.more counts.left_out) (sym scan) (counted.kept p.places (subst (λ (z : KeptPlaces A). Keeps p.places z) (sym adds.places_are) p.keeps));
          },
          subst (HasHashedBytes computes_md5 (bytes_of_frames info.bit_depth (frames_of p.parts))) (sym adds.md5_is) p.hashed,
        )

    pub cut_noted : {more : Walk A} (fault : FrameError) (c : State ℕ) → count + 1 < 2 ^ 64 → BlockIsRead stream (Err fault.error) b c → (RemainingIsKnown b → IsTrue fault.is_32_bit ↔ Is32BitFault b.remaining fault.error) → IsIo fault.error → AddsFault fault byte end walk more → NotesFault fault.error walk more → WalkIsNoted stream info start a c more
    unfolding cut_found
    cut_noted {more = more} fault c bound read is_32_bit io adds notes k counts counted =
        let n = (h.is k).noted in (
          (cut_found fault c bound read is_32_bit io adds k counts counted).0,
          record {
            block_size = notes.block_size ∙ n.noted.block_size;
            sizes = n.sizes;
            sizes_are = n.sizes_are;
            frame_size = notes.frame_size ∙ n.noted.frame_size;
            byte_left = not_so more.notes.has_byte_left (notes.byte_left ∙ n.none_left) (λ x. let z : true ≡ false = x.0 in cc);
            failed_read = (λ t. elim (notes.failed_read.0 t) [ inl failed ↦ absurd (let z : false ≡ true = sym n.none_failed ∙ failed in cc) | inr failed ↦ failed ], λ failed. notes.failed_read.1 (inr failed));
            searched = notes.searched ∙ n.searched;
          },
        )

  -- ---- what can't be counted

  pub many_found : (e : Error) → IsTooMany e → 2 ^ 64 ≤ count + 1 → StopsCounting stream a e
  many_found e is n = inr (is, λ k. let p = h.is k in (p.parts, b.remaining, p.parts_are, inr (omega (arith, n, p.count_is))))

  pub frame_exceeds : {B : Type 0} (frame : DecodedFrame B) (c : State ℕ) → Consumed b c (FrameWithHeader stream (decoded_view frame)) → (e : Error) → ExceedsCount frame walk e → StopsCounting stream a e
  frame_exceeds frame c consumed e exceeds = inr (
    exceeds.0,
    λ k.
        let part : FrameOrFault = Ok (decoded_view frame) in
        let p = h.is k in
        let w = with_frame_or_fault part c consumed k in
        let frames = sum_by_push frame_count_of p.parts part in
        let samples = sum_by_push sample_count_of p.parts part in (
          p.parts ++ part ∷ [],
          c.remaining,
          w.1,
          elim exceeds.1 [
            | inl m ↦ inr (omega (arith, m, p.frames, frames))
            | inr m ↦ inl (omega (arith, m, p.samples, samples))
          ],
        ),
  )

  pub fault_stops : (error : Error) (c : State ℕ) → BlockIsRead stream (Err error) b c → (e : Error) → (error ≡ OutOfMemory) × (e ≡ OutOfMemory) → StopsCounting stream a e
  fault_stops error c read e m = inl (m.1, λ k. let p = h.is k in let w = (read.memory (ap (λ (z : Error). Err z) m.0) (h.known k)).1 in (p.parts, b.remaining, p.parts_are, (w.0, c.remaining, w.1, w.2)))
