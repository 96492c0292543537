-- Why parts of a stream aren't all found.
use Rattle.std.specs.Borrow.{MutBor}
use Rattle.std.proofs.Common.{◌≡◌, ◌≢◌, ◌<◌, ◌≤◌, ◌+◌, ◌^◌, ℕ, List, [], ◌∷◌, ◌++◌, length, inl, inr, refl, sym, ap, arith, subst, ◌∙◌, length-append}
use Rattle.std.specs.Prelude.{Bool, Option, None, Some, Result, Ok, Err}
use Rattle.std.specs.List.{sum_by}
use Rattle.std.proofs.lemmas.List.Sums.{sum_by_push}
use Rattle.claxon.specs.DecodedFrame.{decoded_view}
use Rattle.claxon.specs.Error.{IsFault, IsIo}
use Rattle.claxon.specs.Errors.{Error}
use Rattle.claxon.specs.Errors.TheVariants.{FormatError, IoError, OutOfMemory, Unsupported}
use Rattle.claxon.specs.Fault.{Fault}
use Rattle.claxon.specs.Frame.{StreamFormat}
use Rattle.claxon.specs.Gives.{GivesOrOutOfMemory, ReadFailedIn}
use Rattle.claxon.specs.MetadataBlock.{info_view}
use Rattle.claxon.specs.Prefix.{BeginsWith}
use Rattle.claxon.specs.RunningReader.{running_inner, running_source}
use Rattle.claxon.specs.RunningReaders.{RunningReader}
use Rattle.claxon.specs.SampleRuns.{lent}
use Rattle.claxon.specs.Source.{HasMore, IsKnown, Source}
use Rattle.claxon.specs.State.{State, bytes_in, RemainingIsKnown, remaining_as}
use Rattle.claxon.specs.StreamInfos.{StreamInfo}
use Rattle.claxon_input.proofs.Promises.{fault_is}
use Rattle.claxon_recovery.specs.Parts.{BeginsParts, IsPart, PartFails, PartStops, SourceIsKnown, after_part, parts_known, parts_position, parts_source, unread}
use Rattle.claxon_recovery.specs.Runs.{FindsFrame}
use Rattle.claxon_recovery.specs.Window.{Fails, Reads, bytes_left}
use Rattle.claxon_recovery.specs.declared.part.Part.{Part}
use Rattle.claxon_recovery.specs.declared.part.Part.TheVariants.{Frame as IsFrame, Damage as IsDamage}
use Rattle.claxon_recovery.specs.declared.parts.Parts.{Parts}
use Rattle.claxon_recovery.proofs.Reading.{fails_after}
use Rattle.claxon_verify.specs.PartFaults.{AnsweredUpTo, BeginsWithHead, BeginsWithTooMany, CountedFaultIsSound, ExceedsPart, HasTooManyParts, PartsFaultIsSound, StopsParts, StopsWalk}
use Rattle.claxon_verify.specs.RightStream.{frame_duration}
use Rattle.claxon_heads.specs.StreamHead.{FoundHead, FoundHeadAnswer, FoundHeadFault, HeadNeedsMemory, OutOfMemoryOnlyWhere, found_head_at, found_head_view}
use Rattle.claxon_verify.specs.VerifiedParts.{part_frames}
use Rattle.claxon_heads.specs.BytesRead.{counted_bytes, update_position}
use Rattle.claxon_verify.specs.Verify.{IsTooMany}
use Rattle.claxon_heads.specs.declared.bytes_read.BytesRead.{BytesRead}
use Rattle.claxon_report.specs.declared.report.Report.{Report}
use Rattle.claxon_verify.specs.declared.walk.Walk.{Walk}
use Rattle.claxon_verify.proofs.PartsWalked.{PartsSoFar, answered, frames_append}
use Rattle.claxon_verify.proofs.Verified.{HeadIsConsumed, failed_since, fault_begins, has_neither, head_code, refused, same_input}

-- ---- parts, one after another

-- no more is left than there was
left_length : (info : StreamInfo) (start : ℕ) (s : List ℕ) (parts : List Part) (at : ℕ) (m : List ℕ) → AnsweredUpTo info start s parts at m → length m ≤ length s
left_length info start s [] at m h = let n = ap length h.0 in omega (arith, n)
left_length info start s (IsFrame there ∷ parts) at m (rest, is, finds, h) =
    let n : length s ≡ length is.bytes + length rest = ap length is.joined ∙ length-append is.bytes rest in
    let k = left_length info there.end rest parts at m h in
    omega (arith, n, k)
left_length info start s (IsDamage damage ∷ parts) at m (rest, is, finds, h) =
    let n : length s ≡ length is.bytes + length rest = ap length is.joined ∙ length-append is.bytes rest in
    let k = left_length info damage.end rest parts at m h in
    omega (arith, n, k)

frames_few : (parts : List Part) → length (part_frames parts) ≤ length parts
frames_few [] = omega arith
frames_few (IsFrame there ∷ parts) = let k = frames_few parts in omega (arith, k)
frames_few (IsDamage damage ∷ parts) = let k = frames_few parts in omega (arith, k)

-- ---- the walk

module _ {R A : Type 0} {source : R → Source ℕ} {computes_md5 : Bool} {info : StreamInfo} {old mid : Parts R} {count : ℕ} {walk : Walk A} (h : PartsSoFar source computes_md5 info old mid count walk) where
  -- the next part can't be read
  pub next_stops : {more : List ℕ} → Reads (source (parts_source old)) (source (parts_source mid)) more → (new : Parts R) (e : Error) → PartStops source mid new e → StopsWalk source info old new e
  next_stops reads new e stops = inl (elim stops [
    | inl n ↦ inl n
    | inr (inl f) ↦ inr (inl (record { is_io = f.is_io; fails = fails_after reads f.fails }))
    | inr (inr n) ↦ inr (inr (λ k.
        let p = h.is k in
        let less = left_length info (parts_position old) (unread source old) p.parts (parts_position mid) (unread source mid) p.are in
        let many = n (h.known k) in
        omega (arith, less, many)))
  ])

  -- with a part more there are more than can be counted
  pub part_exceeds : (new : Parts R) (part : Part) → (SourceIsKnown source mid → IsPart (parts_known mid) (parts_position mid) (unread source mid) (unread source new) (Some part)) → (SourceIsKnown source mid → FindsFrame (parts_known mid) (unread source mid) (unread source new) part) → parts_position new ≡ after_part (parts_position mid) (Some part)
      → (e : Error) → ExceedsPart part walk e → StopsWalk source info old new e
  part_exceeds new (IsDamage damage) is finds at e exceeds = absurd exceeds
  part_exceeds new (IsFrame there) is finds at e exceeds = inr (
    exceeds.0,
    λ k.
        let part : Part = IsFrame there in
        let p = h.is k in
        let few = frames_few p.parts in
        let one : length (p.parts ++ part ∷ []) ≡ length p.parts + 1 = length-append p.parts (part ∷ []) in
        let samples : sum_by frame_duration (part_frames (p.parts ++ part ∷ [])) ≡ sum_by frame_duration (part_frames p.parts) + frame_duration (decoded_view there.frame) =
        ap (sum_by frame_duration) (frames_append p.parts (part ∷ [])) ∙ sum_by_push frame_duration (part_frames p.parts) (decoded_view there.frame) in
        record {
          parts = p.parts ++ part ∷ [];
          at = parts_position new;
          left = unread source new;
          are = answered h new part is finds at k;
          many = elim exceeds.1 [
            | inl m ↦ inr (let frames = p.frames in omega (arith, m, frames, few, one))
            | inr m ↦ inl (let all = p.samples in omega (arith, m, all, samples))
          ];
        },
  )

-- ---- from where the parts begin

module _ {R : Type 0} (source : R → Source ℕ) {known : Option StreamInfo} {start : ℕ} {input : MutBor R} {p : Parts (MutBor R)} (begins : BeginsParts input known start p) where
  pub known_unread : RemainingIsKnown (bytes_in source input.now) → SourceIsKnown (lent source) p
  unfolding bytes_in
  known_unread k = subst (λ (z : MutBor R). IsKnown (lent source z).remaining) (sym begins.source_is) k

  pub unread_is : unread (lent source) p ≡ (bytes_in source input.now).remaining
  unfolding bytes_in
  unread_is = ap (λ (z : List ℕ). z ++ bytes_left (lent source (parts_source p))) begins.none_pending ∙ ap (λ (z : MutBor R). bytes_left (lent source z)) begins.source_is

-- ---- reads that failed

more_left : (o : Option (List ℕ)) → IsKnown o → HasMore o → remaining_as (λ all. all) o ≢ []
more_left None known more = absurd known
more_left (Some all) known more = more

-- a read of a source that was lent
pub lent_failed : {R : Type 0} (source : R → Source ℕ) (x y : MutBor R) → RemainingIsKnown (bytes_in source x.now) → Fails (lent source x) (lent source y) → ReadFailedIn (bytes_in source x.now) (bytes_in source y.now)
unfolding bytes_in
lent_failed source x y known fails =
    let f = fails.known known in
    elim f.failed [ inl e ↦ inl e | inr e ↦ inr (e.0, more_left (source y.now).remaining f.known e.1) ]

-- The source failed, and is reached as before.
abbrev pub HasFailedAgain : State ℕ → State ℕ → Type 0
HasFailedAgain a b = (b.source.loans ≡ a.source.loans) × ReadFailedIn a b

-- parts of a source that was lent: what is left in it then is known
pub parts_failed : {R : Type 0} (source : R → Source ℕ) (input : MutBor R) (p q : Parts (MutBor R)) → parts_source p ≡ input → (e : Error) → PartFails (lent source) p q e → (last : R) → (input.ghost_name ≡ (parts_source q).ghost_name → last ≡ (parts_source q).now) → RemainingIsKnown (bytes_in source input.now) → HasFailedAgain (bytes_in source input.now) (bytes_in source last)
unfolding bytes_in
parts_failed source input p q begins e failed last is known =
    let fails = subst (λ (z : MutBor _). Fails (lent source z) (lent source (parts_source q))) begins failed.fails in
    let loans : (parts_source q).ghost_name ∷ (source (parts_source q).now).loans ≡ input.ghost_name ∷ (source input.now).loans = fails.loans in
    let name : input.ghost_name ≡ (parts_source q).ghost_name = cc in
    let same : (source (parts_source q).now).loans ≡ (source input.now).loans = cc in
    subst (λ (z : _). HasFailedAgain (bytes_in source input.now) (bytes_in source z)) (sym (is name)) (same, lent_failed source input (parts_source q) known fails)

-- ---- the whole stream

-- a head wasn't read
module _ (a m : State ℕ) (e : Error) (gives : GivesOrOutOfMemory found_head_view (let r : FoundHeadAnswer = Err e in r) found_head_at a m) where
  pub head_stops : OutOfMemoryOnlyWhere HeadNeedsMemory (let r : FoundHeadAnswer = Err e in r) a → RemainingIsKnown a → StopsParts (HasFailedAgain a m) a.remaining e
  head_stops memory known = elim (refused a m e gives) [
    | inl n ↦ inl (n, inl (memory (ap (λ (z : Error). Err z) n) known))
    | inr (inl io) ↦ inr (inl (io.0, elim (io.1.known known).why [ inl p ↦ inl (has_neither a.remaining p) | inr failed ↦ inr (io.1.loans, failed) ]))
    | inr (inr k) ↦ (let f = fault_is e (found_head_at a.remaining) m.remaining (k.known known).is in inr (inr (inr (inl (f.0, f.1, fault_begins a.remaining f.0 m.remaining f.2)))))
  ]

module _ {a m : State ℕ} {head : FoundHead} {stream : Option StreamFormat} {start : ℕ} (h : HeadIsConsumed a m head stream start) (known : RemainingIsKnown a) where
  pub begins_with_head : BeginsWithHead a.remaining
  begins_with_head = let s = h.is known in (head, (s.0, m.remaining, head_code a.remaining head s.0 m.remaining s.1 s.2, s.2))

  -- so many bytes
  many_bytes : 2 ^ 64 ≤ length m.remaining → 2 ^ 64 ≤ length a.remaining
  many_bytes many =
      let s = h.is known in
      let l : length a.remaining ≡ length s.0 + length m.remaining = ap length s.2 ∙ length-append s.0 m.remaining in
      omega (arith, l, many)

  has_too_many : (info : StreamInfo) → head.info ≡ info_view info → start < 2 ^ 64 → BeginsWithTooMany info start m.remaining → HasTooManyParts a.remaining
  has_too_many info of_info small begins =
      let s = h.is known in
      let at = s.3 in
      record {
        head = head;
        front = s.0;
        bytes = m.remaining;
        code = head_code a.remaining head s.0 m.remaining s.1 s.2;
        joined = s.2;
        shown = info;
        shown_is = sym of_info;
        start = start;
        start_is = omega (arith, at, small);
        begins = begins;
      }

-- memory for the parts was refused
pub memory_stops : {F : Type 0} {a m : State ℕ} {head : FoundHead} {stream : Option StreamFormat} {start : ℕ} (h : HeadIsConsumed a m head stream start) (known : RemainingIsKnown a) (e : Error) → e ≡ OutOfMemory → StopsParts F a.remaining e
memory_stops h known e is = inl (is, inr (begins_with_head h known))

-- parts were read
pub parts_stop : {R : Type 0} (source : R → Source ℕ) {a : State ℕ} (input : MutBor (RunningReader R BytesRead)) {head : FoundHead} {stream : Option StreamFormat} {start : ℕ} (h : HeadIsConsumed a (counted_bytes source input.now) head stream start) (loans : (counted_bytes source input.now).source.loans ≡ a.source.loans) (known : RemainingIsKnown a) (info : StreamInfo) → head.info ≡ info_view info → (at : ℕ) → at ≡ start → at < 2 ^ 64
    → (p q : Parts (MutBor (RunningReader R BytesRead))) → BeginsParts input (Some info) at p → (e : Error) → StopsWalk (lent (running_source source update_position)) info p q e → (last : RunningReader R BytesRead) → (input.ghost_name ≡ (parts_source q).ghost_name → last ≡ (parts_source q).now) → StopsParts (HasFailedAgain a (counted_bytes source last)) a.remaining e
parts_stop source {a = a} input {start = start} h loans known info of_info at same small p q begins e stops last is =
    let s = lent (running_source source update_position) in
    let m = counted_bytes source input.now in
    let k : SourceIsKnown s p = known_unread (running_source source update_position) begins (h.known known) in
    let left : unread s p ≡ m.remaining = unread_is (running_source source update_position) begins in
    elim stops [
      | inl (inl memory) ↦ inl (memory, inr (begins_with_head h known))
      | inl (inr (inl failed)) ↦ (let f = parts_failed (running_source source update_position) input p q begins.source_is e failed last is (h.known known) in inr (inl (failed.is_io, inr (f.0 ∙ loans, failed_since (counted_bytes source last) h f.1))))
      | inl (inr (inr many)) ↦ inr (inr (inr (inr (many_bytes h known (subst (λ (z : List ℕ). 2 ^ 64 ≤ length z) left (many k))))))
      | inr many ↦ inr (inr (inl (many.0, has_too_many h known info of_info (subst (λ (b : ℕ). b < 2 ^ 64) same small) (subst (λ (b : ℕ). BeginsWithTooMany info b m.remaining) (begins.position_is ∙ same) (subst (λ (z : List ℕ). BeginsWithTooMany info (parts_position p) z) left (many.1 k))))))
    ]

-- ---- through the reader that counts bytes

pub fault_through : {R A : Type 0} (source : R → Source ℕ) (input : MutBor R) (x y : RunningReader (MutBor R) BytesRead) (at : running_inner x ≡ input) (result : Result (Report A) Error) → CountedFaultIsSound (counted_bytes (lent source) x) result (counted_bytes (lent source) y) → (last : R) → (input.ghost_name ≡ (running_inner y).ghost_name → last ≡ (running_inner y).now) → PartsFaultIsSound (bytes_in source input.now) result (bytes_in source last)
unfolding bytes_in
fault_through source input x y at (Ok report) h last is = tt
fault_through {R = R} source input x y at (Err e) h last is =
    subst (λ (z : MutBor R). RemainingIsKnown (bytes_in source z.now) → StopsParts (ReadFailedIn (bytes_in source z.now) (bytes_in source last)) (bytes_in source z.now).remaining e) at
    (λ known. elim (h known) [
      | inl memory ↦ inl memory
      | inr (inl io) ↦ inr (inl (io.0, elim io.1 [ inl n ↦ inl n | inr f ↦ inr (subst (λ (z : R). ReadFailedIn (bytes_in source (running_inner x).now) (bytes_in source z)) (sym (is (same_input source input x y at f.0))) f.1) ]))
      | inr (inr r) ↦ inr (inr r)
    ])
