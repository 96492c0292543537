-- A block that was read through a mutable reference, or through a reader that keeps a CRC over one, in terms of what that
-- reaches.
use Rattle.std.specs.Borrow.{GName, MutBor}
use Rattle.std.proofs.Common.{◌≡◌, ℕ, List, ◌∷◌, inl, inr, sym, ap, subst, ◌∙◌}
use Rattle.std.specs.Prelude.{IsTrue, Option, None, Some, Result, Ok, Err, ◌↔◌}
use Rattle.claxon.specs.DecodedFrame.{DecodedAnswer, FrameWithHeader, decoded_view}
use Rattle.claxon.specs.Errors.{Error}
use Rattle.claxon.specs.Errors.TheVariants.{FormatError, IoError, OutOfMemory, Unsupported}
use Rattle.claxon.specs.Frame.{Block, StreamFormat}
use Rattle.claxon.specs.FrameReader.{FrameAnswer, OutOfMemoryBeyondCapacity, ReadsFrame, block_view}
use Rattle.claxon.specs.Gives.{Consumes, GivesOrEofOrOutOfMemory, ReachedEof, ReadFailedOrRemaining, Stops, or_eof}
use Rattle.claxon.specs.Fault.{Fault}
use Rattle.claxon.specs.Promises.{FoundIsSound, NoneIsEof, Remains}
use Rattle.claxon.specs.SampleRuns.{lent}
use Rattle.claxon.specs.Source.{Source}
use Rattle.claxon.specs.State.{State, RemainingIsKnown, bytes_in, values_at_eof, final_values}
use Rattle.claxon.specs.RunningReader.{running_inner, running_source, running_value}
use Rattle.claxon.specs.RunningReaders.{RunningReader}
use Rattle.claxon.specs.read.Frame.{frame_bytes_at}
use Rattle.claxon.specs.read.Reading.{Reading, Done}
use Rattle.claxon.proofs.RunningReaders.{name_below, same_values_below, same_loans_below}
use Rattle.claxon.proofs.Loans.{reads_loans}
use Rattle.claxon_blocks.specs.FirstBytes.{AreFirst}
use Rattle.claxon_blocks.specs.Frames.{Is32BitFault, TellsOf32Bits}
use Rattle.claxon_blocks.specs.declared.frames.FrameError.{FrameError}
use Rattle.claxon_blocks.specs.declared.frames.first_bytes.FirstBytes.{FirstBytes}

-- the same state with other loans and CRCs
abbrev wrapped : List GName → (List ℕ → List ℕ) → State ℕ → State ℕ
wrapped loans values s = record s { source = record s.source { loans = loans; values = values } }

remains_wrapped : (l : List GName) (c : List ℕ → List ℕ) {a : State ℕ} {xs : List ℕ} → Remains a xs → Remains (wrapped l c a) xs
remains_wrapped l c h = record { known = h.known; are = h.are }

remains_in : (l : List GName) (c : List ℕ → List ℕ) {a : State ℕ} {xs : List ℕ} → Remains (wrapped l c a) xs → Remains a xs
remains_in l c h = record { known = h.known; are = h.are }

none_is_eof_in : (l m : List GName) (c d : List ℕ → List ℕ) (a b : State ℕ) (r : FrameAnswer) → NoneIsEof 2 r (wrapped l c a) (wrapped m d b) → NoneIsEof 2 r a b
none_is_eof_in l m c d a b (Ok found) h = λ e known. let p = h e known in (p.0, remains_in m d p.1)
none_is_eof_in l m c d a b (Err e) h = tt

module _ (a b : State ℕ) (l m : List GName) (c d : List ℕ → List ℕ) (same_loans : m ≡ l → b.source.loans ≡ a.source.loans) (same_values : RemainingIsKnown a → RemainingIsKnown b → values_at_eof b.source.remaining d ≡ values_at_eof a.source.remaining c → final_values b ≡ final_values a) where
  consumes_in : (P : List ℕ → List ℕ → Type 0) → Consumes (wrapped l c a) (wrapped m d b) P → Consumes a b P
  consumes_in P h = record { errors = h.errors; empty_reads = h.empty_reads; loans = same_loans h.loans; known = λ t. let x = h.known t in record { known = x.known; is = x.is; rest = x.rest; values = same_values t x.known x.values } }

  failed_in : (P : List ℕ → Type 0) → ReadFailedOrRemaining (wrapped l c a) (wrapped m d b) P → ReadFailedOrRemaining a b P
  failed_in P h = record { loans = same_loans h.loans; known = λ t. let x = h.known t in record { known = x.known; why = x.why; rest = x.rest } }

  stops_in : (e : Error) (read : List ℕ → Reading ℕ (Option Block)) → Stops e read (wrapped l c a) (wrapped m d b) → Stops e read a b
  stops_in e read h = record { failure = λ i. failed_in _ (h.failure i); fault = λ i. consumes_in _ (h.fault i); named = h.named }

  eof_in : ReachedEof 2 (wrapped l c a) (wrapped m d b) → ReachedEof 2 a b
  eof_in h = record { errors = h.errors; loans = same_loans h.loans; known = λ t. let x = h.known t in record { known = x.known; is = x.is; rest = x.rest; values = same_values t x.known x.values } }

  gives_in : (r : FrameAnswer) (read : List ℕ → Reading ℕ Block) → GivesOrEofOrOutOfMemory 2 block_view r read (wrapped l c a) (wrapped m d b) → GivesOrEofOrOutOfMemory 2 block_view r read a b
  gives_in (Ok (Some x)) read h = consumes_in (λ s k. or_eof 2 read s ≡ Done (Some (block_view x)) k) h
  gives_in (Ok None) read h = eof_in h
  gives_in (Err OutOfMemory) read h = record { consumed = consumes_in (λ s k. Unit {0}) h.consumed }
  gives_in (Err (IoError cause)) read h = stops_in (IoError cause) (or_eof 2 read) h
  gives_in (Err (FormatError text)) read h = stops_in (FormatError text) (or_eof 2 read) h
  gives_in (Err (Unsupported text)) read h = stops_in (Unsupported text) (or_eof 2 read) h

  reads_in : {stream : Option StreamFormat} {r : FrameAnswer} → ReadsFrame stream r (wrapped l c a) (wrapped m d b) → ReadsFrame stream r a b
  reads_in {stream = stream} {r = r} h = let p = h.promises in record {
    promises = record {
      is_sound = p.is_sound;
      is_complete = λ y t rest code o. elim (p.is_complete y t rest code (remains_wrapped l c o)) [ inl q ↦ inl (q.0, remains_in m d q.1) | inr q ↦ inr q ];
      none_is_eof = none_is_eof_in l m c d a b r p.none_is_eof;
      eof_is_none = λ xs o few. elim (p.eof_is_none xs (remains_wrapped l c o) few) [ inl q ↦ inl (q.0, remains_in m d q.1) | inr q ↦ inr q ];
      failure_is_err = p.failure_is_err;
      fault_is_sound = p.fault_is_sound;
      fault_is_complete = λ f t rest bad o. elim (p.fault_is_complete f t rest bad (remains_wrapped l c o)) [ inl q ↦ inl (q.0, remains_in m d q.1) | inr q ↦ inr q ];
      else_io_error = p.else_io_error;
      leaves_rest = p.leaves_rest;
    };
    memory = h.memory;
    gives = gives_in r (frame_bytes_at stream) h.gives;
  }

-- ---- through a reference

module _ {R : Type 0} (source : R → Source ℕ) {r : FrameAnswer} (s q : MutBor R) where
  reads_lent : {stream : Option StreamFormat} → ReadsFrame stream r (bytes_in (lent source) s) (bytes_in (lent source) q) → ReadsFrame stream r (bytes_in source s.now) (bytes_in source q.now)
  unfolding bytes_in
  reads_lent h =
      let a = source s.now in
      let b = source q.now in
      reads_in (bytes_in source s.now) (bytes_in source q.now) (s.ghost_name ∷ a.loans) (q.ghost_name ∷ b.loans) a.values b.values (same_loans_below s.ghost_name q.ghost_name a.loans b.loans) (λ k l e. e) h

  pub reads_borrowed : {stream known : Option StreamFormat} (x : MutBor R) → s ≡ x → stream ≡ known → ReadsFrame stream r (bytes_in (lent source) s) (bytes_in (lent source) q) → ReadsFrame known r (bytes_in source x.now) (bytes_in source q.now)
  reads_borrowed {known = known} x at same h =
      subst (λ (z : MutBor R). ReadsFrame known r (bytes_in source z.now) (bytes_in source q.now)) at
      (reads_lent (subst (λ (z : Option StreamFormat). ReadsFrame z r (bytes_in (lent source) s) (bytes_in (lent source) q)) same h))

-- the frame and its header
pub sound_borrowed : {R A : Type 0} (source : R → Source ℕ) (s q : MutBor R) {stream known : Option StreamFormat} (r : DecodedAnswer A) (x : MutBor R) → s ≡ x → stream ≡ known
    → FoundIsSound decoded_view r (FrameWithHeader stream) (bytes_in (lent source) s) (bytes_in (lent source) q) → FoundIsSound decoded_view r (FrameWithHeader known) (bytes_in source x.now) (bytes_in source q.now)
unfolding bytes_in
sound_borrowed {R = R} source s q {known = known} r x at same h =
    subst (λ (z : MutBor R). FoundIsSound decoded_view r (FrameWithHeader known) (bytes_in source z.now) (bytes_in source q.now)) at
    (subst (λ (z : Option StreamFormat). FoundIsSound decoded_view r (FrameWithHeader z) (bytes_in source s.now) (bytes_in source q.now)) same h)

-- memory that was refused
pub memory_borrowed : {R : Type 0} (source : R → Source ℕ) (s q : MutBor R) {stream known : Option StreamFormat} (capacity : ℕ) (r : FrameAnswer) (x : MutBor R) → s ≡ x → stream ≡ known
    → OutOfMemoryBeyondCapacity stream capacity r (bytes_in (lent source) s) (bytes_in (lent source) q) → OutOfMemoryBeyondCapacity known capacity r (bytes_in source x.now) (bytes_in source q.now)
unfolding bytes_in
memory_borrowed {R = R} source s q {known = known} capacity r x at same h =
    subst (λ (z : MutBor R). OutOfMemoryBeyondCapacity known capacity r (bytes_in source z.now) (bytes_in source q.now)) at
    (subst (λ (z : Option StreamFormat). OutOfMemoryBeyondCapacity z capacity r (bytes_in source s.now) (bytes_in source q.now)) same h)

-- ---- through a reader that keeps a CRC, over a reference

module _ {R S : Type 0} (source : R → Source ℕ) (update_crc : S → List ℕ → ℕ) (input : MutBor R) (x y : RunningReader (MutBor R) S) (at : running_inner x ≡ input) {stream : Option StreamFormat} {r : FrameAnswer} where
  -- the reference is still the same
  pub same_reference : ReadsFrame stream r (bytes_in (running_source (lent source) update_crc) x) (bytes_in (running_source (lent source) update_crc) y) → input.ghost_name ≡ (running_inner y).ghost_name
  unfolding bytes_in
  same_reference h =
      ap (λ (z : MutBor R). z.ghost_name) (sym at) ∙ name_below (running_inner x).ghost_name (running_inner y).ghost_name (source (running_inner x).now).loans (source (running_inner y).now).loans (reads_loans h)

  -- what was read
  pub reads_below : ReadsFrame stream r (bytes_in (running_source (lent source) update_crc) x) (bytes_in (running_source (lent source) update_crc) y) → ReadsFrame stream r (bytes_in source input.now) (bytes_in source (running_inner y).now)
  unfolding bytes_in
  reads_below h =
      let p = running_inner x in
      let q = running_inner y in
      let a = source p.now in
      let b = source q.now in
      let f = update_crc (running_value x) in
      let g = update_crc (running_value y) in
      subst (λ (z : MutBor R). ReadsFrame stream r (bytes_in source z.now) (bytes_in source q.now)) at
      (reads_in (bytes_in source p.now) (bytes_in source q.now) (p.ghost_name ∷ a.loans) (q.ghost_name ∷ b.loans) (λ xs. f xs ∷ a.values xs) (λ xs. g xs ∷ b.values xs) (same_loans_below p.ghost_name q.ghost_name a.loans b.loans) (same_values_below a.remaining b.remaining f g a.values b.values) h)

-- what is said of the bytes
pub tells_below : {R S A : Type 0} (source : R → Source ℕ) (update_crc : S → List ℕ → ℕ) (input : MutBor R) (x : RunningReader (MutBor R) S) → running_inner x ≡ input → (q : Result (Option A) FrameError) → TellsOf32Bits q (bytes_in (running_source (lent source) update_crc) x)
    → TellsOf32Bits q (bytes_in source input.now)
unfolding bytes_in
tells_below source update_crc input x at (Ok found) h = tt
tells_below {R = R} source update_crc input x at (Err e) h = subst (λ (z : MutBor R). RemainingIsKnown (bytes_in source z.now) → IsTrue e.is_32_bit ↔ Is32BitFault (bytes_in source z.now).remaining e.error) at h

-- the frame and its header, through a reader that keeps a CRC, over a reference
pub sound_below : {R S A : Type 0} (source : R → Source ℕ) (update_crc : S → List ℕ → ℕ) (input : MutBor R) (x y : RunningReader (MutBor R) S) → running_inner x ≡ input → (stream : Option StreamFormat) (r : DecodedAnswer A)
    → FoundIsSound decoded_view r (FrameWithHeader stream) (bytes_in (running_source (lent source) update_crc) x) (bytes_in (running_source (lent source) update_crc) y) → FoundIsSound decoded_view r (FrameWithHeader stream) (bytes_in source input.now) (bytes_in source (running_inner y).now)
unfolding bytes_in
sound_below {R = R} source update_crc input x y at stream r h = subst (λ (z : MutBor R). FoundIsSound decoded_view r (FrameWithHeader stream) (bytes_in source z.now) (bytes_in source (running_inner y).now)) at h

-- the first bytes of what is no frame
pub first_below : {R S : Type 0} (source : R → Source ℕ) (update_crc : S → List ℕ → ℕ) (input : MutBor R) (x y : RunningReader (MutBor R) S) → running_inner x ≡ input → (first : FirstBytes) (E : Fault → Type 0)
    → ((f : Fault) → E f → RemainingIsKnown (bytes_in (running_source (lent source) update_crc) x) → AreFirst first (bytes_in (running_source (lent source) update_crc) x).remaining (bytes_in (running_source (lent source) update_crc) y).remaining)
    → (f : Fault) → E f → RemainingIsKnown (bytes_in source input.now) → AreFirst first (bytes_in source input.now).remaining (bytes_in source (running_inner y).now).remaining
unfolding bytes_in
first_below {R = R} source update_crc input x y at first E h = subst (λ (z : MutBor R). (f : Fault) → E f → RemainingIsKnown (bytes_in source z.now) → AreFirst first (bytes_in source z.now).remaining (bytes_in source (running_inner y).now).remaining) at h

-- memory that was refused, through a reader that keeps a CRC, over a reference
pub memory_below : {R S : Type 0} (source : R → Source ℕ) (update_crc : S → List ℕ → ℕ) (input : MutBor R) (x y : RunningReader (MutBor R) S) → running_inner x ≡ input → (stream : Option StreamFormat) (capacity : ℕ) (r : FrameAnswer)
    → OutOfMemoryBeyondCapacity stream capacity r (bytes_in (running_source (lent source) update_crc) x) (bytes_in (running_source (lent source) update_crc) y) → OutOfMemoryBeyondCapacity stream capacity r (bytes_in source input.now) (bytes_in source (running_inner y).now)
unfolding bytes_in
memory_below {R = R} source update_crc input x y at stream capacity r h = subst (λ (z : MutBor R). OutOfMemoryBeyondCapacity stream capacity r (bytes_in source z.now) (bytes_in source (running_inner y).now)) at h
