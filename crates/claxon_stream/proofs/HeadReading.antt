-- What is read of bytes in memory, by what a call gives over a cursor.
use Rattle.std.proofs.Common.{◌≡◌, inl, inr, ℕ, List, refl, sym, ap, ◌∙◌, Bor}
use Rattle.std.specs.Prelude.{Result, Ok, Err, IsErrAnd}
use Rattle.std.proofs.lemmas.Result.{err_from_is_err_and}
use Rattle.claxon.specs.Error.{IsFault}
use Rattle.claxon.specs.Errors.{Error}
use Rattle.claxon.specs.Errors.TheVariants.{FormatError, IoError, OutOfMemory, Unsupported}
use Rattle.claxon.specs.Fault.{Fault}
use Rattle.claxon.specs.Gives.{Consumes, Gives, GivesOrOutOfMemory, IsFaultOf, ReadFailedOrRemaining}
use Rattle.claxon.specs.Promises.{IsOutOfMemory, Remains}
use Rattle.claxon.specs.read.Reading.{Reading, Done, Faulty, Incomplete, bind}
use Rattle.claxon.proofs.ByteFields.{consumes_big, consumes_byte, exit_big, numbers}
use Rattle.claxon.proofs.FramesInMemory.{Slice, slice_state}
use Rattle.claxon.proofs.InMemory.{cursor_never_fails}
use Rattle.claxon_stream.specs.HeadPart.{ReadsAs}

-- for a function that reads numbers, to be named in its `using`
pub ruleset byte_numbers = (numbers, consumes_byte, consumes_big, exit_big)

-- a fault that was read
fault_read : {Y : Type 0} (e : Error) (x : Reading ℕ Y) (m : List ℕ) → IsFaultOf e x m → (f : Fault) × (rest : List ℕ) × IsFault f e × (x ≡ Faulty f rest)
fault_read e (Faulty f rest) m h = (f, rest, h.0, refl)
fault_read e (Done y rest) m h = absurd h
fault_read e Incomplete m h = absurd h

module _ {A Y : Type 0} (view : A → Y) (read : List ℕ → Reading ℕ Y) (bytes : List ℕ) (a b : Slice) (remains : Remains (slice_state a) bytes) where
  same : read (slice_state a).remaining ≡ read bytes
  same = ap read remains.are

  faulty_as : (e : Error) → Consumes (slice_state a) (slice_state b) (λ s m. IsFaultOf e (read s) m) → (f : Fault) × (rest : List ℕ) × IsFault f e × (read bytes ≡ Faulty f rest)
  faulty_as e h = let k = fault_read e (read (slice_state a).remaining) (slice_state b).remaining (h.known remains.known).is in (k.0, k.1, k.2, sym same ∙ k.3)

  -- no read of bytes in memory fails
  pub cut_short : ReadFailedOrRemaining (slice_state a) (slice_state b) (λ s. read s ≡ Incomplete) → read bytes ≡ Incomplete
  cut_short h = elim (h.known remains.known).why [ inl p ↦ sym same ∙ p | inr failed ↦ absurd (cursor_never_fails (λ (s : Bor (List ℕ)). s.now) a b failed) ]

  pub reads_as : {Memory : Type 0} (r : Result A Error) → GivesOrOutOfMemory view r read (slice_state a) (slice_state b) → (IsOutOfMemory r → Memory) → ReadsAs Memory view r (read bytes)
  reads_as (Ok x) h memory = ((slice_state b).remaining, sym same ∙ (h.known remains.known).is)
  reads_as (Err OutOfMemory) h memory = memory refl
  reads_as (Err (IoError cause)) h memory = cut_short (h.failure refl)
  reads_as (Err (FormatError text)) h memory = faulty_as (FormatError text) (h.fault refl)
  reads_as (Err (Unsupported text)) h memory = faulty_as (Unsupported text) (h.fault refl)

  -- of a call that allocates no memory
  pub reads_as_given : (r : Result A Error) → Gives view r read (slice_state a) (slice_state b) → ReadsAs ⊥ view r (read bytes)
  reads_as_given (Ok x) h = ((slice_state b).remaining, sym same ∙ (h.known remains.known).is)
  reads_as_given (Err OutOfMemory) h = let k = h.named in absurd cc
  reads_as_given (Err (IoError cause)) h = cut_short (h.failure refl)
  reads_as_given (Err (FormatError text)) h = faulty_as (FormatError text) (h.fault refl)
  reads_as_given (Err (Unsupported text)) h = faulty_as (Unsupported text) (h.fault refl)

-- ---- what is read next

module _ {A B X Y : Type 0} {Memory More : Type 0} (view : A → X) (show : B → Y) (x : Reading ℕ X) (next : X → List ℕ → Reading ℕ Y) (more : Memory → More) where
  -- where the first field isn't read, the whole isn't
  err_then : (e : Error) → ReadsAs Memory view (let r : Result A Error = Err e in r) x → ReadsAs More show (let r : Result B Error = Err e in r) (bind x next)
  err_then OutOfMemory h = more h
  err_then (IoError cause) h = rw h refl
  err_then (FormatError text) h = (h.0, h.1, h.2, rw h.3 refl)
  err_then (Unsupported text) h = (h.0, h.1, h.2, rw h.3 refl)

  pub exit_then : (e : Error) (r : Result B Error) → IsErrAnd r (λ y. y ≡ e) → ReadsAs Memory view (let q : Result A Error = Err e in q) x → ReadsAs More show r (bind x next)
  exit_then e r err h = let is = err_from_is_err_and r err in rw (is.1, is.2) (err_then e h)
