-- What follows the head of a stream that was opened.
use Rattle.std.specs.Borrow.{MutBor}
use Rattle.std.proofs.Common.{◌≡◌, ◌⊎◌, inl, inr, ℕ, true, List, ◌++◌, Option, Some, sym, subst}
use Rattle.std.specs.Prelude.{IsErrAnd, Result, Ok, Err}
use Rattle.claxon.specs.BufferedReader.{buffered_source}
use Rattle.claxon.specs.BufferedReaders.{BufferedReader}
use Rattle.claxon.specs.Error.{IsFault}
use Rattle.claxon.specs.Errors.{Error}
use Rattle.claxon.specs.Fault.{Fault}
use Rattle.claxon.specs.FlacReader.{flac_head, flac_input, flac_streaminfo}
use Rattle.claxon.specs.Frame.{IsBitDepth, StreamFormat, known_bit_depth}
use Rattle.claxon.specs.FrameReader.{stream_with}
use Rattle.claxon.specs.Heads.{Head, HeadCode, HeadFault}
use Rattle.claxon.specs.Opening.{OpenFaultIsComplete, OpenIsComplete, OpenIsSound, IsMemoryOrIoError, OpenAnswer, flac_bytes, unread}
use Rattle.claxon.specs.Promises.{Remains}
use Rattle.claxon.specs.SampleRuns.{lent}
use Rattle.claxon.specs.State.{State, bytes_in, RemainingIsKnown}
use Rattle.claxon.specs.Streams.{stream_of, with_samples}
use Rattle.claxon.specs.declared.reader.FlacReader.{FlacReader}
use Rattle.claxon.proofs.SampleRuns.{after_loan}
use Rattle.claxon.specs.Prefix.{BeginsWith}
use Rattle.claxon_uses.proofs.MemoryOrIoErrors.{same_memory_or_io_error, not_memory_or_io_error}

-- ---- no head was read

module _ {R A : Type 0} (remaining : R → Option (List ℕ)) (reader : R) (e : Error) where
  -- where the bytes begin with one, there was `OutOfMemory` or an `IoError`
  pub no_head : {X : Type 0} → OpenIsComplete remaining (with_samples true) reader (let r : OpenAnswer R A = Err e in r) → (h : Head) (front frames : List ℕ) → HeadCode (with_samples true) h front → RemainingIsKnown (unread (remaining reader))
      → (unread (remaining reader)).remaining ≡ front ++ frames → IsMemoryOrIoError (let r : Result X Error = Err e in r)
  no_head complete h front frames code is_known is = elim (complete h front frames code (record { known = is_known; are = is })) [ inl p ↦ absurd p | inr d ↦ same_memory_or_io_error e d ]

  -- a fault of a head is named
  pub head_fault_named : {X : Type 0} → OpenFaultIsComplete remaining (with_samples true) reader (let r : OpenAnswer R A = Err e in r) → (f : Fault) → RemainingIsKnown (unread (remaining reader))
      → BeginsWith (HeadFault (with_samples true) f) (unread (remaining reader)).remaining → IsErrAnd (let r : Result X Error = Err e in r) (IsFault f) ⊎ IsMemoryOrIoError (let r : Result X Error = Err e in r)
  head_fault_named named f is_known b = elim (named f b.0 b.1 b.2 (record { known = is_known; are = b.3 })) [ inl p ↦ inl p | inr d ↦ inr (same_memory_or_io_error e d) ]

-- ---- a head was read

-- `flac` was opened, `after` are the bytes after its head, and `stream` is what is known of it.
pub record IsOpened {R A : Type 0} (remaining : R → Option (List ℕ)) (reader : R) (flac : FlacReader R A) (after : State ℕ) (stream : Option StreamFormat) : Type 0 where
  pub head : OpenIsSound remaining (with_samples true) reader (let r : OpenAnswer R A = Ok flac in r)
  pub complete : OpenIsComplete remaining (with_samples true) reader (let r : OpenAnswer R A = Ok flac in r)
  pub named : OpenFaultIsComplete remaining (with_samples true) reader (let r : OpenAnswer R A = Ok flac in r)
  pub bit_depth : IsBitDepth (known_bit_depth stream)
  pub stream_is : stream ≡ Some (stream_of (flac_head flac).info)
  pub remaining_is : after.remaining ≡ (flac_bytes remaining flac).remaining
  pub known_is : RemainingIsKnown (flac_bytes remaining flac) → RemainingIsKnown after

module _ {R A : Type 0} (remaining : R → Option (List ℕ)) (reader : R) (flac : FlacReader R A) where
  -- over the borrow of its input
  pub opened : (input : MutBor (BufferedReader R A)) (stream : Option StreamFormat) → OpenIsSound remaining (with_samples true) reader (let r : OpenAnswer R A = Ok flac in r) → OpenIsComplete remaining (with_samples true) reader (let r : OpenAnswer R A = Ok flac in r)
      → OpenFaultIsComplete remaining (with_samples true) reader (let r : OpenAnswer R A = Ok flac in r) → input.now ≡ flac_input flac → stream ≡ Some (stream_with (flac_streaminfo flac)) → IsOpened remaining reader flac (bytes_in (lent (buffered_source remaining)) input) stream
  opened input stream head complete named input_is stream_is = record {
    head = head;
    complete = complete;
    named = named;
    bit_depth = subst (λ (z : Option StreamFormat). IsBitDepth (known_bit_depth z)) (sym stream_is) (flac.head.bounds.some_bits, flac.head.bounds.bits);
    stream_is = stream_is;
    remaining_is = (after_loan remaining flac input input_is).0;
    known_is = (after_loan remaining flac input input_is).1;
  }

  module _ {after : State ℕ} {stream : Option StreamFormat} (o : IsOpened remaining reader flac after stream) (is_known : RemainingIsKnown (unread (remaining reader))) where
    pub after_known : RemainingIsKnown after
    after_known = o.known_is (o.head is_known).0

    -- what holds of the remaining frames holds of those after the head that is shown
    pub shown : (P : Option StreamFormat → List ℕ → Type 0) → P stream after.remaining → P (Some (stream_of (flac_head flac).info)) (flac_bytes remaining flac).remaining
    shown P p = subst (λ (z : Option StreamFormat). P z (flac_bytes remaining flac).remaining) o.stream_is (subst (λ (z : List ℕ). P stream z) o.remaining_is p)

    -- a head that the bytes begin with is the one shown
    pub same_head : (h : Head) (front frames : List ℕ) → HeadCode (with_samples true) h front → (unread (remaining reader)).remaining ≡ front ++ frames → (flac_head flac ≡ h) × Remains (flac_bytes remaining flac) frames
    same_head h front frames code e = elim (o.complete h front frames code (record { known = is_known; are = e })) [ inl q ↦ q | inr d ↦ absurd (not_memory_or_io_error flac d) ]

    -- what holds of the frames after a head that the bytes begin with holds of the remaining ones
    pub after_any_head : (P : Option StreamFormat → List ℕ → Type 0) (h : Head) (front frames : List ℕ) → HeadCode (with_samples true) h front → (unread (remaining reader)).remaining ≡ front ++ frames → P (Some (stream_of h.info)) frames → P stream after.remaining
    after_any_head P h front frames code e p =
        let q = same_head h front frames code e in
        let same = subst (λ (z : Head). P (Some (stream_of z.info)) (flac_bytes remaining flac).remaining) (sym q.0) (subst (λ (z : List ℕ). P (Some (stream_of h.info)) z) (sym q.1.are) p) in
        subst (λ (z : List ℕ). P stream z) (sym o.remaining_is) (subst (λ (z : Option StreamFormat). P z (flac_bytes remaining flac).remaining) (sym o.stream_is) same)

    -- the bytes begin with no fault of a head
    pub no_head_fault : (f : Fault) → BeginsWith (HeadFault (with_samples true) f) (unread (remaining reader)).remaining → ⊥
    no_head_fault f b = elim (o.named f b.0 b.1 b.2 (record { known = is_known; are = b.3 })) [ inl p ↦ p | inr d ↦ not_memory_or_io_error flac d ]
