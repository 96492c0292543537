-- The status and the text that report an error.
use Rattle.std.proofs.Common.{◌≡◌, ◌⊎◌, inl, inr, ℕ, List, refl, ap, subst}
use Rattle.std.specs.Prelude.{◌≢◌, Result, Err, IsErrAnd}
use Rattle.claxon.specs.Fault.{Fault}
use Rattle.claxon.specs.Error.{IsFault, IsIo}
use Rattle.claxon.specs.Promises.{HasNeither, IsOutOfMemory}
use Rattle.claxon.specs.Errors.{Error}
use Rattle.claxon.specs.Errors.TheVariants.{IoError, FormatError, Unsupported, OutOfMemory}
use Rattle.claxon.specs.Prefix.{BeginsWith}
use Rattle.claxon_c.specs.Status.{ErrorIsReported, FaultIsReported, IsFaultStatus, TextIsPut, TextIsReported, buffer_too_small, input_ends, no_more, ok, out_of_memory}

module _ (status : ℕ) (old new : List ℕ) where
  pub reported_fault : (f : Fault) (e : Error) → IsFault f e → ErrorIsReported e status old new → FaultIsReported f status old new
  reported_fault f (FormatError reason) is t = (rw is.1 t.0, subst (λ (z : List ℕ). TextIsPut z old new) is.0 t.1)
  reported_fault f (Unsupported feature) is t = (rw is.1 t.0, subst (λ (z : List ℕ). TextIsPut z old new) is.0 t.1)
  reported_fault f (IoError cause) is t = absurd is
  reported_fault f OutOfMemory is t = absurd is

  reported_io : (e : Error) → IsIo e → ErrorIsReported e status old new → status ≡ input_ends
  reported_io (FormatError reason) is t = absurd cc
  reported_io (Unsupported feature) is t = absurd cc
  reported_io (IoError cause) is t = t.0
  reported_io OutOfMemory is t = absurd cc

  pub reported_out_of_memory : (e : Error) → e ≡ OutOfMemory → ErrorIsReported e status old new → status ≡ out_of_memory
  reported_out_of_memory (FormatError reason) is t = absurd cc
  reported_out_of_memory (Unsupported feature) is t = absurd cc
  reported_out_of_memory (IoError cause) is t = absurd cc
  reported_out_of_memory OutOfMemory is t = t.0

  pub is_out_of_memory : (e : Error) → status ≡ out_of_memory → ErrorIsReported e status old new → e ≡ OutOfMemory
  is_out_of_memory (FormatError reason) is t = absurd cc
  is_out_of_memory (Unsupported feature) is t = absurd cc
  is_out_of_memory (IoError cause) is t = absurd cc
  is_out_of_memory OutOfMemory is t = refl

  no_fault : (s : ℕ) → IsFaultStatus s → (s ≡ input_ends) ⊎ (s ≡ out_of_memory) → ⊥
  no_fault s (inl a) (inl b) = absurd cc
  no_fault s (inl a) (inr b) = absurd cc
  no_fault s (inr a) (inl b) = absurd cc
  no_fault s (inr a) (inr b) = absurd cc

  -- an error has no other status
  pub just_error : (e : Error) → ErrorIsReported e status old new → (status ≢ ok) × ((status ≢ no_more) × (status ≢ buffer_too_small))
  just_error (FormatError reason) t = (λ p. absurd cc, (λ p. absurd cc, λ p. absurd cc))
  just_error (Unsupported feature) t = (λ p. absurd cc, (λ p. absurd cc, λ p. absurd cc))
  just_error (IoError cause) t = (λ p. absurd cc, (λ p. absurd cc, λ p. absurd cc))
  just_error OutOfMemory t = (λ p. absurd cc, (λ p. absurd cc, λ p. absurd cc))

  pub text_reported : (e : Error) → ErrorIsReported e status old new → TextIsReported status old new
  text_reported (FormatError reason) t = (λ p. absurd cc, λ p. absurd cc)
  text_reported (Unsupported feature) t = (λ p. absurd cc, λ p. absurd cc)
  text_reported (IoError cause) t = (λ p. t.1, λ p. absurd cc)
  text_reported OutOfMemory t = (λ p. absurd cc, λ p. t.1)

  -- `Bad` are the faults that the bytes may begin with
  module _ (bytes : List ℕ) (Bad : Fault → List ℕ → Type 0) (e : Error) (reported : ErrorIsReported e status old new) where
    pub fault_reported : (e ≡ OutOfMemory) ⊎ (IsIo e ⊎ ((f : Fault) × IsFault f e × BeginsWith (Bad f) bytes)) → IsFaultStatus status → (f : Fault) × BeginsWith (Bad f) bytes × FaultIsReported f status old new
    fault_reported (inl m) says = absurd (no_fault status says (inr (reported_out_of_memory e m reported)))
    fault_reported (inr (inl i)) says = absurd (no_fault status says (inl (reported_io e i reported)))
    fault_reported (inr (inr k)) says = (k.0, k.2, reported_fault k.0 e k.1 reported)

    pub each_fault_reported : {A : Type 0} (f : Fault) → IsErrAnd (let q : Result A Error = Err e in q) (IsFault f) ⊎ IsOutOfMemory (let q : Result A Error = Err e in q) → FaultIsReported f status old new ⊎ (status ≡ out_of_memory)
    each_fault_reported f (inl p) = inl (reported_fault f e p reported)
    each_fault_reported f (inr s) = let m : e ≡ OutOfMemory = cc in inr (reported_out_of_memory e m reported)

    pub io_error_reported : {Y : Type 0} {Code : Y → List ℕ → Type 0} → (e ≡ OutOfMemory) ⊎ (IsIo e ⊎ ((f : Fault) × IsFault f e × BeginsWith (Bad f) bytes)) → HasNeither Code Bad bytes → (status ≡ input_ends) ⊎ (status ≡ out_of_memory)
    io_error_reported (inl m) n = inr (reported_out_of_memory e m reported)
    io_error_reported (inr (inl i)) n = inl (reported_io e i reported)
    io_error_reported (inr (inr k)) n = absurd (n.no_fault k.0 k.2.0 k.2.1 k.2.2 k.2.3)

    pub error_out_of_memory : {A : Type 0} → status ≡ out_of_memory → IsOutOfMemory (let q : Result A Error = Err e in q)
    error_out_of_memory is = ap (λ (z : Error). Err z) (is_out_of_memory e is reported)

    pub out_of_memory_reported : {A : Type 0} → IsOutOfMemory (let q : Result A Error = Err e in q) → status ≡ out_of_memory
    out_of_memory_reported s = let m : e ≡ OutOfMemory = cc in reported_out_of_memory e m reported
