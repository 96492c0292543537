-- A call that reads a block.
use Rattle.std.proofs.Common.{◌≡◌, ◌⊎◌, ◌<◌, ℕ, true, List, [], ◌∷◌, length, inl, inr, refl, sym, arith, ◌∙◌, Bool, eqb, false}
use Rattle.std.proofs.lemmas.Bool.{eqb-false, eqb-true}
use Rattle.std.specs.Prelude.{IfErr, IfOk, Option, None, Some, Result, Ok, Err}
use Rattle.claxon.specs.Error.{IsFault, IsIo}
use Rattle.claxon.specs.Errors.{Error}
use Rattle.claxon.specs.Errors.TheVariants.{FormatError, IoError, OutOfMemory, Unsupported}
use Rattle.claxon.specs.Fault.{Fault}
use Rattle.claxon.specs.Frame.{Frame, FrameBytesFault, StreamFormat}
use Rattle.claxon.specs.FrameReader.{FrameAnswer, HeaderOfLargerBlock, ReadsFrame, block_view}
use Rattle.claxon.specs.Gives.{ReadFailedIn, GivesOrEofOrOutOfMemory}
use Rattle.claxon.specs.Promises.{Consumed, FaultIsSound, FoundIsSound, IsExcused, IsOutOfMemory, NoneIsEof}
use Rattle.claxon.specs.State.{State, RemainingIsKnown, final_values, source_bytes}
use Rattle.claxon.specs.read.Frame.{frame_bytes_at}
use Rattle.claxon.specs.read.Reading.{Reading}
use Rattle.claxon_blocks.specs.Frames.{IsNotWhole}

-- P after a block, or after an Err other than `OutOfMemory` and `IoError`
abbrev pub IfConsumed : FrameAnswer → Type 0 → Type 0
IfConsumed (Ok (Some block)) P = P
IfConsumed (Ok None) P = Unit {0}
IfConsumed (Err (FormatError text)) P = P
IfConsumed (Err (Unsupported text)) P = P
IfConsumed (Err e) P = Unit {0}

-- What a call that reads a block returned, and what it did to its input.
pub record BlockIsRead (stream : Option StreamFormat) (r : FrameAnswer) (old new : State ℕ) : Type 0
  where
    pub sound : FoundIsSound block_view r (Frame stream) old new
    pub eof : IfOk r (λ found. found ≡ None → RemainingIsKnown old → length old.remaining < 2)
    pub fault : FaultIsSound r (FrameBytesFault stream) old new
    pub io : IfErr r (λ e. IsIo e → RemainingIsKnown old → IsNotWhole stream old.remaining
        ⊎ ReadFailedIn old new)
    pub memory : IsOutOfMemory r → Consumed old new (HeaderOfLargerBlock stream 0)
    pub loans : new.source.loans ≡ old.source.loans
    pub kept :
        IfConsumed r (
        (new.source.errors ≡ old.source.errors) × (new.source.empty_reads ≡ old.source.empty_reads)
        × (RemainingIsKnown old → final_values new ≡ final_values old))

-- whether the source failed
pub decide_failed : {X : Type 0} (a b : State X) → ReadFailedIn a b ⊎ (ReadFailedIn a b → ⊥)
decide_failed a b = go (eqb b.source.errors a.source.errors) (eqb b.source.empty_reads a.source.empty_reads) (source_bytes b) refl refl refl
  where
    go : (x y : Bool) (l : List ℕ) → eqb b.source.errors a.source.errors ≡ x → eqb b.source.empty_reads a.source.empty_reads ≡ y → source_bytes b ≡ l → ReadFailedIn a b ⊎ (ReadFailedIn a b → ⊥)
    go false y l e f g = inl (inl (eqb-false b.source.errors a.source.errors e))
    go true true l e f g = inr (λ z. elim z [ inl n ↦ n (eqb-true b.source.errors a.source.errors e) | inr n ↦ n.0 (eqb-true b.source.empty_reads a.source.empty_reads f) ])
    go true false [] e f g = inr (λ z. elim z [ inl n ↦ n (eqb-true b.source.errors a.source.errors e) | inr n ↦ n.1 g ])
    go true false (x ∷ l) e f g = inl (inr (eqb-false b.source.empty_reads a.source.empty_reads f, λ z. let k : x ∷ l ≡ [] = sym g ∙ z in cc))

-- an `IoError` isn't `OutOfMemory`
pub io_not_memory : {A : Type 0} (e : Error) → IsIo e → (let r : Result A Error = Err e in r) ≡ Err OutOfMemory → ⊥
io_not_memory (IoError cause) io m = cc
io_not_memory (FormatError text) io m = absurd cc
io_not_memory (Unsupported text) io m = absurd cc
io_not_memory OutOfMemory io m = absurd cc

-- where it didn't fail and the result is an `IoError`, there is no excuse
pub not_excused : {X A : Type 0} (a b : State X) (e : Error) → IsIo e → (ReadFailedIn a b → ⊥) → IsExcused (let r : Result A Error = Err e in r) a b → ⊥
not_excused a b e io not_failed (inl m) = io_not_memory e io m
not_excused a b e io not_failed (inr f) = not_failed f.1

pub io_not_fault : (f : Fault) (e : Error) → IsIo e → IsFault f e → ⊥
io_not_fault f (IoError cause) io h = h
io_not_fault f (FormatError text) io h = absurd cc
io_not_fault f (Unsupported text) io h = absurd cc
io_not_fault f OutOfMemory io h = h

module _ (stream : Option StreamFormat) (a b : State ℕ) where
  pub block_io : (r : FrameAnswer) → ReadsFrame stream r a b → IfErr r (λ e. IsIo e → RemainingIsKnown a → IsNotWhole stream a.remaining ⊎ ReadFailedIn a b)
  block_io (Ok found) h = tt
  block_io (Err e) h = λ io known. elim (decide_failed a b) [
    | inl f ↦ inr f
    | inr not_failed ↦ (
        let few : length a.remaining < 2 → ⊥ = λ lt. elim (h.promises.eof_is_none a.remaining (record { known = known; are = refl }) lt) [ inl p ↦ (let k : Err e ≡ Ok None = p.0 in cc) | inr x ↦ not_excused a b e io not_failed x ] in
        inl (
          omega (arith, few),
          record {
            no_code = λ y t rest c is. elim (h.promises.is_complete y t rest c (record { known = known; are = is })) [ inl p ↦ p.0 | inr x ↦ not_excused a b e io not_failed x ];
            no_fault = λ f t rest c is. elim (h.promises.fault_is_complete f t rest c (record { known = known; are = is })) [ inl p ↦ io_not_fault f e io p.0 | inr x ↦ not_excused a b e io not_failed x ];
          },
        )
        )
  ]

  block_kept : (r : FrameAnswer) (read : List ℕ → Reading ℕ _) → GivesOrEofOrOutOfMemory 2 block_view r read a b → IfConsumed r ((b.source.errors ≡ a.source.errors) × (b.source.empty_reads ≡ a.source.empty_reads) × (RemainingIsKnown a → final_values b ≡ final_values a))
  block_kept (Ok (Some x)) read g = (g.errors, g.empty_reads, λ k. (g.known k).values)
  block_kept (Ok None) read g = tt
  block_kept (Err OutOfMemory) read g = tt
  block_kept (Err (IoError cause)) read g = tt
  block_kept (Err (FormatError text)) read g = let w = g.fault refl in (w.errors, w.empty_reads, λ k. (w.known k).values)
  block_kept (Err (Unsupported text)) read g = let w = g.fault refl in (w.errors, w.empty_reads, λ k. (w.known k).values)

  block_eof : (r : FrameAnswer) → NoneIsEof 2 r a b → IfOk r (λ found. found ≡ None → RemainingIsKnown a → length a.remaining < 2)
  block_eof (Ok found) h = λ e known. (h e known).0
  block_eof (Err e) h = tt

  pub block_read : (r : FrameAnswer) → b.source.loans ≡ a.source.loans → ReadsFrame stream r a b → BlockIsRead stream r a b
  block_read r loans h = record {
    sound = h.promises.is_sound;
    eof = block_eof r h.promises.none_is_eof;
    fault = h.promises.fault_is_sound;
    io = block_io r h;
    memory = h.memory;
    loans = loans;
    kept = block_kept r (frame_bytes_at stream) h.gives;
  }
