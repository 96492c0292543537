-- What a frame's CRC reader over a mutable reference did, in terms of the borrowed reader.
use Rattle.std.proofs.Common.{◌≡◌, ℕ, List, ◌∷◌, inl, inr, subst}
use Rattle.std.specs.Borrow.{GName, MutBor}
use Rattle.std.specs.Prelude.{Result, Ok, Err, IfErr, true}
use Rattle.claxon_format.specs.read.Reading.{Reading}
use Rattle.claxon_input.specs.RunningReader.{running_inner, running_source, running_value}
use Rattle.claxon_input.specs.Source.{Source, through_loan, with_value}
use Rattle.claxon_input.specs.State.{bytes_in}
use Rattle.claxon_input.specs.Gives.{Consumes, GivesOrOutOfMemory}
use Rattle.claxon_input.specs.declared.running.RunningReader.{RunningReader}
use Rattle.claxon_input.specs.declared.error.Error.{Error}
use Rattle.claxon_input.proofs.ConsecutiveCalls.{gives_loans, out_of_memory_or_gives}
use Rattle.claxon_input.proofs.RunningReaders.{over_borrow, consumes_below, gives_or_out_of_memory_below}
use Rattle.claxon_input.proofs.States.{bytes_of_source}
use Rattle.claxon_input.specs.Error.{is_out_of_memory}
use Rattle.claxon_frame.specs.StartedFrame.{RestTooSmall, Started}

module _ (s t : Source ℕ) (j k : GName) (f g : List ℕ → ℕ) where
  consumes_borrowed : (P : List ℕ → List ℕ → Type 0) → Consumes (bytes_of_source (with_value f (through_loan j s))) (bytes_of_source (with_value g (through_loan k t))) P → Consumes (bytes_of_source s) (bytes_of_source t) P
  consumes_borrowed P h = consumes_below (bytes_of_source s) (bytes_of_source t) j k f g P h

  rest_borrowed : {A Y : Type 0} (view : A → Y) (r : Result A Error) (read : List ℕ → Reading ℕ Y)
      → GivesOrOutOfMemory view r read (bytes_of_source (with_value f (through_loan j s))) (bytes_of_source (with_value g (through_loan k t))) → GivesOrOutOfMemory view r read (bytes_of_source s) (bytes_of_source t)
  rest_borrowed view r read h = gives_or_out_of_memory_below (bytes_of_source s) (bytes_of_source t) j k f g view r read h

  rest_borrow_name : {A Y : Type 0} (view : A → Y) (r : Result A Error) (read : List ℕ → Reading ℕ Y)
      → GivesOrOutOfMemory view r read (bytes_of_source (with_value f (through_loan j s))) (bytes_of_source (with_value g (through_loan k t))) → j ≡ k
  rest_borrow_name view r read h = elim (out_of_memory_or_gives view r read _ _ h) [
    | inl p ↦ (let e : k ∷ t.loans ≡ j ∷ s.loans = p.1.consumed.loans in cc)
    | inr q ↦ (let e : k ∷ t.loans ≡ j ∷ s.loans = gives_loans view r read _ _ q in cc)
  ]

  too_small_borrowed : (started : Started) (capacity : ℕ) → RestTooSmall started capacity (bytes_of_source (with_value f (through_loan j s))) (bytes_of_source (with_value g (through_loan k t))) → RestTooSmall started capacity (bytes_of_source s) (bytes_of_source t)
  too_small_borrowed started capacity h = record { nothing = consumes_borrowed (λ s m. s ≡ m) h.nothing; small = h.small }

-- what was read through a CRC reader that was made over a reference
module _ {R S : Type 0} (source : R → Source ℕ) (update : S → List ℕ → ℕ) (x : R) (j : GName) (f : List ℕ → ℕ) (b c : RunningReader (MutBor R) S) (made : running_source (over_borrow source) update b ≡ with_value f (through_loan j (source x))) where
  -- and the reference is still the same
  pub rest_through : {A Y : Type 0} (view : A → Y) (r : Result A Error) (read : List ℕ → Reading ℕ Y) → GivesOrOutOfMemory view r read (bytes_in (running_source (over_borrow source) update) b) (bytes_in (running_source (over_borrow source) update) c)
      → (j ≡ (running_inner c).ghost_name) × GivesOrOutOfMemory view r read (bytes_in source x) (bytes_in source (running_inner c).now)
  unfolding bytes_in
  rest_through view r read h =
      let k = subst (λ z. GivesOrOutOfMemory view r read (bytes_of_source z) (bytes_of_source (running_source (over_borrow source) update c))) made h in
      (rest_borrow_name (source x) (source (running_inner c).now) j (running_inner c).ghost_name f (update (running_value c)) view r read k, rest_borrowed (source x) (source (running_inner c).now) j (running_inner c).ghost_name f (update (running_value c)) view r read k)

  too_small_through : (started : Started) (capacity : ℕ) → RestTooSmall started capacity (bytes_in (running_source (over_borrow source) update) b) (bytes_in (running_source (over_borrow source) update) c) → RestTooSmall started capacity (bytes_in source x) (bytes_in source (running_inner c).now)
  unfolding bytes_in
  too_small_through started capacity h =
      too_small_borrowed (source x) (source (running_inner c).now) j (running_inner c).ghost_name f (update (running_value c)) started capacity
      (subst (λ z. RestTooSmall started capacity (bytes_of_source z) (bytes_of_source (running_source (over_borrow source) update c))) made h)

  pub out_of_memory_through : {B : Type 0} (started : Started) (capacity : ℕ) (r : Result B Error) → IfErr r (λ error. is_out_of_memory error ≡ true → RestTooSmall started capacity (bytes_in (running_source (over_borrow source) update) b) (bytes_in (running_source (over_borrow source) update) c))
      → IfErr r (λ error. is_out_of_memory error ≡ true → RestTooSmall started capacity (bytes_in source x) (bytes_in source (running_inner c).now))
  out_of_memory_through started capacity (Ok y) h = tt
  out_of_memory_through started capacity (Err e) h = λ m. too_small_through started capacity (h m)
