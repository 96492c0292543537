-- What was read through a CRC reader over a mutable reference, in terms of the borrowed reader.
use Rattle.std.proofs.Common.{◌≡◌, ℕ, Option, None, Some, List, ◌∷◌, refl, subst}
use Rattle.std.specs.Borrow.{GName, MutBor}
use Rattle.std.specs.Prelude.{Result, Ok, Err}
use Rattle.claxon_format.specs.read.Reading.{Reading, Done}
use Rattle.claxon_input.specs.RunningReader.{running_inner, running_source, running_value}
use Rattle.claxon_input.specs.Source.{Source, through_loan, with_value}
use Rattle.claxon_input.specs.State.{State, bytes_in}
use Rattle.claxon_input.specs.Error.{is_io}
use Rattle.claxon_input.specs.declared.running.RunningReader.{RunningReader}
use Rattle.claxon_input.specs.declared.error.Error.{Error}
use Rattle.claxon_input.proofs.RunningReaders.{over_borrow, same_values_below, same_loans_below, stops_below, under, consumes_below}
use Rattle.claxon_input.proofs.States.{bytes_of_source}
use Rattle.claxon_input.proofs.ConsecutiveCalls.{stops_loans}
use Rattle.claxon_input.specs.Gives.{ReachedEof, GivesOrEof, or_eof}

module _ {X : Type 0} (a b : State X) (m n : GName) (f g : List ℕ → ℕ) where
  eof_below : (count : ℕ) → ReachedEof count (under m f a) (under n g b) → ReachedEof count a b
  eof_below count h = record { errors = h.errors; loans = same_loans_below m n a.source.loans b.source.loans h.loans; known = λ t. let x = h.known t in record { known = x.known; is = x.is; rest = x.rest; values = same_values_below a.source.remaining b.source.remaining f g a.source.values b.source.values t x.known x.values } }

  -- what was read through a CRC and a loan was read from the source under them
  gives_or_eof_below : {A Y : Type 0} (count : ℕ) (view : A → Y) (r : Result (Option A) Error) (read : List X → Reading X Y) → GivesOrEof count view r read (under m f a) (under n g b) → GivesOrEof count view r read a b
  gives_or_eof_below count view (Ok (Some x)) read h = consumes_below a b m n f g (λ s k. or_eof count read s ≡ Done (Some (view x)) k) h
  gives_or_eof_below count view (Ok None) read h = eof_below count h
  gives_or_eof_below count view (Err e) read h = stops_below a b m n f g e (or_eof count read) h

-- the loans stay the same
pub gives_or_eof_loans : {X A Y : Type 0} (count : ℕ) (view : A → Y) (r : Result (Option A) Error) (read : List X → Reading X Y) (a b : State X) → GivesOrEof count view r read a b → b.source.loans ≡ a.source.loans
gives_or_eof_loans count view (Ok (Some x)) read a b g = g.loans
gives_or_eof_loans count view (Ok None) read a b g = g.loans
gives_or_eof_loans count view (Err e) read a b g = stops_loans e (or_eof count read) a b (is_io e) refl g

module _ (s t : Source ℕ) (j k : GName) (f g : List ℕ → ℕ) where
  gives_or_eof_borrowed : {A Y : Type 0} (count : ℕ) (view : A → Y) (r : Result (Option A) Error) (read : List ℕ → Reading ℕ Y)
      → GivesOrEof count view r read (bytes_of_source (with_value f (through_loan j s))) (bytes_of_source (with_value g (through_loan k t))) → GivesOrEof count view r read (bytes_of_source s) (bytes_of_source t)
  gives_or_eof_borrowed count view r read h = gives_or_eof_below (bytes_of_source s) (bytes_of_source t) j k f g count view r read h

  -- and the reference is still the same
  gives_or_eof_borrow_name : {A Y : Type 0} (count : ℕ) (view : A → Y) (r : Result (Option A) Error) (read : List ℕ → Reading ℕ Y)
      → GivesOrEof count view r read (bytes_of_source (with_value f (through_loan j s))) (bytes_of_source (with_value g (through_loan k t))) → j ≡ k
  gives_or_eof_borrow_name count view r read h = let e : k ∷ t.loans ≡ j ∷ s.loans = gives_or_eof_loans count view r read _ _ h in cc

module _ {R A Y : Type 0} (update : ℕ → List ℕ → ℕ) (source : R → Source ℕ) (x : R) (j : GName) {f : List ℕ → ℕ} (b c : RunningReader (MutBor R) ℕ) (count : ℕ) (view : A → Y) (r : Result (Option A) Error) (read : List ℕ → Reading ℕ Y) where
  -- and the reference is still the same
  pub gives_or_eof_through : running_source (over_borrow source) update b ≡ with_value f (through_loan j (source x))
      → GivesOrEof count view r read (bytes_in (running_source (over_borrow source) update) b) (bytes_in (running_source (over_borrow source) update) c) → (j ≡ (running_inner c).ghost_name) × GivesOrEof count view r read (bytes_in source x) (bytes_in source (running_inner c).now)
  unfolding bytes_in
  gives_or_eof_through e h =
      let k = subst (λ z. GivesOrEof count view r read (bytes_of_source z) (bytes_of_source (running_source (over_borrow source) update c))) e h in
      (gives_or_eof_borrow_name (source x) (source (running_inner c).now) j (running_inner c).ghost_name f (update (running_value c)) count view r read k, gives_or_eof_borrowed (source x) (source (running_inner c).now) j (running_inner c).ghost_name f (update (running_value c)) count view r read k)
