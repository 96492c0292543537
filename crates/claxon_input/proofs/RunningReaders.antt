-- What was read through a CRC reader: its CRC is that of the bytes consumed, and a CRC of the stream is compared with it.
use Rattle.std.specs.Borrow.{GName, MutBor}
use Rattle.std.proofs.Common.{◌≡◌, ℕ, ◌<◌, ◌^◌, List, [], ◌∷◌, ◌++◌, Option, None, Some, refl, subst, sym, ap, ◌∙◌}
use Rattle.std.specs.Prelude.{Result, Ok, Err}
use Rattle.claxon_format.specs.Bits.{Bits, bits_of}
use Rattle.claxon_format.specs.Fault.{Fault}
use Rattle.claxon_format.specs.read.Bytes.{crc_at, with_crc_bytes_at}
use Rattle.claxon_format.specs.read.Reading.{Reading, Done, Incomplete, bind, done, taken}
use Rattle.claxon_format.proofs.CrcBytes.{with_crc_after}
use Rattle.claxon_format.proofs.Bytes.{bits_of-append}
use Rattle.claxon_format.proofs.Laws.{taken_is}
use Rattle.claxon_input.specs.Source.{Source, IsKnown, through_loan, with_value}
use Rattle.claxon_input.specs.State.{State, bytes_in, values_at_eof, remaining_as, RemainingIsKnown}
use Rattle.claxon_input.specs.Gives.{IsRest, Consumes, ReadFailedOrRemaining, IsFaultOf, Stops, Gives, GivesOrOutOfMemory}
use Rattle.claxon_input.specs.RunningReader.{running_source, running_value, running_inner}
use Rattle.claxon_input.specs.declared.running.RunningReader.{RunningReader}
use Rattle.claxon_input.specs.declared.error.Error.{Error}
use Rattle.claxon_input.specs.declared.error.Error.TheVariants.{IoError, FormatError, Unsupported, OutOfMemory}
use Rattle.claxon_input.proofs.States.{bytes_of_source, same_function}
use Rattle.claxon_input.proofs.ConsecutiveCalls.{consumes_known, gives_loans}
use Rattle.claxon_input.proofs.CrcUpdate.{DeterminesCrc}

-- the bytes that remain, where they are known
abbrev bytes_of_all : Option (List ℕ) → List ℕ
bytes_of_all = remaining_as (λ all. all)

-- ---- a reader that computes a CRC

unfoldable same_first_value : (p q : Option (List ℕ)) (f g : List ℕ → ℕ) (u v : List ℕ → List ℕ) → Type 0
same_first_value p q f g u v = values_at_eof q (λ xs. g xs ∷ v xs) ≡ values_at_eof p (λ xs. f xs ∷ u xs)

module _ {d : ℕ} {update_crc : ℕ → List ℕ → ℕ} {crc : Bits → ℕ} (law : DeterminesCrc d update_crc crc) where
  crc_is_of_taken : (p q : Option (List ℕ)) (x : ℕ) (u v : List ℕ → List ℕ) → x < 2 ^ d → IsKnown p → IsKnown q → IsRest (bytes_of_all p) (bytes_of_all q) → same_first_value p q (update_crc 0) (update_crc x) u v
      → x ≡ crc (bits_of (taken (bytes_of_all p) (bytes_of_all q)))
  unfolding IsRest same_first_value
  crc_is_of_taken None q x u v small t k r e = absurd t
  crc_is_of_taken (Some all) None x u v small t k r e = absurd k
  crc_is_of_taken (Some all) (Some rest) x u v small t k r e =
      law.determines all rest (bits_of r.0) x u v small (ap bits_of r.1 ∙ bits_of-append r.0 rest) e ∙ ap (λ (s : List ℕ). crc (bits_of s)) (sym (taken_is all r.0 rest r.1))

  -- the CRC is that of the bytes consumed
  pub source_crc_of_taken : (a b : Source ℕ) {P : List ℕ → List ℕ → Type 0} (x : ℕ) → x < 2 ^ d → Consumes (bytes_of_source (with_value (update_crc 0) a)) (bytes_of_source (with_value (update_crc x) b)) P → IsKnown a.remaining
      → x ≡ crc (bits_of (taken (bytes_of_all a.remaining) (bytes_of_all b.remaining)))
  unfolding IsRest same_first_value
  source_crc_of_taken a b x small h t = let k = h.known t in crc_is_of_taken a.remaining b.remaining x a.values b.values small t k.known (k.rest (bytes_of_all a.remaining) ([], refl)) k.values

  -- what `crc` returns is the CRC of what was consumed since the reader was made
  pub crc_of_taken : {R : Type 0} (source : R → Source ℕ) (b c : RunningReader R ℕ) {P : List ℕ → List ℕ → Type 0} → running_value b ≡ 0 → running_value c < 2 ^ d
      → Consumes (bytes_in (running_source source update_crc) b) (bytes_in (running_source source update_crc) c) P → RemainingIsKnown (bytes_in (running_source source update_crc) b)
      → running_value c ≡ crc (bits_of (taken (bytes_in (running_source source update_crc) b).remaining (bytes_in (running_source source update_crc) c).remaining))
  unfolding bytes_in
  crc_of_taken source b c {P = P} start small h t =
      source_crc_of_taken (source (running_inner b)) (source (running_inner c)) (running_value c) small
      (subst (λ (x : ℕ). Consumes (bytes_of_source (with_value (update_crc x) (source (running_inner b)))) (bytes_of_source (with_value (update_crc (running_value c)) (source (running_inner c)))) P) start h) t

-- ---- what was done through a `RunningReader` or a loan was done to what it reaches

-- a loan
pub same_loans_below : (m n : GName) (xs ys : List GName) → n ∷ ys ≡ m ∷ xs → ys ≡ xs
same_loans_below m n xs ys e = cc

pub name_below : (m n : GName) (xs ys : List GName) → n ∷ ys ≡ m ∷ xs → m ≡ n
name_below m n xs ys e = cc

-- a value, and those below it
pub same_values_below : (p q : Option (List ℕ)) (f g : List ℕ → ℕ) (u v : List ℕ → List ℕ) → IsKnown p → IsKnown q → values_at_eof q (λ xs. g xs ∷ v xs) ≡ values_at_eof p (λ xs. f xs ∷ u xs) → values_at_eof q v ≡ values_at_eof p u
same_values_below None q f g u v t k e = absurd t
same_values_below (Some all) None f g u v t k e = absurd k
same_values_below (Some all) (Some rest) f g u v t k e =
    same_function (λ more. let o : g (rest ++ more) ∷ v (rest ++ more) ≡ f (all ++ more) ∷ u (all ++ more) = ap (λ (h : List ℕ → List ℕ). h more) e in cc)

-- through one more loan, with one more value
abbrev pub under : {X : Type 0} → GName → (List ℕ → ℕ) → State X → State X
under name update_crc s = record s { source = with_value update_crc (through_loan name s.source) }

module _ {X : Type 0} (a b : State X) (m n : GName) (f g : List ℕ → ℕ) where
  pub consumes_below : (P : List X → List X → Type 0) → Consumes (under m f a) (under n g b) P → Consumes a b P
  consumes_below P h = record { errors = h.errors; empty_reads = h.empty_reads; loans = same_loans_below m n a.source.loans b.source.loans h.loans; known = λ t. let x = h.known t in record { known = x.known; is = x.is; rest = x.rest; values = same_values_below a.source.remaining b.source.remaining f g a.source.values b.source.values t x.known x.values } }

  pub failure_or_below : (P : List X → Type 0) → ReadFailedOrRemaining (under m f a) (under n g b) P → ReadFailedOrRemaining a b P
  failure_or_below P h = record { loans = same_loans_below m n a.source.loans b.source.loans h.loans; known = λ t. let x = h.known t in record { known = x.known; why = x.why; rest = x.rest } }

  pub stops_below : {Y : Type 0} (e : Error) (read : List X → Reading X Y) → Stops e read (under m f a) (under n g b) → Stops e read a b
  stops_below e read h = record { failure = λ i. failure_or_below (λ s. read s ≡ Incomplete) (h.failure i); fault = λ i. consumes_below (λ s m. IsFaultOf e (read s) m) (h.fault i); named = h.named }

  pub gives_below : {A Y : Type 0} (view : A → Y) (r : Result A Error) (read : List X → Reading X Y) → Gives view r read (under m f a) (under n g b) → Gives view r read a b
  gives_below view (Ok x) read h = consumes_below (λ s m. read s ≡ Done (view x) m) h
  gives_below view (Err e) read h = stops_below e read h

  pub gives_or_out_of_memory_below : {A Y : Type 0} (view : A → Y) (r : Result A Error) (read : List X → Reading X Y) → GivesOrOutOfMemory view r read (under m f a) (under n g b) → GivesOrOutOfMemory view r read a b
  gives_or_out_of_memory_below view (Ok x) read h = consumes_below (λ s m. read s ≡ Done (view x) m) h
  gives_or_out_of_memory_below view (Err OutOfMemory) read h = record { consumed = consumes_below (λ s m. Unit {0}) h.consumed }
  gives_or_out_of_memory_below view (Err (IoError e)) read h = stops_below (IoError e) read h
  gives_or_out_of_memory_below view (Err (FormatError e)) read h = stops_below (FormatError e) read h
  gives_or_out_of_memory_below view (Err (Unsupported e)) read h = stops_below (Unsupported e) read h

-- ---- a CRC after what it covers

-- what was read has the CRC c: a number that has to be c is still to be read
pub consumes_with_crc : {A : Type 0} (w c : ℕ) (crc : Bits → ℕ) (f : Fault) (r : List ℕ → Reading ℕ A) (y : A) (a m : State ℕ) → Consumes a m (λ s k. r s ≡ Done y k) → (RemainingIsKnown a → c ≡ crc (bits_of (taken a.remaining m.remaining)))
    → Consumes a m (λ s k. with_crc_bytes_at w crc f r s ≡ bind (crc_at w c f k) (λ u. done y))
consumes_with_crc w c crc f r y a m h k = consumes_known _ h (λ t p. with_crc_after w c crc f r y a.remaining m.remaining p (k t))

-- ---- a `RunningReader` over a reference

-- the source that a reference reaches
abbrev pub over_borrow : {R : Type 0} → (R → Source ℕ) → MutBor R → Source ℕ
over_borrow source r = through_loan r.ghost_name (source r.now)

module _ {R S A Y : Type 0} (source : R → Source ℕ) (update_crc : S → List ℕ → ℕ) (x : R) (j : GName) (f : List ℕ → ℕ) (b c : RunningReader (MutBor R) S) (view : A → Y) (r : Result A Error) (read : List ℕ → Reading ℕ Y)
    (made : running_source (over_borrow source) update_crc b ≡ with_value f (through_loan j (source x))) where
  -- what it gave is given by what the reference reaches
  pub gives_with_value : Gives view r read (bytes_in (running_source (over_borrow source) update_crc) b) (bytes_in (running_source (over_borrow source) update_crc) c) → Gives view r read (bytes_in source x) (bytes_in source (running_inner c).now)
  unfolding bytes_in
  gives_with_value h =
      let y = source (running_inner c).now in
      gives_below (bytes_of_source (source x)) (bytes_of_source y) j (running_inner c).ghost_name f (update_crc (running_value c)) view r read
      (subst (λ (z : Source ℕ). Gives view r read (bytes_of_source z) (bytes_of_source (with_value (update_crc (running_value c)) (through_loan (running_inner c).ghost_name y)))) made h)

  -- and the reference is still the same
  pub name_with_value : Gives view r read (bytes_in (running_source (over_borrow source) update_crc) b) (bytes_in (running_source (over_borrow source) update_crc) c) → j ≡ (running_inner c).ghost_name
  unfolding bytes_in
  name_with_value h =
      let y = source (running_inner c).now in
      name_below j (running_inner c).ghost_name (source x).loans y.loans
      (gives_loans view r read _ _ (subst (λ (z : Source ℕ). Gives view r read (bytes_of_source z) (bytes_of_source (with_value (update_crc (running_value c)) (through_loan (running_inner c).ghost_name y)))) made h))
