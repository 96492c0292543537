-- What a call promises to callers that gives what reading gives, or is out of memory.
use Rattle.std.proofs.Common.{◌≡◌, inl, inr, Bool, true, false, ◌++◌, List, [], refl, sym, ap, subst, ◌∙◌}
use Rattle.std.specs.Prelude.{Result, Ok, Err}
use Rattle.claxon_format.specs.Fault.{Fault}
use Rattle.claxon_format.specs.read.Reading.{Reading, Reads, Done, Faulty, Incomplete}
use Rattle.claxon_input.specs.declared.error.Error.{Error}
use Rattle.claxon_input.specs.declared.error.Error.TheVariants.{IoError, FormatError, Unsupported, OutOfMemory}
use Rattle.claxon_input.specs.Error.{IsFault, is_io}
use Rattle.claxon_input.specs.Gives.{ReadFailedIn, GivesOrOutOfMemory, IsFaultOf, IsRest, Stops, ReadFailedOrRemaining, Consumes}
use Rattle.claxon_input.specs.Promises.{CodeIsComplete, Remains, ElseIoError, LeavesRest, FaultIsComplete, Promises, CodeIsSound, FaultIsSound, Consumed}
use Rattle.claxon_input.specs.State.{State, RemainingIsKnown, source_bytes}

-- ---- errors

not_fault : {X Y : Type 0} (e : Error) (x : Reading X Y) (m : List X) (y : Y) (rest : List X) → IsFaultOf e x m → x ≡ Done y rest → ⊥
not_fault e (Done z k) m y rest h q = h
not_fault e (Faulty f k) m y rest h q = cc
not_fault e Incomplete m y rest h q = h

pub fault_is : {X Y : Type 0} (e : Error) (x : Reading X Y) (m : List X) → IsFaultOf e x m → (f : Fault) × IsFault f e × (x ≡ Faulty f m)
fault_is e (Done z k) m h = absurd h
fault_is e (Faulty f k) m h = (f, h.0, ap (λ (l : List _). Faulty f l) h.1)
fault_is e Incomplete m h = absurd h

fault_at : {X Y : Type 0} (e : Error) (x : Reading X Y) (m : List X) (f : Fault) (rest : List X) → IsFaultOf e x m → x ≡ Faulty f rest → IsFault f e × (m ≡ rest)
fault_at e (Done z k) m f rest h q = absurd h
fault_at e (Faulty g k) m f rest h q = let s : g ≡ f = cc in let t : k ≡ rest = cc in (subst (λ (z : Fault). IsFault z e) s h.0, sym h.1 ∙ t)
fault_at e Incomplete m f rest h q = absurd h

-- ---- a suffix is left

whole_rest : {X : Type 0} (s : List X) → IsRest s s
unfolding IsRest
whole_rest s = ([], refl)

stops_rest : {X Y : Type 0} (e : Error) (read : List X → Reading X Y) (a b : State X) (io : Bool) → is_io e ≡ io → Stops e read a b → RemainingIsKnown a → RemainingIsKnown b × IsRest (source_bytes a) (source_bytes b)
stops_rest e read a b true i k t = let w = (k.failure i).known t in (w.known, w.rest (source_bytes a) (whole_rest (source_bytes a)))
stops_rest e read a b false i k t = let w = (k.fault i).known t in (w.known, w.rest (source_bytes a) (whole_rest (source_bytes a)))

pub leaves_rest : {X A Y : Type 0} (view : A → Y) (r : Result A Error) (read : List X → Reading X Y) (a b : State X) → GivesOrOutOfMemory view r read a b → LeavesRest r a b
leaves_rest view (Ok x) read a b g = tt
leaves_rest view (Err (IoError i)) read a b g = stops_rest (IoError i) read a b true refl g
leaves_rest view (Err (FormatError i)) read a b g = stops_rest (FormatError i) read a b false refl g
leaves_rest view (Err (Unsupported i)) read a b g = stops_rest (Unsupported i) read a b false refl g
leaves_rest view (Err OutOfMemory) read a b g = λ t. let w = g.consumed.known t in (w.known, w.rest (source_bytes a) (whole_rest (source_bytes a)))

-- ---- by the laws of a reader

-- an `IoError` where what remains is not incomplete says that the source failed
failed : {X : Type 0} {P : List X → Type 0} {a b : State X} → ReadFailedOrRemaining a b P → RemainingIsKnown a → (P a.remaining → ⊥) → ReadFailedIn a b
failed k t n = elim (k.known t).why [ inl p ↦ absurd (n p) | inr f ↦ f ]

module _ {X Y : Type 0} {read : List X → Reading X Y} {C : Y → List X → Type 0} {F : Fault → List X → Type 0} (law : Reads X Y read C F) where
  code_is_sound : {A : Type 0} (view : A → Y) (r : Result A Error) (a b : State X) → GivesOrOutOfMemory view r read a b → CodeIsSound view r C a b
  code_is_sound view (Ok x) a b g = λ t. let k = g.known t in (k.known, law.takes a.remaining (view x) b.remaining k.is)
  code_is_sound view (Err e) a b g = tt

  read_there : (a : State X) (y : Y) (t rest : List X) → C y t → Remains a (t ++ rest) → read a.remaining ≡ Done y rest
  read_there a y t rest c o = ap read o.are ∙ law.again y t rest c

  code_is_complete : {A : Type 0} (view : A → Y) (r : Result A Error) (a b : State X) → GivesOrOutOfMemory view r read a b → CodeIsComplete view r C a b
  code_is_complete view (Ok x) a b g y t rest c o =
      let w = g.known o.known in
      let k : Done (view x) b.remaining ≡ Done y rest = sym w.is ∙ read_there a y t rest c o in
      let v : view x ≡ y = cc in
      inl (v, record { known = w.known; are = cc })
  code_is_complete view (Err (IoError i)) a b g y t rest c o =
      inr (inr (refl, failed (g.failure refl) o.known (λ p. let k : Incomplete ≡ Done y rest = sym p ∙ read_there a y t rest c o in absurd cc)))
  code_is_complete view (Err (FormatError i)) a b g y t rest c o = absurd (not_fault (FormatError i) (read a.remaining) b.remaining y rest ((g.fault refl).known o.known).is (read_there a y t rest c o))
  code_is_complete view (Err (Unsupported i)) a b g y t rest c o = absurd (not_fault (Unsupported i) (read a.remaining) b.remaining y rest ((g.fault refl).known o.known).is (read_there a y t rest c o))
  code_is_complete view (Err OutOfMemory) a b g y t rest c o = inr (inl refl)

  fault_bad : (e : Error) (a b : State X) → Consumes a b (λ s m. IsFaultOf e (read s) m) → RemainingIsKnown a → (f : Fault) × IsFault f e × Consumed a b (F f)
  fault_bad e a b g t =
      let w = g.known t in
      let p = fault_is e (read a.remaining) b.remaining w.is in
      (p.0, p.1, λ _. (w.known, law.bad a.remaining p.0 b.remaining p.2))

  fault_is_sound : {A : Type 0} (view : A → Y) (r : Result A Error) (a b : State X) → GivesOrOutOfMemory view r read a b → FaultIsSound r F a b
  fault_is_sound view (Ok x) a b g = tt
  fault_is_sound view (Err OutOfMemory) a b g = inl refl
  fault_is_sound view (Err (IoError i)) a b g = inr (inl refl)
  fault_is_sound view (Err (FormatError i)) a b g = inr (inr (fault_bad (FormatError i) a b (g.fault refl)))
  fault_is_sound view (Err (Unsupported i)) a b g = inr (inr (fault_bad (Unsupported i) a b (g.fault refl)))

  fault_there : (a : State X) (f : Fault) (t rest : List X) → F f t → Remains a (t ++ rest) → read a.remaining ≡ Faulty f rest
  fault_there a f t rest c o = ap read o.are ∙ law.bad_again f t rest c

  named_there : (e : Error) (a b : State X) (f : Fault) (t rest : List X) → Consumes a b (λ s m. IsFaultOf e (read s) m) → F f t → Remains a (t ++ rest) → IsFault f e × Remains b rest
  named_there e a b f t rest g c o =
      let w = g.known o.known in
      let p = fault_at e (read a.remaining) b.remaining f rest w.is (fault_there a f t rest c o) in
      (p.0, record { known = w.known; are = p.1 })

  fault_is_complete : {A : Type 0} (view : A → Y) (r : Result A Error) (a b : State X) → GivesOrOutOfMemory view r read a b → FaultIsComplete r F a b
  fault_is_complete view (Ok x) a b g f t rest c o = let k : Done (view x) b.remaining ≡ Faulty f rest = sym (g.known o.known).is ∙ fault_there a f t rest c o in absurd cc
  fault_is_complete view (Err (IoError i)) a b g f t rest c o =
      inr (inr (refl, failed (g.failure refl) o.known (λ p. let k : Incomplete ≡ Faulty f rest = sym p ∙ fault_there a f t rest c o in absurd cc)))
  fault_is_complete view (Err (FormatError i)) a b g f t rest c o = inl (named_there (FormatError i) a b f t rest (g.fault refl) c o)
  fault_is_complete view (Err (Unsupported i)) a b g f t rest c o = inl (named_there (Unsupported i) a b f t rest (g.fault refl) c o)
  fault_is_complete view (Err OutOfMemory) a b g f t rest c o = inr (inl refl)

  else_io_error : {A : Type 0} (view : A → Y) (r : Result A Error) (a b : State X) → GivesOrOutOfMemory view r read a b → ElseIoError r C F a b
  else_io_error view (Ok x) a b g t n = let p = law.takes a.remaining (view x) b.remaining (g.known t).is in absurd (n.no_code (view x) p.0 b.remaining p.1 p.2)
  else_io_error view (Err (IoError i)) a b g t n = inr refl
  else_io_error view (Err (FormatError i)) a b g t n = let p = fault_bad (FormatError i) a b (g.fault refl) t in let q = (p.2 t).1 in absurd (n.no_fault p.0 q.0 b.remaining q.1 q.2)
  else_io_error view (Err (Unsupported i)) a b g t n = let p = fault_bad (Unsupported i) a b (g.fault refl) t in let q = (p.2 t).1 in absurd (n.no_fault p.0 q.0 b.remaining q.1 q.2)
  else_io_error view (Err OutOfMemory) a b g t n = inl refl

  pub promises : {A : Type 0} (view : A → Y) (r : Result A Error) (a b : State X) → GivesOrOutOfMemory view r read a b → Promises view r C F a b
  promises view r a b g = record {
    is_sound = code_is_sound view r a b g;
    is_complete = code_is_complete view r a b g;
    fault_is_sound = fault_is_sound view r a b g;
    fault_is_complete = fault_is_complete view r a b g;
    else_io_error = else_io_error view r a b g;
    leaves_rest = leaves_rest view r read a b g;
  }
