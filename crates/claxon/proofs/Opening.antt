-- A reader of which nothing was read, in a byte buffer.
use Rattle.std.proofs.Common.{◌≡◌, inl, inr, ℕ, List, [], Option, None, Some, refl, sym, ap, subst, ◌∙◌}
use Rattle.std.specs.Prelude.{Result, Ok, Err}
use Rattle.std.specs.Io.KnownBytes.{prepend_known}
use Rattle.claxon_format.specs.Heads.{Head, HeadCode, HeadFault, Options}
use Rattle.claxon_input.specs.declared.error.Error.{Error}
use Rattle.claxon_input.specs.declared.error.Error.TheVariants.{OutOfMemory}
use Rattle.claxon_input.specs.Promises.{CodeIsComplete, Consumed, Remains, ElseIoError, HasNeither, IsExcused, FaultIsComplete, FaultIsSound}
use Rattle.claxon_input.specs.Source.{Source}
use Rattle.claxon_input.specs.State.{State, bytes_in, state_of, RemainingIsKnown}
use Rattle.claxon.specs.FlacReader.{flac_head}
use Rattle.claxon.specs.Opening.{OpenAnswer, OpenFaultIsComplete, OpenIsComplete, OpenFaultIsSound, IsMemoryOrIoError, OpenElseIoError, flac_bytes, unread}

with_none : (known : Option (List ℕ)) → prepend_known [] known ≡ known
with_none None = refl
with_none (Some all) = refl

abbrev whole : Option (List ℕ) → Source ℕ
whole known = record { remaining = known; errors = 0; empty_reads = 0; loans = []; values = λ _. [] }

-- the source of a reader of which nothing was read so far
abbrev pub IsUnread : Source ℕ → Option (List ℕ) → Type 0
IsUnread source known = source ≡ record { remaining = prepend_known [] known; errors = 0; empty_reads = 0; loans = []; values = λ _. [] }

still_unread : {I : Type 0} (source : I → Source ℕ) (input : I) (known : Option (List ℕ)) → IsUnread (source input) known → bytes_in source input ≡ unread known
unfolding bytes_in
still_unread source input known e = ap (state_of (λ all. all)) (e ∙ ap whole (with_none known))

-- ---- the contract of `read_head` over the byte buffer, for the reader that was passed in

-- an Ok isn't excused
never : {X : Type 0} (a b : State ℕ) (x : X) → IsExcused (let q : Result X Error = Ok x in q) a b → ⊥
never a b x (inl m) = cc
never a b x (inr f) = f.0

module _ {R I : Type 0} (remaining : R → Option (List ℕ)) (reader : R) (source : I → Source ℕ) (input : I) (new : IsUnread (source input) (remaining reader)) where
  same : bytes_in source input ≡ unread (remaining reader)
  same = still_unread source input (remaining reader) new

  remains_in : {xs : List ℕ} → Remains (unread (remaining reader)) xs → Remains (bytes_in source input) xs
  remains_in {xs = xs} c = subst (λ (s : State ℕ). Remains s xs) (sym same) c

  known_in : RemainingIsKnown (unread (remaining reader)) → RemainingIsKnown (bytes_in source input)
  known_in t = subst (λ (s : State ℕ). RemainingIsKnown s) (sym same) t

  remaining_is : (bytes_in source input).remaining ≡ (unread (remaining reader)).remaining
  remaining_is = ap (λ (s : State ℕ). s.remaining) same

  pub no_errors : (bytes_in source input).source.errors ≡ 0
  no_errors = ap (λ (s : State ℕ). s.source.errors) same

  pub no_empty_reads : (bytes_in source input).source.empty_reads ≡ 0
  no_empty_reads = ap (λ (s : State ℕ). s.source.empty_reads) same

  pub is_sound : (after : I) (o : Options) (h : Head) → Consumed (bytes_in source input) (bytes_in source after) (HeadCode o h) → Consumed (unread (remaining reader)) (bytes_in source after) (HeadCode o h)
  is_sound after o h c = subst (λ (s : State ℕ). Consumed s (bytes_in source after) (HeadCode o h)) same c

module _ {R A X I : Type 0} (remaining : R → Option (List ℕ)) (o : Options) (reader : R) (view : X → Head) (source : I → Source ℕ) (input after : I) (new : IsUnread (source input) (remaining reader)) where
  -- the whole call returns what `read_head` did
  abbrev pub OpensAs : Result X Error → OpenAnswer R A → Type 0
  OpensAs (Ok x) (Ok flac) = (view x ≡ flac_head flac) × (bytes_in source after ≡ flac_bytes remaining flac)
  OpensAs (Err e) (Err y) = y ≡ e
  OpensAs _ _ = ⊥

  dropped : (e y : Error) → y ≡ e → IsExcused (let q : Result X Error = Err e in q) (bytes_in source input) (bytes_in source after) → IsMemoryOrIoError (let r : OpenAnswer R A = Err y in r)
  dropped e y s (inl m) = let n : e ≡ OutOfMemory = cc in inl (ap (λ (z : Error). Err z) (s ∙ n))
  dropped e y s (inr f) = inr (rw s f.0)

  pub is_opened : (q : Result X Error) (r : OpenAnswer R A) → OpensAs q r → CodeIsComplete view q (HeadCode o) (bytes_in source input) (bytes_in source after) → OpenIsComplete remaining o reader r
  is_opened (Ok x) (Ok flac) s k h t rest c remains = elim (k h t rest c (remains_in remaining reader source input new remains)) [ inl g ↦ inl (sym s.0 ∙ g.0, subst (λ (z : State ℕ). Remains z rest) s.1 g.1) | inr f ↦ absurd (never (bytes_in source input) (bytes_in source after) x f) ]
  is_opened (Err e) (Err y) s k h t rest c remains = elim (k h t rest c (remains_in remaining reader source input new remains)) [ inl g ↦ absurd g.0 | inr f ↦ inr (dropped e y s f) ]
  is_opened (Ok x) (Err y) s k h t rest c remains = absurd s
  is_opened (Err e) (Ok flac) s k h t rest c remains = absurd s

  pub is_fault : (q : Result X Error) (r : OpenAnswer R A) → OpensAs q r → FaultIsSound q (HeadFault o) (bytes_in source input) (bytes_in source after) → OpenFaultIsSound remaining o reader r
  is_fault (Ok x) (Ok flac) s k = tt
  is_fault (Err e) (Err y) s k = rw s (elim k [
    | inl m ↦ inl m
    | inr n ↦ inr (elim n [ inl i ↦ inl i | inr f ↦ inr (λ t. let g = f (known_in remaining reader source input new t) in let w = (g.2 (known_in remaining reader source input new t)).1 in (g.0, g.1, (w.0, (bytes_in source after).remaining, w.1, sym (remaining_is remaining reader source input new) ∙ w.2))) ])
  ])
  is_fault (Ok x) (Err y) s k = absurd s
  is_fault (Err e) (Ok flac) s k = tt

  pub is_named : (q : Result X Error) (r : OpenAnswer R A) → OpensAs q r → FaultIsComplete q (HeadFault o) (bytes_in source input) (bytes_in source after) → OpenFaultIsComplete remaining o reader r
  is_named (Ok x) (Ok flac) s k f t rest c remains = elim (k f t rest c (remains_in remaining reader source input new remains)) [ inl g ↦ absurd g.0 | inr z ↦ absurd (never (bytes_in source input) (bytes_in source after) x z) ]
  is_named (Err e) (Err y) s k f t rest c remains = elim (k f t rest c (remains_in remaining reader source input new remains)) [ inl g ↦ inl (rw s g.0) | inr z ↦ inr (dropped e y s z) ]
  is_named (Ok x) (Err y) s k f t rest c remains = absurd s
  is_named (Err e) (Ok flac) s k f t rest c remains = absurd s

  pub is_io_error : (q : Result X Error) (r : OpenAnswer R A) → OpensAs q r → ElseIoError q (HeadCode o) (HeadFault o) (bytes_in source input) (bytes_in source after) → OpenElseIoError remaining o reader r
  is_io_error (Ok x) (Ok flac) s k t n = elim (k (known_in remaining reader source input new t) (subst (λ (z : List ℕ). HasNeither (HeadCode o) (HeadFault o) z) (sym (remaining_is remaining reader source input new)) n)) [ inl m ↦ absurd cc | inr i ↦ absurd i ]
  is_io_error (Err e) (Err y) s k t n = elim (k (known_in remaining reader source input new t) (subst (λ (z : List ℕ). HasNeither (HeadCode o) (HeadFault o) z) (sym (remaining_is remaining reader source input new)) n)) [ inl m ↦ (let u : e ≡ OutOfMemory = cc in inl (ap (λ (z : Error). Err z) (s ∙ u))) | inr i ↦ inr (rw s i) ]
  is_io_error (Ok x) (Err y) s k t n = absurd s
  is_io_error (Err e) (Ok flac) s k t n = absurd s
