-- Reads of a source, one after another.
use Rattle.std.proofs.Common.{◌≡◌, ◌⊎◌, inl, inr, ℕ, ◌<◌, ◌≤◌, Bool, true, false, List, [], ◌++◌, length, take, Option, None, Some, refl, sym, ap, subst, ◌∙◌, append_assoc, append-nil, arith, length-append}
use Rattle.std.specs.Prelude.{IfErr, IfSome, Result, Ok, Err}
use Rattle.std.proofs.lemmas.List.{nil_from_length}
use Rattle.claxon_input.proofs.Sources.{same_front_as}
use Rattle.claxon.specs.Error.{IsIo}
use Rattle.claxon.specs.Errors.{Error}
use Rattle.claxon.specs.Source.{HasMore, IsFront, IsKnown, MeetsEof, ReadFailedOrEof, Source, Skips, SourceReadFailed, Takes, TakesFront}
use Rattle.claxon.specs.State.{remaining_as}
use Rattle.claxon_recovery.specs.Window.{Fails, MoreIs, ReadFails, Reads, ReadsOn, WasRead, bytes_left, pending, window_source}
use Rattle.claxon_recovery.specs.declared.window.Window.{Window}

-- ---- bytes that are taken

abbrev bytes_of : Option (List ℕ) → List ℕ
bytes_of o = remaining_as (λ all. all) o

taken : (p q : Option (List ℕ)) (xs : List ℕ) → TakesFront p q xs → IsKnown p → IsKnown q × (bytes_of p ≡ xs ++ bytes_of q)
taken None q xs h k = absurd k
taken (Some all) None xs h k = absurd h
taken (Some all) (Some left) xs h k = (tt, h)

pub takes_reads : {a b : Source ℕ} {xs : List ℕ} → Takes a b xs → Reads a b xs
takes_reads {a} {b} {xs} h = record {
  loans = h.moved.loans;
  errors = h.errors;
  known = λ known. let t = taken a.remaining b.remaining xs h.moved.front known in record { known = t.0; left = t.1; empty_reads = inl h.empty_reads };
}

-- the end: nothing remains
at_end : (p q : Option (List ℕ)) (xs : List ℕ) → TakesFront p q xs → IfSome p (λ all. (length all < 1) × (q ≡ Some [])) → IsKnown p → IsKnown q × ((bytes_of p ≡ []) × (bytes_of q ≡ []))
at_end None q xs l c k = absurd k
at_end (Some all) None xs l c k = absurd l
at_end (Some all) (Some left) xs l c k = (tt, (nil_from_length all (omega (arith, c.0)), ap bytes_of c.1))

pub eof_reads : {a b : Source ℕ} → MeetsEof a b 1 → Reads a b []
eof_reads {a} {b} h = record {
  loans = h.taken.loans;
  errors = h.errors;
  known = λ known. let t = at_end a.remaining b.remaining h.moved h.taken.front h.cause known in record { known = t.0; left = t.1.0 ∙ sym t.1.1; empty_reads = inr t.1.1 };
}

-- nothing is left, where that was known
pub eof_is_end : {a b : Source ℕ} → MeetsEof a b 1 → IsKnown a.remaining → bytes_left b ≡ []
eof_is_end {a} {b} h known = (at_end a.remaining b.remaining h.moved h.taken.front h.cause known).1.1

-- ---- one after another

none_of : (y z : List ℕ) → y ++ z ≡ [] → z ≡ []
none_of y z e = nil_from_length z (omega (arith, ap length e, length-append y z))

pub reads_none : (s : Source ℕ) → Reads s s []
reads_none s = record { loans = refl; errors = refl; known = λ known. record { known = known; left = refl; empty_reads = inl refl } }

pub reads_both : {a b c : Source ℕ} {x y : List ℕ} → Reads a b x → Reads b c y → Reads a c (x ++ y)
reads_both {a} {b} {c} {x} {y} h k = record {
  loans = k.loans ∙ h.loans;
  errors = k.errors ∙ h.errors;
  known = λ known.
      let u = h.known known in
      let v = k.known u.known in
      record {
        known = v.known;
        left = u.left ∙ ap (λ (l : List ℕ). x ++ l) v.left ∙ sym (append_assoc x y (bytes_left c));
        empty_reads = elim v.empty_reads [
          | inr none ↦ inr none
          | inl same ↦ elim u.empty_reads [ inl e ↦ inl (same ∙ e) | inr none ↦ inr (none_of y (bytes_left c) (sym v.left ∙ none)) ]
        ];
      };
}

no_more : (o : Option (List ℕ)) → IsKnown o → bytes_of o ≡ [] → HasMore o → ⊥
no_more None known none more = known
no_more (Some all) known none more = more none

pub fails_after : {a b c : Source ℕ} {x : List ℕ} → Reads a b x → Fails b c → Fails a c
fails_after {a} {b} {c} {x} h k = record {
  loans = k.loans ∙ h.loans;
  known = λ known.
      let u = h.known known in
      let v = k.known u.known in
      record {
        known = v.known;
        moved = x ++ v.moved;
        left = u.left ∙ ap (λ (l : List ℕ). x ++ l) v.left ∙ sym (append_assoc x v.moved (bytes_left c));
        failed = elim v.failed [
          | inl e ↦ inl (λ p. e (p ∙ sym h.errors))
          | inr e ↦ elim u.empty_reads [
            | inl same ↦ inr ((λ p. e.0 (p ∙ sym same)), e.1)
            | inr none ↦ absurd (no_more c.remaining v.known (none_of v.moved (bytes_left c) (sym v.left ∙ none)) e.1)
          ]
        ];
      };
}

-- ---- reads that failed

-- bytes that are there can be skipped, unless the source fails
enough : (a b : Source ℕ) (p : Option (List ℕ)) (n : ℕ) → (IsKnown p → n ≤ length (bytes_of p)) → IfSome p (λ all. (length all < n) ⊎ SourceReadFailed a b) → IsKnown p → SourceReadFailed a b
enough a b None n long c known = absurd known
enough a b (Some all) n long c known = elim c [ inl few ↦ absurd (let k = long known in omega (arith, k, few)) | inr f ↦ f ]

pub skip_fails : {a b : Source ℕ} {n : ℕ} → (IsKnown a.remaining → n ≤ length (bytes_left a)) → ReadFailedOrEof a b n → Fails a b
skip_fails {a} {b} {n} long h = record {
  loans = h.rest.loans;
  known = λ known.
      let t = taken a.remaining b.remaining h.rest.moved h.rest.front known in
      record { known = t.0; moved = h.rest.moved; left = t.1; failed = enough a b a.remaining n long h.cause known };
}

-- ---- bytes that were buffered

front_long : (o : Option (List ℕ)) (xs : List ℕ) (n : ℕ) → n ≤ length xs → IsFront xs o → IsKnown o → n ≤ length (bytes_of o)
front_long None xs n le front known = absurd known
front_long (Some all) xs n le front known = omega (arith, le, ap length front.1, length-append xs front.0)

pub buffered_fail : {a b : Source ℕ} (chunk : List ℕ) (n : ℕ) → n ≤ length chunk → IsFront chunk a.remaining → ReadFailedOrEof a b n → Fails a b
buffered_fail {a} {b} chunk n le front h = skip_fails (front_long a.remaining chunk n le front) h

pub buffered_reads : {a b : Source ℕ} (chunk : List ℕ) (n : ℕ) → n ≤ length chunk → IsFront chunk a.remaining → Skips a b n → Reads a b (take n chunk)
buffered_reads {a} {b} chunk n le front (xs, len, t) =
    let h = takes_reads t in
    record { loans = h.loans; errors = h.errors; known = λ known. subst (λ (m : List ℕ). WasRead a b m) (same_front_as a.remaining b.remaining chunk xs n refl front t.moved.front len le known) (h.known known) }

-- ---- windows

module _ {R : Type 0} (source : R → Source ℕ) where
  pub on_none : (w : Window R) → ReadsOn source w w
  on_none w = record { more = []; held = sym (append-nil (pending w)); reads = reads_none (source (window_source w)) }

  pub on_both : {a b c : Window R} → ReadsOn source a b → ReadsOn source b c → ReadsOn source a c
  on_both {a} h k = record { more = h.more ++ k.more; held = k.held ∙ ap (λ (l : List ℕ). l ++ k.more) h.held ∙ append_assoc (pending a) h.more k.more; reads = reads_both h.reads k.reads }

  pub more_is_read : (a b : Window R) (more : Bool) → MoreIs source a b more → ReadsOn source a b
  more_is_read a b true h = h.0
  more_is_read a b false h = h.0

  pub on_fail : {a b c : Window R} (e : Error) → ReadsOn source a b → ReadFails source b c e → ReadFails source a c e
  on_fail e h k = record { is_io = k.is_io; fails = fails_after h.reads k.fails }

  -- an Err of a read that failed
  pub on_failure : {A : Type 0} (a b : Window R) (r : Result A Error) → IfErr r IsIo → Fails (source (window_source a)) (source (window_source b)) → IfErr r (ReadFails source a b)
  on_failure a b (Ok x) io f = tt
  on_failure a b (Err e) io f = record { is_io = io; fails = f }

  pub on_later_failure : {A : Type 0} (a b c : Window R) (r : Result A Error) → ReadsOn source a b → IfErr r (ReadFails source b c) → IfErr r (ReadFails source a c)
  on_later_failure a b c (Ok x) h k = tt
  on_later_failure a b c (Err e) h k = on_fail e h k
