-- The loop that reads the entries of a Vorbis comment block.
use Rattle.std.proofs.Common.{◌≡◌, ℕ, zero, suc, ◌+◌, ◌-◌, ◌<◌, ◌≤◌, true, false, ltb, List, [], ◌∷◌, ◌++◌, Some, None, Option, refl, sym, ap, ◌∙◌, append_assoc, arith, inl, inr, String}
use Rattle.std.specs.Prelude.{Err, Result}
use Rattle.std.proofs.lemmas.Bool.{lt-ltb, le-ltb}
use Rattle.std.proofs.lemmas.List.{append-nil, map-append}
use Rattle.claxon_format.specs.Comments.{Entry}
use Rattle.claxon_format.specs.Fault.{NameByte, SeparatorMissing, fault_text}
use Rattle.claxon_format.specs.read.Bytes.{bytes_at}
use Rattle.claxon_format.specs.read.Comments.{entry_at, entry_length_at, entry_or_empty_at, entries_end_at, entries_at}
use Rattle.claxon_format.specs.read.Reading.{Reading, Done, Faulty, Incomplete, bind}
use Rattle.claxon_input.specs.State.{State}
use Rattle.claxon_input.specs.Error.{IsFault, is_io, is_named}
use Rattle.claxon_input.specs.Gives.{Consumes, GivesOrOutOfMemory, Stops}
use Rattle.claxon_input.specs.declared.error.Error.{Error}
use Rattle.claxon_input.specs.declared.error.Error.TheVariants.{IoError, FormatError, Unsupported, OutOfMemory}
use Rattle.claxon_input.proofs.Faults.{stops_fault}
use Rattle.claxon_input.proofs.FieldLoops.{with_front}
use Rattle.claxon_input.proofs.ConsecutiveCalls.{consumes_then, consumes_map, gives_never_out_of_memory, StopsAs}
use Rattle.claxon_metadata.specs.VorbisComment.{HasSeparatorFault, entry_or_empty_view}
use Rattle.claxon_metadata.specs.TagEntries.{entry_view, entries_view}

-- some of `count` entries were read; `missing` more are to follow in `left` bytes
pub record EntriesSoFar (count length missing left : ℕ) (kept : List Entry) (old new : State ℕ) : Type 0 where
  pub so_far : Consumes old new (λ s m. entries_at count length s ≡ with_front kept (entries_at missing left m))

regroup : (kept es : List Entry) (x : Reading ℕ (List Entry)) → with_front kept (bind x (λ others m. Done (es ++ others) m)) ≡ with_front (kept ++ es) x
regroup kept es (Done others m) = ap (λ (z : List Entry). Done z m) (sym (append_assoc kept es others))
regroup kept es (Faulty f m) = refl
regroup kept es Incomplete = refl

-- one more entry
entry_next : (missing left n : ℕ) (es : List Entry) (s m k : List ℕ) → 0 < missing → 4 ≤ left → entry_length_at (left - 4) s ≡ Done n m → entry_or_empty_at n m ≡ Done es k
    → entries_at missing left s ≡ bind (entries_at (missing - 1) (left - (4 + n)) k) (λ others j. Done (es ++ others) j)
unfolding entries_at
entry_next zero left n es s m k some fits p q = absurd (omega arith)
entry_next (suc missing) left n es s m k some fits p q =
    let b : ltb left 4 ≡ false = le-ltb _ _ fits in
    let l : left - (4 + n) ≡ left - 4 - n = omega arith in
    let o : suc missing - 1 ≡ missing = omega arith in
    rw (b, p, q, l, o) refl

pub entries_next : {count length missing left n : ℕ} {kept es all : List Entry} {a b c d : State ℕ} → 0 < missing → 4 ≤ left → kept ++ es ≡ all → EntriesSoFar count length missing left kept a b
    → Consumes b c (λ s m. entry_length_at (left - 4) s ≡ Done n m) → Consumes c d (λ s m. entry_or_empty_at n s ≡ Done es m) → EntriesSoFar count length (missing - 1) (left - (4 + n)) all a d
entries_next {missing = missing} {left = left} {n = n} {kept = kept} {es = es} {b = b} {c = c} {d = d} some fits e h p q = record {
  so_far =
      consumes_then _ h.so_far (consumes_then (λ s m. entries_at missing left s ≡ bind (entries_at (missing - 1) (left - (4 + n)) m) (λ others j. Done (es ++ others) j)) p q (λ x y. entry_next missing left n es _ _ _ some fits x y))
      (λ x y. x ∙ ap (with_front kept) y ∙ regroup kept es _ ∙ ap (λ (z : List Entry). with_front z (entries_at (missing - 1) (left - (4 + n)) d.remaining)) e);
}

-- an entry that isn't empty is added to the entries, and an empty one is not
pub entries_view_more : {A : Type 0} (comments all : List (String A × ℕ)) (entry : String A × ℕ) (found : Option (String A × ℕ)) → found ≡ Some entry → all ≡ comments ++ entry ∷ [] → entries_view comments ++ entry_or_empty_view found ≡ entries_view all
entries_view_more comments all entry found f e = rw (f, e) (sym (map-append entry_view comments (entry ∷ [])))

pub entries_view_same : {A : Type 0} (comments all : List (String A × ℕ)) (found : Option (String A × ℕ)) → found ≡ None → all ≡ comments → entries_view comments ++ entry_or_empty_view found ≡ entries_view all
entries_view_same comments all found f e = rw (f, e) (append-nil (entries_view comments))

-- ---- errors

-- if the length of the next entry is invalid or incomplete, so are the entries
length_stops : (missing left : ℕ) (kept : List Entry) (s : List ℕ) → 0 < missing → 4 ≤ left → StopsAs (entry_length_at (left - 4) s) (with_front kept (entries_at missing left s))
unfolding entries_at
length_stops zero left kept s some fits = absurd (omega arith)
length_stops (suc missing) left kept s some fits =
    let b : ltb left 4 ≡ false = le-ltb _ _ fits in
    record { fault = λ f rest e. rw (b, e) refl; incomplete = λ e. rw (b, e) refl }

entry_stops : (missing left n : ℕ) (kept : List Entry) (s m : List ℕ) → 0 < missing → 4 ≤ left → entry_length_at (left - 4) s ≡ Done n m → StopsAs (entry_or_empty_at n m) (with_front kept (entries_at missing left s))
unfolding entries_at
entry_stops zero left n kept s m some fits p = absurd (omega arith)
entry_stops (suc missing) left n kept s m some fits p =
    let b : ltb left 4 ≡ false = le-ltb _ _ fits in
    record { fault = λ f rest e. rw (b, p, e) refl; incomplete = λ e. rw (b, p, e) refl }

pub length_err : {count length missing left : ℕ} {kept : List Entry} {a b : State ℕ} → 0 < missing → 4 ≤ left → EntriesSoFar count length missing left kept a b
    → Consumes a b (λ s m. StopsAs (entry_length_at (left - 4) m) (entries_at count length s))
length_err {missing = missing} {left = left} {kept = kept} {b = b} some fits h = consumes_map _ h.so_far (λ p. rw p (length_stops missing left kept b.remaining some fits))

pub entry_err : {count length missing left n : ℕ} {kept : List Entry} {a b c : State ℕ} → 0 < missing → 4 ≤ left → EntriesSoFar count length missing left kept a b
    → Consumes b c (λ s m. entry_length_at (left - 4) s ≡ Done n m) → Consumes a c (λ s m. StopsAs (entry_or_empty_at n m) (entries_at count length s))
entry_err {missing = missing} {left = left} {n = n} {kept = kept} {b = b} {c = c} some fits h p = consumes_then _ h.so_far p (λ x y. rw x (entry_stops missing left n kept b.remaining c.remaining some fits y))

-- ---- after the last entry

no_more_entries : (missing left : ℕ) (s : List ℕ) → (0 < missing → left < 4) → entries_at missing left s ≡ entries_end_at missing left s
unfolding entries_at
no_more_entries zero left s h = refl
no_more_entries (suc missing) left s h =
    let b : ltb left 4 ≡ true = lt-ltb _ _ (h (omega arith)) in
    rw b refl

pub end_err : {count length missing left : ℕ} {kept : List Entry} {a b : State ℕ} → (0 < missing → left < 4) → EntriesSoFar count length missing left kept a b
    → Consumes a b (λ s m. StopsAs (entries_end_at missing left m) (entries_at count length s))
end_err {missing = missing} {left = left} {kept = kept} {b = b} last h = consumes_map _ h.so_far (λ p. rw (p, no_more_entries missing left b.remaining last) (record { fault = λ f rest e. rw e refl; incomplete = λ e. rw e refl }))

pub entries_end : {count length missing left : ℕ} {kept : List Entry} {a b : State ℕ} → (0 < missing → left < 4) → EntriesSoFar count length missing left kept a b
    → Consumes b b (λ s m. entries_end_at missing left s ≡ Done [] m) → Consumes a b (λ s m. entries_at count length s ≡ Done kept m)
entries_end {missing = missing} {left = left} {kept = kept} {b = b} last h k =
    consumes_then _ h.so_far k (λ p q. p ∙ rw (no_more_entries missing left b.remaining last, q) (ap (λ (z : List Entry). Done z b.remaining) (append-nil kept)))

-- ---- the first `=` of an entry

named_separator : (e : Error) → IsFault SeparatorMissing e → (is_io e ≡ false) × (is_named e ≡ true)
unfolding fault_text
named_separator (IoError cause) h = absurd h
named_separator (FormatError text) h = (refl, rw h.0 refl)
named_separator (Unsupported text) h = absurd (cc h.1)
named_separator OutOfMemory h = absurd h

named_byte : (e : Error) → IsFault NameByte e → (is_io e ≡ false) × (is_named e ≡ true)
unfolding fault_text
named_byte (IoError cause) h = absurd h
named_byte (FormatError text) h = (refl, rw h.0 refl)
named_byte (Unsupported text) h = absurd (cc h.1)
named_byte OutOfMemory h = absurd h

-- without one, or with an invalid byte before it, the text is no entry
separator_stops : (n : ℕ) {bytes : List ℕ} {e : Error} {a b : State ℕ} → Consumes a b (λ s m. bytes_at n s ≡ Done bytes m) → HasSeparatorFault bytes e → Stops e (entry_at n) a b
unfolding entry_at
separator_stops n h (inl (none, fault)) =
    let named = named_separator _ fault in stops_fault SeparatorMissing named.0 named.1 fault (consumes_map _ h (λ p. rw (p, none) refl))
separator_stops n h (inr (some, byte, fault)) =
    let named = named_byte _ fault in stops_fault NameByte named.0 named.1 fault (consumes_map _ h (λ p. rw (p, some, byte) refl))

pub separator_err : {A : Type 0} (view : A → Entry) (n : ℕ) {bytes : List ℕ} {r : Result A Error} {e : Error} {a b : State ℕ} → (y : Error) × (r ≡ Err y) × (y ≡ e) → Consumes a b (λ s m. bytes_at n s ≡ Done bytes m)
    → HasSeparatorFault bytes e → GivesOrOutOfMemory view r (entry_at n) a b
separator_err view n {e = e} {a = a} {b = b} p h k = rw (p.1, p.2) (gives_never_out_of_memory view (Err e) (entry_at n) a b (separator_stops n h k))
