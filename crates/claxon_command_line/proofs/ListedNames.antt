-- The bytes of a name, one after another.
use Rattle.std.proofs.Common.{◌≡◌, inr, Bool, subst, length, ℕ, ◌+◌, List, [], ◌∷◌, ◌++◌, Option, None, Some, refl, sym, ap, ◌∙◌, append-nil, append_assoc, arith, ne_eqb}
use Rattle.std.specs.Prelude.{◌==◌, not, replicate}
use Rattle.std.proofs.lemmas.List.{replicate_more}
use Rattle.std.proofs.lemmas.List.Elements.{All-nil, All-push}
use Rattle.claxon_input.specs.Source.{IsKnown, MeetsEof, Source, Takes, TakesFront}
use Rattle.claxon_command_line.specs.Names.{BeginsName, EndsWithInput, EndsWithZero, ListedNameIsRead}

front_both : {A : Type 0} (a b c : Option (List A)) (xs ys : List A) → TakesFront a b xs → TakesFront b c ys → TakesFront a c (xs ++ ys)
front_both None b c xs ys h k = tt
front_both (Some all) None c xs ys h k = absurd h
front_both (Some all) (Some mid) None xs ys h k = absurd k
front_both (Some all) (Some mid) (Some left) xs ys h k = h ∙ ap (λ l. xs ++ l) k ∙ sym (append_assoc xs ys left)

front_none : {A : Type 0} (o : Option (List A)) → TakesFront o o []
front_none None = tt
front_none (Some xs) = refl

known_after : {A : Type 0} (a b : Option (List A)) (xs : List A) → TakesFront a b xs → IsKnown a → IsKnown b
known_after None b xs h k = absurd k
known_after (Some all) None xs h k = absurd h
known_after (Some all) (Some left) xs h k = tt

takes_both : {a b c : Source ℕ} {xs ys : List ℕ} → Takes a b xs → Takes b c ys → Takes a c (xs ++ ys)
takes_both {a} {b} {c} {xs} {ys} h k = record {
  moved = record {
    front = front_both a.remaining b.remaining c.remaining xs ys h.moved.front k.moved.front;
    loans = k.moved.loans ∙ h.moved.loans;
    values = λ known zs. k.moved.values (known_after a.remaining b.remaining xs h.moved.front known) zs ∙ h.moved.values known (ys ++ zs) ∙ ap a.values (sym (append_assoc xs ys zs));
  };
  errors = k.errors ∙ h.errors;
  empty_reads = k.empty_reads ∙ h.empty_reads;
}

-- What was read: empty names, and the bytes of one after them.
pub record NameSoFar {A : Type 0} (source : A → Source ℕ) (old new : A) (name : List ℕ) : Type 0 where
  pub bytes : List ℕ
  pub begins : BeginsName bytes name
  pub taken : Takes (source old) (source new) bytes

module _ {A : Type 0} (source : A → Source ℕ) (a : A) where
  pub none_so_far : NameSoFar source a a []
  none_so_far = record {
    bytes = [];
    begins = record { empty_names = 0; bytes_are = refl; has_no_zero = All-nil (λ b. b ≡ 0 → ⊥) };
    taken = record { moved = record { front = front_none (source a).remaining; loans = refl; values = λ _ _. refl }; errors = refl; empty_reads = refl };
  }

  -- one empty name more
  pub empty_more : (b c : A) → NameSoFar source a b [] → Takes (source b) (source c) (0 ∷ []) → NameSoFar source a c []
  empty_more b c h t = record {
    bytes = h.bytes ++ 0 ∷ [];
    begins = record {
      empty_names = h.begins.empty_names + 1;
      bytes_are = ap (λ (l : List ℕ). l ++ 0 ∷ []) (h.begins.bytes_are ∙ append-nil (replicate h.begins.empty_names 0)) ∙ replicate_more h.begins.empty_names 0 ∙ sym (append-nil (replicate (h.begins.empty_names + 1) 0));
      has_no_zero = All-nil (λ b. b ≡ 0 → ⊥);
    };
    taken = takes_both h.taken t;
  }

  -- one byte more
  pub byte_more : (b c : A) (name : List ℕ) (x : ℕ) → NameSoFar source a b name → (x ≡ 0 → ⊥) → Takes (source b) (source c) (x ∷ []) → NameSoFar source a c (name ++ x ∷ [])
  byte_more b c name x h other t = record {
    bytes = h.bytes ++ x ∷ [];
    begins = record {
      empty_names = h.begins.empty_names;
      bytes_are = ap (λ (l : List ℕ). l ++ x ∷ []) h.begins.bytes_are ∙ append_assoc (replicate h.begins.empty_names 0) name (x ∷ []);
      has_no_zero = All-push (λ b. b ≡ 0 → ⊥) name x h.begins.has_no_zero other;
    };
    taken = takes_both h.taken t;
  }

  pub zero_ends : (b c : A) (name : List ℕ) → NameSoFar source a b name → Takes (source b) (source c) (0 ∷ []) → EndsWithZero source a c name
  zero_ends b c name h t = record { bytes = h.bytes; begins = h.begins; taken = takes_both h.taken t }

  pub input_ends : (b c : A) (name : List ℕ) → NameSoFar source a b name → MeetsEof (source b) (source c) 1 → EndsWithInput source a c name
  input_ends b c name h e = record { middle = source b; bytes = h.bytes; begins = h.begins; taken = h.taken; meets_eof = e }

  -- the end of the input, after a name or not
  pub at_end : (b c : A) (name : List ℕ) (is_empty : Bool) → is_empty ≡ (length name == 0) → NameSoFar source a b name → MeetsEof (source b) (source c) 1 → ListedNameIsRead source a (not is_empty) c name
  at_end b c [] is_empty is h e = subst (λ (z : Bool). ListedNameIsRead source a (not z) c []) (sym is) (refl, input_ends b c [] h e)
  at_end b c (x ∷ xs) is_empty is h e = subst (λ (z : Bool). ListedNameIsRead source a (not z) c (x ∷ xs)) (sym (is ∙ ne_eqb (length (x ∷ xs)) 0 (omega arith))) ((λ p. absurd cc), inr (input_ends b c (x ∷ xs) h e))
