-- Places that are kept, one after another.
use Rattle.std.proofs.Common.{◌≡◌, ◌<◌, ◌≤◌, ◌+◌, ◌%◌, ◌^◌, ℕ, Bool, true, false, List, [], ◌∷◌, ◌++◌, length, refl, sym, ap, arith, subst, ◌∙◌, append_assoc, length-append}
use Rattle.std.specs.Prelude.{Option, None, Some, IsTrue, ◌↔◌, if◌then◌else◌, not}
use Rattle.std.proofs.lemmas.List.{append-nil}
use Rattle.claxon_report.specs.Kept.{AreKept, Keeps, KeepsPlaces}
use Rattle.claxon_report.specs.Places.{list_of}
use Rattle.claxon_report.specs.declared.places.KeptPlaces.{KeptPlaces}
use Rattle.claxon_report.specs.declared.place.Place.{Place}

-- after no place
pub first_are : (all more others : List Place) (first : Option Place) (place : Place) → first ≡ None → all ≡ [] → all ≡ list_of first ++ (more ++ others) → all ++ place ∷ [] ≡ place ∷ (more ++ others)
first_are all more others first place none empty e =
    let same : all ≡ more ++ others = subst (λ (z : Option Place). all ≡ list_of z ++ (more ++ others)) none e in
    ap (λ (z : List Place). z ++ place ∷ []) empty ∙ ap (λ (z : List Place). place ∷ z) (sym empty ∙ same)

pub no_first : (place : Place) → Some place ≡ None → (all : List Place) → all ≡ []
no_first place e all = absurd cc

-- none is added to them
pub keeps_none : {A : Type 0} (old : KeptPlaces A) → KeepsPlaces [] old old
keeps_none old = record {
  keeps = λ all k. subst (λ (z : List Place). Keeps z old) (sym (append-nil all)) k;
  more = refl;
  few = λ few. few;
}

-- these and those are added
pub keeps_both : {A : Type 0} (some others : List Place) (a b c : KeptPlaces A) → KeepsPlaces some a b → KeepsPlaces others b c → KeepsPlaces (some ++ others) a c
keeps_both some others a b c x y = record {
  keeps = λ all k. subst (λ (z : List Place). Keeps z c) (append_assoc all some others) (y.keeps (all ++ some) (x.keeps all k));
  more = y.more ∙ x.more;
  few = λ few. let mid = x.few few in let most = x.more in let all = y.few (subst (λ (n : ℕ). length b.places.more.items ≤ n) (sym most) mid) in subst (λ (n : ℕ). length c.places.more.items ≤ n) most all;
}

module _ (all old others : List Place) (first : Option Place) (one place : Place) (some : first ≡ Some one) (e : all ≡ list_of first ++ (old ++ others)) where
  same : all ≡ one ∷ (old ++ others)
  same = subst (λ (z : Option Place). all ≡ list_of z ++ (old ++ others)) some e

  -- one more is kept
  pub pushed_are : (items : List Place) → others ≡ [] → items ≡ old ++ place ∷ [] → all ++ place ∷ [] ≡ one ∷ (items ++ [])
  pushed_are items none is =
      let whole : all ≡ one ∷ old = same ∙ ap (λ (z : List Place). one ∷ (old ++ z)) none ∙ ap (λ (z : List Place). one ∷ z) (append-nil old) in
      ap (λ (z : List Place). z ++ place ∷ []) whole ∙ ap (λ (z : List Place). one ∷ z) (sym is ∙ sym (append-nil items))

  -- one more is left out
  pub left_are : (items : List Place) → items ≡ old → all ++ place ∷ [] ≡ one ∷ (items ++ (others ++ place ∷ []))
  left_are items is =
      ap (λ (z : List Place). z ++ place ∷ []) same ∙ ap (λ (z : List Place). one ∷ z) (append_assoc old others (place ∷ []) ∙ ap (λ (z : List Place). z ++ (others ++ place ∷ [])) (sym is))

count_one : (others : List Place) (place : Place) (left : ℕ) → left ≡ length others % 2 ^ 64 → (left + 1) % 2 ^ 64 ≡ length (others ++ place ∷ []) % 2 ^ 64
count_one others place left is = let l : length (others ++ place ∷ []) ≡ length others + 1 = length-append others (place ∷ []) in omega (arith, l, is)

count_none : (others : List Place) (left : ℕ) → others ≡ [] → left ≡ length others % 2 ^ 64 → (left + 0) % 2 ^ 64 ≡ 0
count_none others left none is = let l : length others ≡ 0 = ap length none in omega (arith, l, is)

-- one more after the first is kept, or counted
module _ {A : Type 0} (old : KeptPlaces A) (one place : Place) (some : old.places.first ≡ Some one) (room : Bool) (is_room : IsTrue room ↔ ((old.is_full ≡ false) × (length old.places.more.items < old.more))) where
  abbrev Kept : Bool → List Place → ℕ → List Place → Type 0
  Kept pushed items left all = (k : AreKept (all ++ place ∷ []) (Some one) items left) × (not pushed ≡ false → k.others ≡ [])

  pub more_kept : (pushed : Bool) (items : List Place) (left : ℕ) → (pushed ≡ true → (items ≡ old.places.more.items ++ place ∷ []) × (room ≡ true)) → (pushed ≡ false → items ≡ old.places.more.items) → left ≡ (if pushed then 0 else 1)
      → (all : List Place) → Keeps all old → Kept pushed items ((old.places.left_out + left) % 2 ^ 64) all
  more_kept true items left added stays is all k =
      let a = k.are_kept in
      let none : a.others ≡ [] = k.none_left_out (is_room.0 (added refl).1).0 in (
        record {
          others = [];
          are = pushed_are all old.places.more.items a.others old.places.first one place some a.are items none (added refl).0;
          left_out_is = ap (λ (n : ℕ). (old.places.left_out + n) % 2 ^ 64) is ∙ count_none a.others old.places.left_out none a.left_out_is;
          some = λ e. no_first one e (all ++ place ∷ []);
        },
        λ e. refl,
      )
  more_kept false items left added stays is all k =
      let a = k.are_kept in (
        record {
          others = a.others ++ place ∷ [];
          are = left_are all old.places.more.items a.others old.places.first one place some a.are items (stays refl);
          left_out_is = ap (λ (n : ℕ). (old.places.left_out + n) % 2 ^ 64) is ∙ count_one a.others place old.places.left_out a.left_out_is;
          some = λ e. no_first one e (all ++ place ∷ []);
        },
        λ e. absurd cc,
      )

  pub more_few : (pushed : Bool) (items : List Place) → (pushed ≡ true → (items ≡ old.places.more.items ++ place ∷ []) × (room ≡ true)) → (pushed ≡ false → items ≡ old.places.more.items) → length old.places.more.items ≤ old.more → length items ≤ old.more
  more_few true items added stays few =
      let l : length items ≡ length old.places.more.items + 1 = ap length (added refl).0 ∙ length-append old.places.more.items (place ∷ []) in
      let less = (is_room.0 (added refl).1).1 in
      omega (arith, l, less)
  more_few false items added stays few = subst (λ (z : List Place). length z ≤ old.more) (sym (stays refl)) few
