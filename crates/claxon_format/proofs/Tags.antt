-- Names and values of Vorbis comments.
use Rattle.std.proofs.Common.{◌≡◌, ℕ, ◌+◌, Bool, true, false, List, [], ◌∷◌, ◌++◌, length, map, take, drop, refl, sym, ap, ◌∙◌, append_assoc}
use Rattle.std.specs.Prelude.{nat_eq}
use Rattle.std.specs.Cmp.Lexicographic.{pointwise, same_text, other_text}
use Rattle.std.specs.List.{list_any}
use Rattle.std.proofs.lemmas.List.{take_at, drop_at, length-append}
use Rattle.claxon_format.specs.Comments.{Entry, is_separator, IsEntry}
use Rattle.claxon_format.specs.Tags.{tag_of_entry, lower, same}
use Rattle.claxon_format.specs.Laws.{NamesSame}

pub tags_split : (e : Entry) → IsEntry e → (e.text ≡ (tag_of_entry e).0 ++ (0x3d ∷ (tag_of_entry e).1)) × (list_any is_separator (tag_of_entry e).0 ≡ false)
tags_split e (name, value, joined, place, none, allowed, utf8) =
    let front : take e.place e.text ≡ name = rw (place, joined) (take_at name (0x3d ∷ value) (length name) refl) in
    let len : length (name ++ (0x3d ∷ [])) ≡ length name + 1 = length-append name (0x3d ∷ []) in
    let back : drop (e.place + 1) e.text ≡ value = rw (place, joined) (ap (drop (length name + 1)) (sym (append_assoc name (0x3d ∷ []) value)) ∙ drop_at (name ++ (0x3d ∷ [])) value (length name + 1) len) in
    (rw (front, back) joined, rw front none)

equal_text : (b : Bool) (xs ys : List ℕ) → b ≡ pointwise nat_eq xs ys → xs ≡ ys → b ≡ true
equal_text true xs ys e same = refl
equal_text false xs ys e same = absurd (other_text xs ys e same)

pub names_same : NamesSame
names_same = record {
  sound = λ a b e. same_text (map lower a) (map lower b) (sym e);
  complete = λ a b e. equal_text (same a b) (map lower a) (map lower b) refl e;
  std = λ a b. refl;
}
