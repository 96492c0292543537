-- Entries of Vorbis comments: texts in UTF-8, and the index of the first '='.
use Rattle.std.proofs.Common.{◌≡◌, ℕ, None, Some, Bool, true, false, cond, List, get_or, take, refl, sym, ap, ◌∙◌, arith, String, string_bytes}
use Rattle.std.specs.Prelude.{not, IsUtf8}
use Rattle.std.specs.List.{list_all, position, position_or_len}
use Rattle.std.specs.Str.{is_utf8}
use Rattle.std.proofs.lemmas.Str.{is_utf8-from_IsUtf8, IsUtf8-from_is_utf8, IsUtf8-string_bytes}
use Rattle.std.proofs.lemmas.Bool.Decides.{Decides-eqb}
use Rattle.std.proofs.lemmas.List.Quantifiers.{position-Some}
use Rattle.claxon_format.specs.Comments.{has_name, has_separator, is_name_byte, is_separator, not_utf8}
use Rattle.claxon_metadata.specs.TagEntries.{IsSeparatorIndex}

-- ---- UTF-8

-- the bytes of a `String`
pub text_utf8 : {A : Type 0} (text : String A) (bytes : List ℕ) → string_bytes text ≡ bytes → not_utf8 bytes ≡ false
text_utf8 text bytes e = ap (λ (b : List ℕ). not_utf8 b) (sym e) ∙ ap (λ (b : Bool). not b) (is_utf8-from_IsUtf8 (string_bytes text) (IsUtf8-string_bytes text))

-- bytes that aren't UTF-8
pub text_not_utf8 : (bytes : List ℕ) → (IsUtf8 bytes → ⊥) → not_utf8 bytes ≡ true
text_not_utf8 bytes h = go (is_utf8 bytes) refl
  where
    go : (b : Bool) → is_utf8 bytes ≡ b → not b ≡ true
    go true e = absurd (h (IsUtf8-from_is_utf8 bytes e))
    go false e = refl

-- ---- the first '='

pub no_separator : (text : List ℕ) → position is_separator text ≡ None → has_separator text ≡ false
no_separator text e = go (has_separator text) e
  where
    go : (b : Bool) → cond b (Some (position_or_len is_separator text)) None ≡ None → b ≡ false
    go true e = absurd cc
    go false e = refl

pub separator_found : (text : List ℕ) (n : ℕ) → position is_separator text ≡ Some n → (has_separator text ≡ true) × (n ≡ position_or_len is_separator text)
separator_found text n e = go (has_separator text) e
  where
    go : (b : Bool) → cond b (Some (position_or_len is_separator text)) None ≡ Some n → (b ≡ true) × (n ≡ position_or_len is_separator text)
    go true e = (refl, cc)
    go false e = absurd cc

pub name_is : (text : List ℕ) (n : ℕ) (b : Bool) → n ≡ position_or_len is_separator text → b ≡ list_all is_name_byte (take n text) → has_name text ≡ b
name_is text n b e is = ap (λ (m : ℕ). list_all is_name_byte (take m text)) (sym e) ∙ sym is

-- it is an ASCII character
pub separator_is_index : (bytes : List ℕ) (place : ℕ) → place ≡ position_or_len is_separator bytes → has_separator bytes ≡ true → IsSeparatorIndex bytes place
separator_is_index bytes place at has =
    let e : position is_separator bytes ≡ Some place = rw (has, at) refl in
    let found = position-Some is_separator bytes place 0 e in
    let is : get_or bytes place 0 ≡ 61 = (Decides-eqb (get_or bytes place 0) 61).0 found.1 in
    record { inside = found.0; ascii = omega arith }
