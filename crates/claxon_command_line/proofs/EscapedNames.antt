-- The escaped text of a name, part by part.
use Rattle.std.proofs.Common.{◌≡◌, ℕ, zero, suc, ◌+◌, ◌<◌, ◌≤◌, Bool, true, false, List, [], ◌++◌, length, take, drop, ap, sym, refl, ◌∙◌, append-nil, append_assoc, arith, length-append, length-drop, ⊎_elim, None, Some, Option, cond, eq-eqb, ne_eqb, slice_index, nat_lt}
use Rattle.std.specs.Prelude.{◌==◌, unwrap_or}
use Rattle.std.specs.Int.{is_in_range}
use Rattle.std.proofs.lemmas.Bool.{cases_lt}
use Rattle.std.proofs.lemmas.List.{nil_from_length, take_at, drop_at}
use Rattle.std.proofs.lemmas.Str.{chars-nil, utf8_valid_len_le}
use Rattle.std.specs.Str.Lossy.{after_first_chunk, error_len_after_one, error_len_after_two, error_len_of_some, second_byte_max, second_byte_min, utf8_error_len, utf8_invalid_len, utf8_valid_len}
use Rattle.claxon_command_line.specs.Names.{escaped_bytes, escaped_within, hex_escapes}
use Rattle.claxon_command_line.specs.Text.{escaped_text}

both : {A : Type 0} (P : A → Type 0) (b : Bool) (x y : A) → P x → P y → P (cond b x y)
both P true x y p q = p
both P false x y p q = q

-- bytes that aren't UTF-8 are one or more, where there is one
invalid_len_positive : (bs : List ℕ) → 0 < length bs → 0 < utf8_invalid_len bs
unfolding utf8_error_len
invalid_len_positive bs some =
    let P : Option ℕ → Type 0 = λ o. 0 < unwrap_or o (length bs) in
    let one : P (Some 1) = omega arith in
    let two : P (Some 2) = omega arith in
    let three : P (Some 3) = omega arith in
    let x = slice_index bs 0 in
    let third = is_in_range 0x80 0xBF (slice_index bs 2) in
    let after_three = both P (nat_lt (length bs) 4) None (Some 3) some three in
    let after_two : P (error_len_after_two bs) =
    both P (nat_lt (length bs) 3) None (cond third (cond (nat_lt (length bs) 4) None (Some 3)) (Some 2)) some
    (both P third (cond (nat_lt (length bs) 4) None (Some 3)) (Some 2) after_three two) in
    let second = is_in_range (second_byte_min x) (second_byte_max x) (slice_index bs 1) in
    let after_one : P (error_len_after_one bs) =
    both P (nat_lt (length bs) 2) None (cond second (error_len_after_two bs) (Some 1)) some
    (both P second (error_len_after_two bs) (Some 1) after_two one) in
    both P (length bs == 0) None (error_len_of_some bs) some (both P (is_in_range 0xC2 0xF4 x) (error_len_after_one bs) (Some 1) after_one one)

rest_shorter : (bs : List ℕ) → (utf8_valid_len bs ≡ length bs → ⊥) → length (after_first_chunk bs) < length bs
rest_shorter bs faulty =
    let n = utf8_valid_len bs in
    let within = utf8_valid_len_le bs in
    let invalid = invalid_len_positive (drop n bs) (omega (arith, length-drop n bs)) in
    omega (arith, length-drop (n + utf8_invalid_len (drop n bs)) bs)

-- the front of a name, and the bytes after it that aren't UTF-8
abbrev front_text : List ℕ → List ℕ
front_text bs = escaped_text (take (utf8_valid_len bs) bs)

abbrev invalid_text : List ℕ → List ℕ
invalid_text bs = hex_escapes (take (utf8_invalid_len (drop (utf8_valid_len bs) bs)) (drop (utf8_valid_len bs) bs))

within_text : (k : ℕ) (bs : List ℕ) → utf8_valid_len bs ≡ length bs → escaped_within k bs ≡ escaped_text bs
within_text zero bs whole = refl
within_text (suc k) bs whole = rw (eq-eqb _ _ whole)

within_fault : (k : ℕ) (bs : List ℕ) → (utf8_valid_len bs ≡ length bs → ⊥) → escaped_within (suc k) bs ≡ front_text bs ++ (invalid_text bs ++ escaped_within k (after_first_chunk bs))
within_fault k bs faulty = rw (ne_eqb _ _ faulty)

-- any bound from the length up gives the same text
within_any : (k j : ℕ) (bs : List ℕ) → length bs ≤ k → length bs ≤ j → escaped_within k bs ≡ escaped_within j bs
within_any zero j bs p q = let within = utf8_valid_len_le bs in sym (within_text j bs (omega arith))
within_any (suc k) zero bs p q = let within = utf8_valid_len_le bs in within_text (suc k) bs (omega arith)
within_any (suc k) (suc j) bs p q = let within = utf8_valid_len_le bs in ⊎_elim
    (λ (short : utf8_valid_len bs < length bs).
    let faulty : utf8_valid_len bs ≡ length bs → ⊥ = omega arith in
    let less = rest_shorter bs faulty in
    within_fault k bs faulty
    ∙ ap (λ t. front_text bs ++ (invalid_text bs ++ t)) (within_any k j _ (omega arith) (omega arith))
    ∙ sym (within_fault j bs faulty))
    (λ (whole : length bs ≤ utf8_valid_len bs). within_text (suc k) bs (omega arith) ∙ sym (within_text (suc j) bs (omega arith)))
    (cases_lt (utf8_valid_len bs) (length bs))

fault_step : (bs : List ℕ) → (utf8_valid_len bs ≡ length bs → ⊥) → escaped_bytes bs ≡ front_text bs ++ (invalid_text bs ++ escaped_bytes (after_first_chunk bs))
unfolding escaped_bytes
fault_step bs faulty =
    let less = rest_shorter bs faulty in
    within_any (length bs) (suc (length bs)) bs (omega arith) (omega arith)
    ∙ within_fault (length bs) bs faulty
    ∙ ap (λ t. front_text bs ++ (invalid_text bs ++ t)) (within_any (length bs) (length (after_first_chunk bs)) (after_first_chunk bs) (omega arith) (omega arith))

pub escaped_none : (bs : List ℕ) → length bs ≡ 0 → escaped_bytes bs ≡ []
unfolding escaped_bytes
escaped_none bs none = rw (nil_from_length bs none, chars-nil) refl

-- a part with bytes that aren't UTF-8
part_with_fault : (bs valid invalid rest : List ℕ) → bs ≡ valid ++ (invalid ++ rest) → length valid ≡ utf8_valid_len bs → length invalid ≡ utf8_invalid_len (drop (utf8_valid_len bs) bs) → 0 < length invalid → escaped_bytes bs ≡ escaped_text valid ++ (hex_escapes invalid ++ escaped_bytes rest)
part_with_fault bs valid invalid rest parts valid_len invalid_len some =
    let n = utf8_valid_len bs in
    let m = utf8_invalid_len (drop n bs) in
    let total = ap length parts ∙ length-append valid (invalid ++ rest) in
    let faulty : n ≡ length bs → ⊥ = omega (arith, length-append invalid rest) in
    let front : take n bs ≡ valid = ap (take n) parts ∙ take_at valid _ n valid_len in
    let after : drop n bs ≡ invalid ++ rest = ap (drop n) parts ∙ drop_at valid _ n valid_len in
    let middle : take m (drop n bs) ≡ invalid = ap (take m) after ∙ take_at invalid rest m invalid_len in
    let both_len : length (valid ++ invalid) ≡ n + m = omega (arith, length-append valid invalid) in
    let back : after_first_chunk bs ≡ rest = ap (drop (n + m)) (parts ∙ sym (append_assoc valid invalid rest)) ∙ drop_at _ rest _ both_len in
    fault_step bs faulty ∙ (λ i. escaped_text (front i) ++ (hex_escapes (middle i) ++ escaped_bytes (back i)))

-- the last part, where it is UTF-8
last_part : (bs valid invalid rest : List ℕ) → bs ≡ valid ++ (invalid ++ rest) → length valid ≡ utf8_valid_len bs → length invalid ≡ 0 → length rest ≡ 0 → escaped_bytes bs ≡ escaped_text valid ++ (hex_escapes invalid ++ escaped_bytes rest)
unfolding escaped_bytes
last_part bs valid invalid rest parts valid_len no_invalid no_rest =
    let total = ap length parts ∙ length-append valid (invalid ++ rest) in
    let whole : utf8_valid_len bs ≡ length bs = omega (arith, length-append invalid rest) in
    let is : bs ≡ valid = parts ∙ (λ i. valid ++ (nil_from_length invalid no_invalid i ++ nil_from_length rest no_rest i)) ∙ append-nil valid in
    within_text (length bs) bs whole ∙ ap escaped_text is ∙ sym (rw (nil_from_length invalid no_invalid, escaped_none rest no_rest) (append-nil (escaped_text valid)))

-- each part
pub escaped_part : (bs valid invalid rest : List ℕ) → bs ≡ valid ++ (invalid ++ rest) → length valid ≡ utf8_valid_len bs → length invalid ≡ utf8_invalid_len (drop (utf8_valid_len bs) bs) → (length invalid ≡ 0 → length rest ≡ 0) → escaped_bytes bs ≡ escaped_text valid ++ (hex_escapes invalid ++ escaped_bytes rest)
escaped_part bs valid invalid rest parts valid_len invalid_len last = ⊎_elim
    (λ (some : 0 < length invalid). part_with_fault bs valid invalid rest parts valid_len invalid_len some)
    (λ (none : length invalid ≤ 0). last_part bs valid invalid rest parts valid_len (omega arith) (last (omega arith)))
    (cases_lt 0 (length invalid))
