-- Numbers of samples, stored one after another.
use Rattle.std.proofs.Common.{◌≡◌, ◌<◌, ◌+◌, ℕ, ℤ, List, [], ◌∷◌, ◌++◌, ap, ◌∙◌, sym, take, map, set, length, pos, get_or}
use Rattle.std.proofs.lemmas.List.{take_more, take_more_set, map-append}

pub number_stored : {U : Type 0} (number : ℤ → U) (samples : List ℤ) (i : ℕ) (numbers : List U) (y : U) → i < length samples → i < length numbers
    → take i numbers ≡ map number (take i samples) → y ≡ number (get_or samples i (pos 0)) → take (i + 1) (set numbers i y) ≡ map number (take (i + 1) samples)
number_stored {U} number samples i numbers y lt room so_far is =
    let x = get_or samples i (pos 0) in
    take_more_set numbers i y room ∙ ap (λ (t : List U). t ++ y ∷ []) so_far ∙ ap (λ (z : U). map number (take i samples) ++ z ∷ []) is
    ∙ sym (ap (map number) (take_more samples i (pos 0) lt) ∙ map-append number (take i samples) (x ∷ []))
