-- How stereo decorrelation is undone (RFC 9639, section 4.2).
use Rattle.std.specs.Prelude.{
  ℕ,
  if◌then◌else◌,
  ◌==◌,
  nat_lt,
  List,
  [],
  ◌∷◌,
  ℤ,
  pos,
  ◌+ℤ◌,
  ◌-ℤ◌,
  ◌*ℤ◌,
}
use Rattle.claxon_format.specs.Predict.{wrap, floor_shift}
use Rattle.claxon_format.specs.Stereo.{parity, zipped}

-- the left sample of two coded samples
abbrev pub left_of : ℕ → ℤ → ℤ → ℤ
left_of code a b =
    if code == 8 then a
    else if code == 9 then wrap (a +ℤ b)
    else floor_shift (wrap ((pos 2 *ℤ a +ℤ parity b) +ℤ b)) 1

-- the right sample of two coded samples
abbrev pub right_of : ℕ → ℤ → ℤ → ℤ
right_of code a b =
    if code == 8 then wrap (a -ℤ b)
    else if code == 9 then b
    else floor_shift (wrap ((pos 2 *ℤ a +ℤ parity b) -ℤ b)) 1

-- left and right from two coded channels
abbrev pub decoded_pair : ℕ → List (List ℤ) → List (List ℤ)
decoded_pair code (xs ∷ ys ∷ []) = zipped (left_of code) xs ys ∷ zipped (right_of code) xs ys ∷ []
decoded_pair code other = other

-- under codes below 8 the channels are coded as they are
abbrev pub decoded_channels : ℕ → List (List ℤ) → List (List ℤ)
decoded_channels code coded = if nat_lt code 8 then coded else decoded_pair code coded
