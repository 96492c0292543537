-- How samples are restored from a residual (RFC 9639, sections 4.3, 9.2.5 and 9.2.6).
use Rattle.std.specs.Prelude.{
  ℕ,
  zero,
  suc,
  List,
  [],
  ◌∷◌,
  ◌++◌,
  take,
  drop,
  reverse,
  ℤ,
  pos,
  ◌+ℤ◌,
  ◌-ℤ◌,
  ◌*ℤ◌,
}
use Rattle.claxon_format.specs.Predict.{wrap}

-- the samples that a residual restores
abbrev pub restore : (List ℤ → ℤ) → List ℤ → List ℤ → List ℤ
restore predict past [] = []
restore predict past (e ∷ es) =
    let x = wrap (predict past +ℤ e) in x ∷ restore predict (x ∷ past) es

-- the warm-up samples as they are, and then the samples that the residual after them restores
abbrev pub restored : (List ℤ → ℤ) → ℕ → List ℤ → List ℤ
restored predict order xs =
    take order xs ++ restore predict (reverse (take order xs)) (drop order xs)

-- the prediction of the fixed predictor of each order
abbrev pub fixed : ℕ → List ℤ → ℤ
fixed zero past = pos 0
fixed (suc zero) (a ∷ past) = a
fixed (suc (suc zero)) (a ∷ b ∷ past) = pos 2 *ℤ a -ℤ b
fixed (suc (suc (suc zero))) (a ∷ b ∷ c ∷ past) = pos 3 *ℤ a -ℤ pos 3 *ℤ b +ℤ c
fixed (suc (suc (suc (suc zero)))) (a ∷ b ∷ c ∷ d ∷ past) =
    pos 4 *ℤ a -ℤ pos 6 *ℤ b +ℤ pos 4 *ℤ c -ℤ d
fixed _ past = pos 0
