-- Readers of a subframe and of its parts (RFC 9639, sections 9.2.1 to 9.2.6).
use Rattle.std.specs.Prelude.{
  ℕ,
  suc,
  ◌+◌,
  ◌-◌,
  Bool,
  if◌then◌else◌,
  ◌==◌,
  not,
  nat_lt,
  List,
  ◌++◌,
  ℤ,
  replicate,
  reverse,
  map,
}
use Rattle.claxon_format.specs.Bits.{Bits}
use Rattle.claxon_format.specs.Fault.{
  SubframePadding,
  SubframeTypeReserved,
  WastedBitsLarge,
  NoBitsLeft,
  FixedOrder,
  LinearOrder,
  PrecisionInvalid,
  ShiftNegative,
}
use Rattle.claxon_format.specs.read.Predict.{restore, fixed}
use Rattle.claxon_format.specs.Predict.{linear}
use Rattle.claxon_format.specs.read.Reading.{Reading, and_then, done, times_at, test, checked_at}
use Rattle.claxon_format.specs.Subframe.{reserved, scaled}
use Rattle.claxon_format.specs.read.Bits.{bit_at, number_at, signed_at, unary_at}
use Rattle.claxon_format.specs.read.Residual.{residual_at}

-- the subframe type and the number of wasted bits
pub record SubframeFields : Type 0 where
  pub type : ℕ
  pub wasted_bits : ℕ

-- the subframe type, after a padding bit
unfoldable pub type_at : Bits → Reading Bool ℕ
type_at =
    and_then bit_at (λ b.
    test b SubframePadding (checked_at reserved SubframeTypeReserved (number_at 6)))

unfoldable pub wasted_bits_at : Bits → Reading Bool ℕ
wasted_bits_at =
    and_then bit_at (λ b. if b then and_then unary_at (λ q. done (suc q)) else done 0)

-- at most 31 wasted bits
unfoldable pub wasted_bits_to_31_at : Bits → Reading Bool ℕ
wasted_bits_to_31_at = checked_at (nat_lt 31) WastedBitsLarge wasted_bits_at

-- the subframe type and the number of wasted bits (sections 9.2.1 and 9.2.2)
unfoldable pub subframe_header_at : Bits → Reading Bool SubframeFields
subframe_header_at =
    and_then type_at (λ n.
    and_then wasted_bits_to_31_at (λ z. done record { type = n; wasted_bits = z }))

-- n samples of w bits under a fixed predictor (section 9.2.5)
unfoldable pub fixed_at : ℕ → ℕ → ℕ → Bits → Reading Bool (List ℤ)
fixed_at w n order =
    test (nat_lt n order) FixedOrder (
    and_then (times_at order (signed_at w)) (λ warm_up.
    and_then (residual_at n order) (λ e.
    done (warm_up ++ restore (fixed order) (reverse warm_up) e))))

-- the precision of coefficients and their shift
pub record Parameters : Type 0 where
  pub precision : ℕ
  pub shift : ℕ

unfoldable pub parameters_at : Bits → Reading Bool Parameters
parameters_at =
    and_then (checked_at (λ m. m == 15) PrecisionInvalid (number_at 4)) (λ m.
    and_then (checked_at (nat_lt 15) ShiftNegative (number_at 5)) (λ s.
    done record { precision = m + 1; shift = s }))

-- n samples of w bits under a linear predictor (section 9.2.6)
unfoldable pub linear_at : ℕ → ℕ → ℕ → Bits → Reading Bool (List ℤ)
linear_at w n order =
    test (nat_lt n order) LinearOrder (
    and_then (times_at order (signed_at w)) (λ warm_up.
    and_then parameters_at (λ p.
    and_then (times_at order (signed_at p.precision)) (λ cs.
    and_then (residual_at n order) (λ e.
    done (warm_up ++ restore (linear cs p.shift) (reverse warm_up) e))))))

-- n samples of w bits, of this subframe type
unfoldable pub subframe_body_at : ℕ → ℕ → ℕ → Bits → Reading Bool (List ℤ)
subframe_body_at w n type =
    if type == 0 then and_then (signed_at w) (λ x. done (replicate n x))
    else if type == 1 then times_at n (signed_at w)
    else if nat_lt type 13 then fixed_at w n (type - 8)
    else linear_at w n (type - 31)

-- n samples of w bits
unfoldable pub subframe_at : ℕ → ℕ → Bits → Reading Bool (List ℤ)
subframe_at w n =
    and_then subframe_header_at (λ h.
    test (not (nat_lt h.wasted_bits w)) NoBitsLeft (
    and_then (subframe_body_at (w - h.wasted_bits) n h.type) (λ u.
    done (map (scaled h.wasted_bits) u))))
