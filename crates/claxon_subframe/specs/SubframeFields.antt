-- The subframe types and header fields as the code keeps them (RFC 9639, section 9.2).
use Rattle.std.specs.Prelude.{ℕ, ◌+◌}
use Rattle.claxon_format.specs.read.Subframe.{SubframeFields, Parameters}
use Rattle.claxon_subframe.specs.declared.subframe.LpcParameters.{LpcParameters}
use Rattle.claxon_subframe.specs.declared.subframe.RicePartitionType.{RicePartitionType}
use Rattle.claxon_subframe.specs.declared.subframe.RicePartitionType.TheVariants.{Rice, Rice2}
use Rattle.claxon_subframe.specs.declared.subframe.SubframeType.{SubframeType}
use Rattle.claxon_subframe.specs.declared.subframe.SubframeType.TheVariants.{
  Constant,
  Verbatim,
  Fixed,
  Lpc,
}

-- the order of a fixed predictor, and of a linear one
abbrev pub fixed_order : SubframeType → ℕ
fixed_order (Fixed order) = order
fixed_order _ = 0

abbrev pub lpc_order : SubframeType → ℕ
lpc_order (Lpc order) = order
lpc_order _ = 0

-- the six bits of a subframe type
abbrev pub type_number : SubframeType → ℕ
type_number Constant = 0
type_number Verbatim = 1
type_number (Fixed order) = 8 + order
type_number (Lpc order) = 31 + order

-- the header of a subframe (section 9.2.1)
abbrev pub subframe_view : SubframeType → ℕ → SubframeFields
subframe_view sf_type wasted_bits = record { type = type_number sf_type; wasted_bits = wasted_bits }

-- the precision and the shift of a linear predictor (section 9.2.6)
abbrev pub parameters_of : LpcParameters → Parameters
parameters_of lpc = record { precision = lpc.precision; shift = lpc.shift }

-- the two bits of a residual coding method
abbrev pub method_of : RicePartitionType → ℕ
method_of Rice = 0
method_of Rice2 = 1
