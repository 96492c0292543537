-- Examples: what a writer writes for some frames under plans.
use Rattle.std.proofs.Common.{◌≡◌, ℕ, false, true, List, [], ◌∷◌, refl, ℤ, pos, negsuc}
use Rattle.std.specs.Prelude.{Option, Some, None}
use Rattle.std.specs.Int.{int_wrap}
use Rattle.claxon_format.specs.Bits.{Bits, bits, number, residue}
use Rattle.claxon_format.specs.Frame.{StreamFormat}
use Rattle.claxon_format.specs.FrameWriter.{HeaderPlan, bytes_of, write_bytes}
use Rattle.claxon_format.specs.Crc.{divide, divide_step, crc8, crc16}
use Rattle.claxon_format.specs.Header.{Fields}
use Rattle.claxon_format.specs.Writer.{SubframePlan, ConstantPlan}

write : Option StreamFormat → Fields → HeaderPlan → List SubframePlan → List (List ℤ) → List ℕ
unfolding bits number residue bytes_of divide divide_step crc8 crc16 int_wrap
write stream f header plans channels = write_bytes stream f header plans channels

-- the fields of a frame of one sample at 44,100 Hz, with a fixed block size, which is coded in a byte
fields : ℕ → ℕ → Fields
fields channel_code bit_depth_code = record { variable = false; size = 1; sample_rate = Some 44100; channel_code = channel_code; bit_depth_code = bit_depth_code; number = 0 }

codes : Bits → HeaderPlan
codes padding = record { size_code = 6; rate_code = 9; rate = []; continuation_count = 0; padding = padding }

constant : SubframePlan
constant = record { wasted_bits = 0; subframe_type = ConstantPlan }

-- the smallest frame
smallest : write None (fields 0 1) (codes []) (constant ∷ []) ((pos 5 ∷ []) ∷ []) ≡ 0xff ∷ 0xf8 ∷ 0x69 ∷ 0x02 ∷ 0x00 ∷ 0x00 ∷ 0x9a ∷ 0x00 ∷ 0x05 ∷ 0x34 ∷ 0x58 ∷ []
unfolding write fields codes constant
smallest = refl

-- mid and side, padded with zeros and with others
mid_side : write None (fields 10 1) (codes []) (constant ∷ constant ∷ []) ((pos 3 ∷ []) ∷ (negsuc 1 ∷ []) ∷ []) ≡ 0xff ∷ 0xf8 ∷ 0x69 ∷ 0xa2 ∷ 0x00 ∷ 0x00 ∷ 0xd2 ∷ 0x00 ∷ 0x00 ∷ 0x00 ∷ 0x02 ∷ 0x80 ∷ 0x24 ∷ 0xd1 ∷ []
unfolding write fields codes constant
mid_side = refl

mid_side_padding : write None (fields 10 1) (codes (false ∷ false ∷ false ∷ false ∷ false ∷ false ∷ true ∷ [])) (constant ∷ constant ∷ []) ((pos 3 ∷ []) ∷ (negsuc 1 ∷ []) ∷ [])
    ≡ 0xff ∷ 0xf8 ∷ 0x69 ∷ 0xa2 ∷ 0x00 ∷ 0x00 ∷ 0xd2 ∷ 0x00 ∷ 0x00 ∷ 0x00 ∷ 0x02 ∷ 0x81 ∷ 0xa4 ∷ 0xd4 ∷ []
unfolding write fields codes constant
mid_side_padding = refl
