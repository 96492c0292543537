-- Bit depths that have a code.
use Rattle.std.proofs.Common.{◌≡◌, ℕ, ◌≤◌, Bool, true, false, cond, eqb, Option, None, Some, refl, arith}
use Rattle.std.specs.Option.{ForSome}
use Rattle.claxon_format.specs.Header.{bit_depth_of_code}
use Rattle.claxon_frame.specs.FrameHeader.{HasBitDepthCode, bit_depth_code}

pub record Named (known : Option ℕ) (code bits : ℕ) : Type 0 where
  pub some : eqb code 0 ≡ false
  pub value : bit_depth_of_code known code ≡ Some bits
  pub few : bits ≤ 24

some_few : (v bits : ℕ) → v ≤ 24 → Some v ≡ Some bits → bits ≤ 24
some_few v bits le e = let k : v ≡ bits = cc in omega arith

named : (known : Option ℕ) (a b c d : Bool) (bits : ℕ) → bit_depth_of_code None (cond a 1 (cond b 2 (cond c 4 (cond d 5 6)))) ≡ Some bits → Named known (cond a 1 (cond b 2 (cond c 4 (cond d 5 6)))) bits
named known true b c d bits e = record { some = refl; value = e; few = some_few _ bits (omega arith) e }
named known false true c d bits e = record { some = refl; value = e; few = some_few _ bits (omega arith) e }
named known false false true d bits e = record { some = refl; value = e; few = some_few _ bits (omega arith) e }
named known false false false true bits e = record { some = refl; value = e; few = some_few _ bits (omega arith) e }
named known false false false false bits e = record { some = refl; value = e; few = some_few _ bits (omega arith) e }

-- such a bit depth is that of its code, whatever the stream's is
pub code_names : (known : Option ℕ) (bits : ℕ) → HasBitDepthCode bits → Named known (bit_depth_code (Some bits)) bits
code_names known bits h = named known (eqb bits 8) (eqb bits 12) (eqb bits 16) (eqb bits 20) bits h

-- the bit depth that a header gives is that of its code
pub given_by_code : (given : Option ℕ) → ForSome given HasBitDepthCode → bit_depth_of_code None (bit_depth_code given) ≡ given
given_by_code None h = refl
given_by_code (Some bits) h = h bits refl
