use Rattle.std.proofs.Common.{◌≡◌, ℕ, ◌<◌, false, eqb, ltb, List, length, refl, arith}
use Rattle.std.proofs.lemmas.Bool.{le-ltb}
use Rattle.std.proofs.lemmas.Bool.Decides.{nat_tests}
use Rattle.claxon_format.specs.Header.{common_rate}
use Rattle.claxon_format.specs.read.Bytes.{bytes_at, big_at}
use Rattle.claxon_format.specs.read.Header.{rate_at}
use Rattle.claxon_format.specs.read.Reading.{Done}
use Rattle.claxon_input.proofs.ByteFields.{first_number}
use Rattle.claxon_input.proofs.ConsecutiveCalls.{consumes_none}
use Rattle.claxon_frame.proofs.frame.header.read_rate.Goals as goal

-- codes below 12 have no field
no_field : (code : ℕ) (s : List ℕ) → code < 12 → rate_at big_at code s ≡ Done (common_rate code) s
unfolding rate_at big_at bytes_at
no_field code s small =
    let kilohertz : eqb code 12 ≡ false = grind (arith, nat_tests) in
    let hertz : eqb code 13 ≡ false = grind (arith, nat_tests) in
    let tens : eqb code 14 ≡ false = grind (arith, nat_tests) in
    let none : ltb 12 code ≡ false = le-ltb _ _ (omega arith) in
    let whole : ltb (length s) 0 ≡ false = le-ltb _ _ (omega arith) in
    rw (kilohertz, none, hertz, tens, whole) refl

pub returns-in_default : goal.returns-in_default
returns-in_default g c = record { gives = rw c.common_rate_of.ensures (consumes_none _ _ (no_field c.args.code _ (omega arith))) }

pub returns-in_ok-read_be_u16-in-14 : goal.returns-in_ok-read_be_u16-in-14
unfolding rate_at
returns-in_ok-read_be_u16-in-14 g c = grind (arith, first_number)
