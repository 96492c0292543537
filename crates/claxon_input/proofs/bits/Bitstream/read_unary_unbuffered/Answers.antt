use Rattle.std.proofs.lemmas.Grind.{common_steps}
use Rattle.std.proofs.Common.{arith, ◌-◌}
use Rattle.claxon_input.proofs.BitSteps.{no_one_bit_in_limit, one_at, one_taken}
use Rattle.claxon_input.proofs.bits.Bitstream.read_unary_unbuffered.Goals as goal

pub returns-then-zeros-clause-failure_or_no_one : goal.returns-then-zeros-clause-failure_or_no_one
returns-then-zeros-clause-failure_or_no_one g c o t =
    no_one_bit_in_limit (g.R.ReadBytes.source c.skip_zeros.new.reader) c.in_ok-zeros.cache c.in_ok-zeros.count _ c.in_ok-zeros.zeros (c.in_ok-zeros.count - 1 - c.highest_one-left.result)
    (c.in_ok-zeros.ensures.skips_zeros o t)
    (one_at c.in_ok-zeros.cache c.in_ok-zeros.count c.highest_one-left.result c.highest_one-left.ensures.here c.highest_one-left.ensures.above c.highest_one-left.ensures.below)
    (omega arith) (omega (arith, c.in_ok-zeros.ensures.bound, c.in_ok-zeros.ensures.few))

pub returns-clause-is_sound : goal.returns-clause-is_sound
returns-clause-is_sound g c o t =
    one_taken (g.R.ReadBytes.source c.skip_zeros.new.reader) c.in_ok-zeros.cache c.in_ok-zeros.count c.highest_one-left.result c.in_ok-zeros.zeros
    c.highest_one-left.ensures.here c.highest_one-left.ensures.above c.highest_one-left.ensures.below (omega (arith, c.in_ok-zeros.ensures.few)) (c.in_ok-zeros.ensures.skips_zeros o t)

pub invariant_of-self-2 : goal.invariant_of-self-2
invariant_of-self-2 g c = grind (arith, common_steps)
