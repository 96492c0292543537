use Rattle.std.proofs.Common.{arith}
use Rattle.claxon_recovery.proofs.passed.Passed.with_unsearched.Goals as goal

pub returns : goal.returns
returns c = λ t unsearched h. record { first = h.first; zeros = h.zeros; count = (let e = h.count in omega (arith, e)) }
