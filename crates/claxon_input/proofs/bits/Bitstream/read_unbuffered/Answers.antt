use Rattle.std.proofs.Common.{rules}
use Rattle.claxon_input.proofs.BitSteps.{bits_both}
use Rattle.claxon_input.proofs.bits.Bitstream.read_unbuffered.Goals as goal

pub returns-clause-ok : goal.returns-clause-ok
returns-clause-ok g c = bits_both c.in_ok-cache.ensures.ok c.cut.ensures.takes_number

pub returns-in_err-cache-clause-err : goal.returns-in_err-cache-clause-err
returns-in_err-cache-clause-err g c = search rules
