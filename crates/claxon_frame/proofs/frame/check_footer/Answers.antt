use Rattle.std.proofs.Common.{rules}
use Rattle.claxon_format.specs.read.Bytes.{crc_at}
use Rattle.claxon_format.specs.Fault.{fault_text}
use Rattle.claxon_input.specs.RunningReader.{running_source}
use Rattle.claxon_input.specs.CrcUpdate.{update_crc16}
use Rattle.claxon_input.proofs.ByteFields.{consumes_big}
use Rattle.claxon_frame.proofs.frame.check_footer.Goals as goal

pub returns-then-stored-computed-clause-gives : goal.returns-then-stored-computed-clause-gives
unfolding crc_at fault_text
returns-then-stored-computed-clause-gives g c = search (rules, consumes_big (running_source g.R.ReadBytes.source update_crc16) 2 c.in_ok-stored.stored (search rules) c.in_ok-stored.ensures.is_sound)

pub returns-else-stored-computed-clause-gives : goal.returns-else-stored-computed-clause-gives
unfolding crc_at fault_text
returns-else-stored-computed-clause-gives g c = search (rules, consumes_big (running_source g.R.ReadBytes.source update_crc16) 2 c.in_ok-stored.stored (search rules) c.in_ok-stored.ensures.is_sound)
