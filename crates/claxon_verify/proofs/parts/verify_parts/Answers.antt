use Rattle.std.proofs.Common.{rules}
use Rattle.claxon_verify.proofs.PartsStopped.{fault_through}
use Rattle.claxon_verify.proofs.PartsVerified.{parts_through}
use Rattle.claxon_verify.proofs.PartsTrailed.{told_through}
use Rattle.claxon_verify.proofs.parts.verify_parts.Goals as goal

pub returns-clause-is_sound : goal.returns-clause-is_sound
returns-clause-is_sound g c = parts_through g.R.ReadBytes.source _ c.new-input.result c.new-input.ensures.inner c.args.computes_md5 c.verify_counted_parts.result c.verify_counted_parts.ensures.is_sound

pub returns-clause-fault_is_sound : goal.returns-clause-fault_is_sound
returns-clause-fault_is_sound g c = fault_through g.R.ReadBytes.source _ c.new-input.result c.verify_counted_parts.new.input c.new-input.ensures.inner c.verify_counted_parts.result c.verify_counted_parts.ensures.fault_is_sound _ (λ same. search rules)

pub returns-clause-trailing_is_told : goal.returns-clause-trailing_is_told
returns-clause-trailing_is_told g c = told_through g.R.ReadBytes.source _ c.new-input.result c.new-input.ensures.inner c.args.computes_md5 c.verify_counted_parts.result c.verify_counted_parts.ensures.trailing_is_told
