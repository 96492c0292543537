use Rattle.std.proofs.Common.{refl}
use Rattle.claxon_write.proofs.Puts.{gathered_ok, gathered_err}
use Rattle.claxon_write.proofs.output.Output.write_gathered.Goals as goal

pub returns-clause-is_sound : goal.returns-clause-is_sound
returns-clause-is_sound g c = gathered_ok g.W.Write.contents c.write_whole-outcome.result c.args.self.now _ _ c.pending.ensures.value refl c.write_whole-outcome.ensures.writes_all c.write_whole-outcome.ensures.succeeded

pub returns-clause-fault_is_sound : goal.returns-clause-fault_is_sound
returns-clause-fault_is_sound g c = gathered_err g.W.Write.contents c.write_whole-outcome.result c.args.self.now _ _ c.pending.ensures.value refl c.write_whole-outcome.ensures.io c.write_whole-outcome.ensures.writes_prefix c.write_whole-outcome.ensures.failed c.pending.ensures.few
