use Rattle.std.proofs.Common.{inl, ◌∙◌}
use Rattle.std.proofs.lemmas.Result.{err_from_is_err_and}
use Rattle.claxon_write.proofs.Puts.{flushed_ok, flushed_err}
use Rattle.claxon_write.proofs.output.Output.flush.Goals as goal

pub returns-clause-is_sound : goal.returns-clause-is_sound
returns-clause-is_sound g c =
    let f = c.flush_writer.ensures in
    flushed_ok g.W.Write.contents c.flush_writer.result c.args.self.now _ c.flush_writer.new.self c.in_ok-write_gathered.ensures.is_sound c.in_ok-write_gathered.ensures.is_unflushed f.keeps_contents f.is_flushed f.pending f.succeeded

pub returns-clause-fault_is_sound : goal.returns-clause-fault_is_sound
returns-clause-fault_is_sound g c =
    let f = c.flush_writer.ensures in
    let none = c.write_gathered.ensures.none_pending in
    flushed_err g.W.Write.contents c.flush_writer.result c.args.self.now _ c.flush_writer.new.self c.in_ok-write_gathered.ensures.is_sound c.in_ok-write_gathered.ensures.is_unflushed f.keeps_contents f.is_flushed none (f.pending ∙ none) f.io f.failed

pub returns-in_err-write_gathered-clause-fault_is_sound : goal.returns-in_err-write_gathered-clause-fault_is_sound
returns-in_err-write_gathered-clause-fault_is_sound g c =
    let p = err_from_is_err_and c.from_residual.result c.from_residual.ensures.1 in
    rw (p.1, p.2) (inl (c.in_err-write_gathered.ensures.fault_is_sound, c.in_err-write_gathered.ensures.is_unflushed))
