use Rattle.std.proofs.Common.{List, ℕ, subst, ◌∙◌}
use Rattle.claxon_write.specs.Written.{Puts}
use Rattle.claxon_program.proofs.Printing.{put_and_flushed}
use Rattle.claxon_program.proofs.Flushing.{put_not_flushed}
use Rattle.claxon_program.proofs.facts.write_facts.Goals as goal

pub returns-clause-is_sound : goal.returns-clause-is_sound
returns-clause-is_sound g c =
    let put = subst (λ (z : List ℕ). Puts g.W.Write.contents z c.args.output.now c.put.new.self) (c.as_bytes.ensures.value ∙ c.in_ok-text.ensures.are_sound) c.in_ok-put.ensures.is_sound in
    put_and_flushed c.flush.new.self put c.in_ok-put.ensures.is_unflushed c.flush.result c.flush.ensures.is_sound c.flush.ensures.none_pending

pub returns-clause-fault_is_sound : goal.returns-clause-fault_is_sound
returns-clause-fault_is_sound g c =
    let put = subst (λ (z : List ℕ). Puts g.W.Write.contents z c.args.output.now c.put.new.self) (c.as_bytes.ensures.value ∙ c.in_ok-text.ensures.are_sound) c.in_ok-put.ensures.is_sound in
    put_not_flushed c.flush.new.self put c.in_ok-put.ensures.is_unflushed c.flush.result c.flush.ensures.fault_is_sound
