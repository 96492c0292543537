use Rattle.std.proofs.Common.{List, ℕ, subst}
use Rattle.claxon_write.specs.Written.{Puts}
use Rattle.claxon_program.proofs.Printing.{put_and_flushed}
use Rattle.claxon_program.proofs.program.write_text.Goals as goal

pub returns-clause-writes_text : goal.returns-clause-writes_text
returns-clause-writes_text g c =
    let put = subst (λ (z : List ℕ). Puts g.W.Write.contents z c.args.output.now c.put.new.self) c.as_bytes.ensures.value c.in_ok-put.ensures.is_sound in
    let all = put_and_flushed c.flush.new.self put c.in_ok-put.ensures.is_unflushed c.flush.result c.flush.ensures.is_sound c.flush.ensures.none_pending in
    rw c.in_ok-text.was all
