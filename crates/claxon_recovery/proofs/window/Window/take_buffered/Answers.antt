use Rattle.std.proofs.Common.{◌∙◌, ap, drop, rules, arith}
use Rattle.std.proofs.lemmas.List.{drop-append-le}
use Rattle.claxon_recovery.proofs.Reading.{buffered_fail, buffered_reads, on_failure}
use Rattle.claxon_recovery.proofs.window.Window.take_buffered.Goals as goal

pub returns-in_err-skip-clause-err : goal.returns-in_err-skip-clause-err
returns-in_err-skip-clause-err g c = on_failure g.R.ReadBytes.source _ _ c.from_residual-in_err-skip.result (search rules) (buffered_fail c.buffered-chunk.result.now _ (omega arith) c.buffered-chunk.ensures.is_front c.in_err-skip.ensures.failure_or_eof)

pub returns-clause-ok : goal.returns-clause-ok
returns-clause-ok g c =
    let w = c.args.self.now in
    let items = rw c.in_ok-extend_from_slice.was at c.extend_from_slice.ensures.items in
    record {
      more = _;
      held = ap (drop w.taken) items ∙ drop-append-le w.taken w.bytes.items _ (omega (arith, w.ordered, w.bytes.ok.0));
      reads = buffered_reads c.buffered-chunk.result.now _ (omega arith) c.buffered-chunk.ensures.is_front c.in_ok-skip.ensures.are_skipped;
    }
