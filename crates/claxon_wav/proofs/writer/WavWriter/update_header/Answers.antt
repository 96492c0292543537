use Rattle.std.proofs.Common.{◌≡◌, ◌∙◌, inl, inr, refl, sym, subst}
use Rattle.std.specs.Prelude.{List, ℕ}
use Rattle.std.specs.Io.KnownBytes.{Appends}
use Rattle.std.proofs.KnownBytes.{Appends-kept}
use Rattle.std.proofs.lemmas.Result.{err_from_is_err_and}
use Rattle.claxon_write.specs.CountingWriter.{CountsNoFailure, CountsNoFlush, KeepsInner, inner_contents}
use Rattle.claxon_write.specs.declared.counting_writer.CountingWriter.{CountingWriter}
use Rattle.claxon_write.proofs.Counts.{none_failed, none_failed_both, write_failed_after}
use Rattle.claxon_wav.proofs.Ending.{at_start, flush_fails, flush_succeeds, on_ok, output_failed, output_succeeded}
use Rattle.claxon_wav.proofs.writer.WavWriter.update_header.Given.{Over}
use Rattle.claxon_wav.proofs.writer.WavWriter.update_header.Goals.{then-self+in_ok-put_header+in_ok-of_output+in_ok-of_output-2, else-self}
use Rattle.claxon_wav.proofs.writer.WavWriter.update_header.Goals as goal

pub returns-in_err-of_output-clause-fault_is_sound : goal.returns-in_err-of_output-clause-fault_is_sound
returns-in_err-of_output-clause-fault_is_sound g c =
    let p = err_from_is_err_and c.from_residual-in_err-of_output.result c.from_residual-in_err-of_output.ensures.1 in
    let k = output_failed c.rewind.result c.of_output.result c.in_err-of_output.field-0.0 c.of_output.ensures.is_output_result c.in_err-of_output.was c.rewind.ensures.failed in
    rw (p.1, p.2) (k.0, inr (inr k.1))

pub returns-in_err-of_output-2-clause-fault_is_sound : goal.returns-in_err-of_output-2-clause-fault_is_sound
returns-in_err-of_output-2-clause-fault_is_sound g c =
    let p = err_from_is_err_and c.from_residual-in_err-of_output-2.result c.from_residual-in_err-of_output-2.ensures.1 in
    let moved = output_succeeded c.rewind.result c.of_output.result c.in_ok-of_output.field-0 c.of_output.ensures.is_output_result c.in_ok-of_output.was c.rewind.ensures.succeeded in
    let k = output_failed c.write_whole.result c.of_output-then-self.result c.in_err-of_output-2.field-0.0 c.of_output-then-self.ensures.is_output_result c.in_err-of_output-2.was c.write_whole.ensures.failed in
    rw (p.1, p.2) (k.0, inl (write_failed_after moved k.1))

-- no call failed before the flush, and none was a flush
none_before : (g : Over) (c : goal.After-of_output-2 g) → CountsNoFailure c.args.self.now.output c.if-self.self.1.0 × CountsNoFlush c.args.self.now.output c.if-self.self.1.0
none_before g c = elim c.if-self.branch [
  | then-self+in_ok-put_header+in_ok-of_output+in_ok-of_output-2 w ↦ (
      let output : c.if-self.self.1.0 ≡ w.write_whole.new.self = rw w.self-is refl in
      let moved = output_succeeded w.rewind.result w.of_output.result w.in_ok-of_output.field-0 w.of_output.ensures.is_output_result w.in_ok-of_output.was w.rewind.ensures.succeeded in
      let written = output_succeeded w.write_whole.result w.of_output-then-self.result w.in_ok-of_output-2.field-0 w.of_output-then-self.ensures.is_output_result w.in_ok-of_output-2.was w.write_whole.ensures.succeeded in
      rw output (none_failed_both moved written, w.write_whole.ensures.counts_no_flush ∙ w.rewind.ensures.counts_other_call.none)
      )
  | else-self w ↦ (let output : c.if-self.self.1.0 ≡ c.args.self.now.output = rw w.self-is refl in rw output (none_failed c.args.self.now.output, refl))
]

pub returns-clause-flushes : goal.returns-clause-flushes
returns-clause-flushes g c = let none = none_before g c in flush_succeeds c.flush.new.self none.0 none.1 c.flush.result c.of_output-2.result c.of_output-2.ensures.is_output_result c.flush.ensures.succeeded c.flush.ensures.counts_flush

pub returns-clause-fault_is_sound : goal.returns-clause-fault_is_sound
returns-clause-fault_is_sound g c = let none = none_before g c in flush_fails c.flush.new.self none.0 none.1 c.flush.result c.of_output-2.result c.of_output-2.ensures.is_output_result c.flush.ensures.failed

pub returns-clause-is_sound : goal.returns-clause-is_sound
returns-clause-is_sound g c =
    let contents = g.W.Write.contents in
    let flushed = λ (z : CountingWriter g.row.W.Denot). KeepsInner contents z c.flush.new.self in
    on_ok c.of_output-2.result (elim c.if-self.branch [
      | then-self+in_ok-put_header+in_ok-of_output+in_ok-of_output-2 w ↦ (
          let layout : c.if-self.self.1.1.0 ≡ c.args.self.now.layout = rw w.self-is refl in
          let announced : c.if-self.self.1.1.1.0 ≡ c.args.self.now.written = rw w.self-is refl in
          let output : c.if-self.self.1.0 ≡ w.write_whole.new.self = rw w.self-is refl in
          let kept = subst flushed output c.flush.ensures.keeps_inner in
          let bytes : w.as_slice.result.now ≡ w.put_header.new.bytes.items = w.as_slice.ensures.value in
          let written = output_succeeded w.write_whole.result w.of_output-then-self.result w.in_ok-of_output-2.field-0 w.of_output-then-self.ensures.is_output_result w.in_ok-of_output-2.was w.write_whole.ensures.writes_all in (
            record {
              right = λ e. absurd (w.if-self.true (sym e));
              wrong = λ differ. record { header = w.put_header.new.bytes.items; is_header = w.in_ok-put_header.ensures.is_sound; start = w.rewind.new.self; at_start = at_start _ _ w.rewind.result w.of_output.result w.in_ok-of_output.field-0 w.of_output.ensures.is_output_result w.in_ok-of_output.was w.rewind.ensures.moves_to_start; written = subst (λ (z : List ℕ). Appends (inner_contents contents w.rewind.new.self) (inner_contents contents c.flush.new.self) z) bytes (Appends-kept _ _ _ _ written kept) };
            },
            record { announced_is = announced; written_is = refl; layout_is = layout },
          )
          )
      | else-self w ↦ (
          let layout : c.if-self.self.1.1.0 ≡ c.args.self.now.layout = rw w.self-is refl in
          let announced : c.if-self.self.1.1.1.0 ≡ c.args.self.now.announced = rw w.self-is refl in
          let output : c.if-self.self.1.0 ≡ c.args.self.now.output = rw w.self-is refl in
          let kept = subst flushed output c.flush.ensures.keeps_inner in
          let same : c.args.self.now.written ≡ c.args.self.now.announced = w.if-self.false in
          (record { right = λ e. kept; wrong = λ differ. absurd (differ (sym same)) }, record { announced_is = announced ∙ sym same; written_is = refl; layout_is = layout })
          )
    ])
