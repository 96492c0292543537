use Rattle.std.proofs.Common.{inl, inr, rules, sym, ◌∙◌}
use Rattle.std.proofs.lemmas.Result.{err_from_is_err_and}
use Rattle.claxon.specs.BufferedReader.{buffered_source}
use Rattle.claxon_write.proofs.Borrowed.{all_flushed, fails_shown, flush_not_refused, io_not_refused, larger_shown, stops_flushed}
use Rattle.claxon_write.proofs.stream.write_samples_exact.Goals as goal

pub returns-clause-is_sound : goal.returns-clause-is_sound
returns-clause-is_sound g c =
    let k = c.in_ok-end.ensures.is_sound in
    let f = c.flush_writer-flushed.ensures in
    let all = all_flushed (buffered_source g.R.Read.remaining) c.streaminfo-info.ensures.value c.input.ensures.input c.in_ok-end.end.count c.write_blocks.new.input c.flush_writer-flushed.result c.flush_writer-flushed.new.self c.in_default.is k.0 k.1 c.in_ok-end.ensures.is_unflushed f.keeps_contents f.pending f.succeeded f.failed f.is_flushed f.io in
    let j = all.0 in
    rw c.and.ensures (search rules)

pub returns-clause-fault_is_sound : goal.returns-clause-fault_is_sound
returns-clause-fault_is_sound g c =
    let k = c.in_ok-end.ensures.is_sound in
    let f = c.flush_writer-flushed.ensures in
    let all = all_flushed (buffered_source g.R.Read.remaining) c.streaminfo-info.ensures.value c.input.ensures.input c.in_ok-end.end.count c.write_blocks.new.input c.flush_writer-flushed.result c.flush_writer-flushed.new.self c.in_default.is k.0 k.1 c.in_ok-end.ensures.is_unflushed f.keeps_contents f.pending f.succeeded f.failed f.is_flushed f.io in
    let j = all.1 in
    rw c.and.ensures (search rules)

pub returns-in-Some-clause-fault_is_sound : goal.returns-in-Some-clause-fault_is_sound
returns-in-Some-clause-fault_is_sound g c =
    let k = c.in_ok-end.ensures.is_sound in
    let f = c.flush_writer-flushed.ensures in
    inl (stops_flushed (buffered_source g.R.Read.remaining) c.streaminfo-info.ensures.value c.input.ensures.input c.write_blocks.new.input c.flush_writer-flushed.result c.in-Some.is k.0 k.1 c.in_ok-end.ensures.is_unflushed f.keeps_contents f.pending f.succeeded f.failed f.is_flushed)

pub returns-clause-out_of_memory_for_larger_block : goal.returns-clause-out_of_memory_for_larger_block
returns-clause-out_of_memory_for_larger_block g c out = absurd (flush_not_refused c.flush_writer-flushed.result c.in_ok-end.end.count c.flush_writer-flushed.ensures.io (sym c.and.ensures ∙ out))

pub returns-in-Some-clause-out_of_memory_for_larger_block : goal.returns-in-Some-clause-out_of_memory_for_larger_block
returns-in-Some-clause-out_of_memory_for_larger_block g c out = larger_shown (buffered_source g.R.Read.remaining) c.streaminfo-info.ensures.value c.input.ensures.input c.write_blocks.new.input c.in_ok-end.ensures.out_of_memory_for_larger_block c.in-Some.is out

pub returns-in_err-end-clause-out_of_memory_for_larger_block : goal.returns-in_err-end-clause-out_of_memory_for_larger_block
returns-in_err-end-clause-out_of_memory_for_larger_block g c out =
    let p = err_from_is_err_and c.from_residual.result c.from_residual.ensures.1 in
    absurd (io_not_refused p.0 (rw p.2 c.in_err-end.ensures.fault_is_sound.is_io) (rw p.1 at out))

pub returns-in_err-end-clause-fault_is_sound : goal.returns-in_err-end-clause-fault_is_sound
returns-in_err-end-clause-fault_is_sound g c =
    let p = err_from_is_err_and c.from_residual.result c.from_residual.ensures.1 in
    rw (p.1, p.2) (inr (inl (fails_shown (buffered_source g.R.Read.remaining) c.streaminfo-info.ensures.value c.input.ensures.input c.write_blocks.new.input c.in_err-end.ensures.fault_is_sound)))
