use Rattle.std.proofs.Common.{rules, sym, ◌∙◌}
use Rattle.std.proofs.lemmas.Result.{err_from_is_err_and}
use Rattle.claxon.specs.FrameReader.{frame_input}
use Rattle.claxon.proofs.Loans.{same_name}
use Rattle.claxon_write.proofs.Borrowed.{fails_through, larger_through, written_through}
use Rattle.claxon_write.proofs.stream.write_blocks.Goals as goal

pub returns-clause-is_sound : goal.returns-clause-is_sound
returns-clause-is_sound g c =
    let at = c.with_streaminfo-frames.ensures.input in
    let q = frame_input c.gather_blocks.new.frames in
    let s = frame_input c.with_streaminfo-frames.result in
    let e = sym (same_name g.R.ReadBytes.source _ s q at c.in_ok-end.ensures.loans) in
    let w = c.write_gathered-written.ensures in
    let k = written_through g.R.ReadBytes.source _ s q at c.with_streaminfo-frames.ensures.stream c.in_ok-end.end c.write_gathered-written.result c.args.output.now c.gather_blocks.new.output c.write_gathered-written.new.self c.in_ok-end.ensures.is_sound w.is_sound w.fault_is_sound w.none_pending (w.is_unflushed ∙ c.in_ok-end.ensures.is_unflushed) in
    let j = k.0 in
    rw c.and.ensures (search rules)

pub returns-clause-fault_is_sound : goal.returns-clause-fault_is_sound
returns-clause-fault_is_sound g c =
    let at = c.with_streaminfo-frames.ensures.input in
    let q = frame_input c.gather_blocks.new.frames in
    let s = frame_input c.with_streaminfo-frames.result in
    let e = sym (same_name g.R.ReadBytes.source _ s q at c.in_ok-end.ensures.loans) in
    let w = c.write_gathered-written.ensures in
    let k = written_through g.R.ReadBytes.source _ s q at c.with_streaminfo-frames.ensures.stream c.in_ok-end.end c.write_gathered-written.result c.args.output.now c.gather_blocks.new.output c.write_gathered-written.new.self c.in_ok-end.ensures.is_sound w.is_sound w.fault_is_sound w.none_pending (w.is_unflushed ∙ c.in_ok-end.ensures.is_unflushed) in
    let j = k.1 in
    rw c.and.ensures (search rules)

pub returns-clause-out_of_memory_for_larger_block : goal.returns-clause-out_of_memory_for_larger_block
returns-clause-out_of_memory_for_larger_block g c =
    let at = c.with_streaminfo-frames.ensures.input in
    let q = frame_input c.gather_blocks.new.frames in
    let s = frame_input c.with_streaminfo-frames.result in
    let e = sym (same_name g.R.ReadBytes.source _ s q at c.in_ok-end.ensures.loans) in
    let j = larger_through g.R.ReadBytes.source _ s q at c.with_streaminfo-frames.ensures.stream c.in_ok-end.end c.write_gathered-written.result c.in_ok-end.ensures.out_of_memory_for_larger_block in
    rw c.and.ensures (search rules)

pub returns-in_err-end-clause-fault_is_sound : goal.returns-in_err-end-clause-fault_is_sound
returns-in_err-end-clause-fault_is_sound g c =
    let p = err_from_is_err_and c.from_residual.result c.from_residual.ensures.1 in
    let at = c.with_streaminfo-frames.ensures.input in
    let q = frame_input c.gather_blocks.new.frames in
    let s = frame_input c.with_streaminfo-frames.result in
    let e = sym (same_name g.R.ReadBytes.source _ s q at c.in_err-end.ensures.loans) in
    let k = fails_through g.R.ReadBytes.source _ s q at c.with_streaminfo-frames.ensures.stream c.in_err-end.ensures.fault_is_sound in
    rw (p.1, p.2) (search rules)
