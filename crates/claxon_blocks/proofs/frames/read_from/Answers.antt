use Rattle.std.proofs.Common.{rules, sym}
use Rattle.claxon.specs.DecodedFrame.{frame_answer}
use Rattle.claxon.specs.FrameReader.{frame_bytes, frame_input}
use Rattle.claxon.specs.SampleRuns.{lent}
use Rattle.claxon.proofs.Loans.{reads_loans, same_name}
use Rattle.claxon_blocks.proofs.ReadsBelow.{memory_borrowed, reads_borrowed, sound_borrowed}
use Rattle.claxon_blocks.proofs.frames.read_from.Goals as goal

pub returns-clause-reads_frame : goal.returns-clause-reads_frame
returns-clause-reads_frame g c =
    let at = c.with_streaminfo-frames.ensures.input in
    let e = c.read_next_with_info_or_eof.ensures in
    let q = frame_input c.read_next_with_info_or_eof.new.self in
    let s = frame_input c.with_streaminfo-frames.result in
    let b = frame_bytes (lent g.R.ReadBytes.source) c.read_next_with_info_or_eof.new.self in
    let n = sym (same_name g.R.ReadBytes.source _ s q at (reads_loans {b = b} e.reads_frame)) in
    let k = reads_borrowed g.R.ReadBytes.source s q _ at c.with_streaminfo-frames.ensures.stream e.reads_frame in
    search rules

pub returns-clause-is_sound : goal.returns-clause-is_sound
returns-clause-is_sound g c =
    let at = c.with_streaminfo-frames.ensures.input in
    let e = c.read_next_with_info_or_eof.ensures in
    let q = frame_input c.read_next_with_info_or_eof.new.self in
    let s = frame_input c.with_streaminfo-frames.result in
    let b = frame_bytes (lent g.R.ReadBytes.source) c.read_next_with_info_or_eof.new.self in
    let n = sym (same_name g.R.ReadBytes.source _ s q at (reads_loans {b = b} e.reads_frame)) in
    let k = sound_borrowed g.R.ReadBytes.source s q c.read_next_with_info_or_eof.result _ at c.with_streaminfo-frames.ensures.stream e.is_sound in
    search rules

pub returns-clause-out_of_memory_after_header : goal.returns-clause-out_of_memory_after_header
returns-clause-out_of_memory_after_header g c =
    let at = c.with_streaminfo-frames.ensures.input in
    let e = c.read_next_with_info_or_eof.ensures in
    let q = frame_input c.read_next_with_info_or_eof.new.self in
    let s = frame_input c.with_streaminfo-frames.result in
    let b = frame_bytes (lent g.R.ReadBytes.source) c.read_next_with_info_or_eof.new.self in
    let n = sym (same_name g.R.ReadBytes.source _ s q at (reads_loans {b = b} e.reads_frame)) in
    let k = memory_borrowed g.R.ReadBytes.source s q _ (frame_answer c.read_next_with_info_or_eof.result) _ at c.with_streaminfo-frames.ensures.stream e.out_of_memory_after_header in
    search rules
