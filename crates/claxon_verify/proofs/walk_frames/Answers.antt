use Rattle.std.proofs.Common.{◌+◌, ◌<◌, ◌%◌, ◌^◌, ℕ, length, Option, ap, arith, refl, sym, ◌∙◌}
use Rattle.std.proofs.lemmas.Result.{err_from_is_err_and}
use Rattle.std.specs.Prelude.{Ok, Some}
use Rattle.claxon.specs.DecodedFrames.{DecodedFrame}
use Rattle.claxon.specs.FrameReader.{stream_with}
use Rattle.claxon_blocks.specs.Frames.{decoder_answer, frame_block}
use Rattle.claxon_heads.specs.BytesRead.{counted_bytes}
use Rattle.claxon_heads.specs.declared.bytes_read.BytesRead.{BytesRead}
use Rattle.claxon_command_line.proofs.Showing.{shown_quietly, shown_total_same}
use Rattle.claxon_heads.proofs.Positions.{position_after, position_modulo}
use Rattle.claxon_verify.proofs.Walking.{Moves, at_eof, cut_found, cut_noted, eof_found, eof_noted, fault_added, frame_added, end_few, end_more, fault_few, frame_as, frame_exceeds, frame_few, none_few, none_so_far, same_more, read_as, failed_from}
use Rattle.claxon.specs.MetadataBlock.{info_view}
use Rattle.claxon_verify.proofs.FramesTrailed.{cut_tail, cut_to_tail, eof_tail, eof_to_tail, fault_tail, frame_tail, no_frames}
use Rattle.claxon_verify.proofs.walk_frames.Goals.{in-Ok-Some+in_ok-walk-in-Ok-Some, in-Err+in_ok-walk-in-Err+else-is_last}
use Rattle.claxon_verify.proofs.walk_frames.Goals as goal

pub loop-init : goal.loop-init
loop-init g c = record { so_far = none_so_far _ _ _ _ _ _ _ c.new-walk.ensures.begins_walk c.new-walk.ensures.nothing_noted; quiet = λ none. (refl, refl); total = refl; more = c.new-walk.ensures.begins_walk.more_is; few = none_few _ _ c.new-walk.ensures.begins_walk.none; tail = no_frames g.R.ReadBytes.source c.args.input.now c.new-walk.result c.new-walk.ensures.begins_walk c.new-walk.ensures.none_kept }

pub loop-preserved : goal.loop-preserved
loop-preserved g c =
    let h = c.loop.invariant.so_far in
    let b = counted_bytes g.R.ReadBytes.source c.read_frame-read.new.input in
    let a = counted_bytes g.R.ReadBytes.source c.loop.input in
    let read = c.read_frame-read.ensures.is_read in
    let byte = ap (λ (p : BytesRead). p.bytes) c.value-start.ensures in
    let end = ap (λ (p : BytesRead). p.bytes) c.value-end.ensures in
    let bound : c.loop.counter + 1 < 2 ^ 64 = omega arith in
    let moves : Moves a b c.value-start.result.bytes c.value-end.result.bytes = λ known known_after values t e. ap (λ (n : ℕ). n % 2 ^ 64) end ∙ position_modulo g.R.ReadBytes.source c.loop.input c.read_frame-read.new.input known known_after values t e ∙ ap (λ (n : ℕ). (n + length t) % 2 ^ 64) (sym byte) in
    record {
      so_far = elim c.match-read.branch [
        | in-Ok-Some+in_ok-walk-in-Ok-Some w ↦ (
            let found = w.in-Ok-Some.is ∙ ap (λ (z : Option (DecodedFrame _)). Ok z) w.in-Ok-Some.field-0-is in
            let is = ap (decoder_answer frame_block) found in
            let small = rw byte at w.with_frame.ensures.fits in
            rw w.walk-is (frame_added h w.in-Ok-Some.frame _ b bound (λ known front e. byte ∙ position_after g.R.ReadBytes.source c.args.input.now c.loop.input known (h.known known) (h.values known) small front e) (read_as {b = b} is read) (frame_as (Some (stream_with c.args.info)) a b found c.read_frame-read.ensures.has_header) w.in_ok-walk-in-Ok-Some.ensures.ok w.with_frame.ensures.fits moves w.in_ok-walk-in-Ok-Some.ensures.notes)
            )
        | in-Err+in_ok-walk-in-Err+else-is_last w ↦ (
            let k = w.in_ok-walk-in-Err.ensures.ok in
            let small = rw byte at w.with_fault.ensures.fits in
            rw w.walk-is (fault_added h {end = _} (λ known front e. byte ∙ position_after g.R.ReadBytes.source c.args.input.now c.loop.input known (h.known known) (h.values known) small front e) w.in-Err.fault b (read_as {b = b} (ap (decoder_answer frame_block) w.in-Err.is) read) w.in-Err.ensures.tells_of_32_bits (sym w.is_io_error-is_last.ensures ∙ w.if-is_last.false) k.0 k.1 w.in_ok-walk-in-Err.ensures.notes)
            )
      ];
      quiet = elim c.match-read.branch [
        | in-Ok-Some+in_ok-walk-in-Ok-Some w ↦ rw w.progress-is (shown_quietly c.args.progress.now c.loop.progress w.show.new.self _ c.loop.invariant.quiet c.loop.invariant.total w.show.ensures.shows_percentage w.show.ensures.writes_only_changes)
        | in-Err+in_ok-walk-in-Err+else-is_last w ↦ rw w.progress-is c.loop.invariant.quiet
      ];
      total = elim c.match-read.branch [
        | in-Ok-Some+in_ok-walk-in-Ok-Some w ↦ rw w.progress-is (shown_total_same c.loop.progress w.show.new.self _ w.show.ensures.shows_percentage ∙ c.loop.invariant.total)
        | in-Err+in_ok-walk-in-Err+else-is_last w ↦ rw w.progress-is c.loop.invariant.total
      ];
      more = elim c.match-read.branch [
        | in-Ok-Some+in_ok-walk-in-Ok-Some w ↦ rw w.walk-is (w.in_ok-walk-in-Ok-Some.ensures.ok.places.more ∙ c.loop.invariant.more)
        | in-Err+in_ok-walk-in-Err+else-is_last w ↦ rw w.walk-is (same_more w.in_ok-walk-in-Err.ensures.ok.1 ∙ c.loop.invariant.more)
      ];
      few = elim c.match-read.branch [
        | in-Ok-Some+in_ok-walk-in-Ok-Some w ↦ rw w.walk-is (frame_few w.in_ok-walk-in-Ok-Some.ensures.ok c.loop.invariant.more c.loop.invariant.few)
        | in-Err+in_ok-walk-in-Err+else-is_last w ↦ rw w.walk-is (fault_few w.in_ok-walk-in-Err.ensures.ok.1 c.loop.invariant.few)
      ];
      tail = elim c.match-read.branch [
        | in-Ok-Some+in_ok-walk-in-Ok-Some w ↦ (
            let found = w.in-Ok-Some.is ∙ ap (λ (z : Option (DecodedFrame _)). Ok z) w.in-Ok-Some.field-0-is in
            let is = ap (decoder_answer frame_block) found in
            rw w.walk-is (frame_tail g.R.ReadBytes.source c.args.input.now c.loop.input c.read_frame-read.new.input c.loop.walk _ c.loop.invariant.tail h.known (info_view c.args.info) (Some (stream_with c.args.info)) _ byte w.with_frame.ensures.fits w.in-Ok-Some.frame (read_as {b = b} is read) (frame_as (Some (stream_with c.args.info)) a b found c.read_frame-read.ensures.has_header) w.in_ok-walk-in-Ok-Some.ensures.ok w.in_ok-walk-in-Ok-Some.ensures.keeps)
            )
        | in-Err+in_ok-walk-in-Err+else-is_last w ↦ (
            let k = w.in_ok-walk-in-Err.ensures.ok in
            rw w.walk-is (fault_tail g.R.ReadBytes.source c.args.input.now c.loop.input c.read_frame-read.new.input c.loop.walk _ c.loop.invariant.tail h.known (info_view c.args.info) (Some (stream_with c.args.info)) _ byte w.with_fault.ensures.fits w.in-Err.fault (read_as {b = b} (ap (decoder_answer frame_block) w.in-Err.is) read) w.in-Err.ensures.keeps_first_bytes (sym w.is_io_error-is_last.ensures ∙ w.if-is_last.false) k.0 k.1 w.in_ok-walk-in-Err.ensures.keeps)
            )
      ];
    }

pub returns-in_err-walk-in-Ok-Some-clause-err : goal.returns-in_err-walk-in-Ok-Some-clause-err
returns-in_err-walk-in-Ok-Some-clause-err g c =
    let b = counted_bytes g.R.ReadBytes.source c.read_frame-read.new.input in
    let a = counted_bytes g.R.ReadBytes.source c.loop.input in
    let found = c.in-Ok-Some.is ∙ ap (λ (z : Option (DecodedFrame _)). Ok z) c.in-Ok-Some.field-0-is in
    let p = err_from_is_err_and c.from_residual.result c.from_residual.ensures.1 in
    rw (p.1, p.2) (frame_exceeds c.loop.invariant.so_far c.in-Ok-Some.frame b (frame_as (Some (stream_with c.args.info)) a b found c.read_frame-read.ensures.has_header) _ c.in_err-walk-in-Ok-Some.ensures.err)

pub returns-in-Ok-None-clause-ok : goal.returns-in-Ok-None-clause-ok
returns-in-Ok-None-clause-ok g c =
    let h = c.loop.invariant.so_far in
    let source = g.R.ReadBytes.source in
    let b = counted_bytes source c.read_frame-read.new.input in
    let bound : c.loop.counter + 1 < 2 ^ 64 = omega arith in
    let is = ap (decoder_answer frame_block) (c.in-Ok-None.is ∙ ap (λ (z : Option (DecodedFrame _)). Ok z) c.in-Ok-None.field-0-is) in
    let end = ap (λ (p : BytesRead). p.bytes) c.value-end.ensures in
    let small = rw end at c.at_end.ensures.end_fits in
    eof_found h _ b bound (read_as {b = b} is c.read_frame-read.ensures.is_read) (λ known. end ∙ at_eof source c.args.input.now c.loop.input c.read_frame-read.new.input is c.read_frame-read.ensures.is_read known (h.known known) (h.values known) small) c.at_end.ensures.ends_walk

pub returns-then-is_last-clause-ok : goal.returns-then-is_last-clause-ok
returns-then-is_last-clause-ok g c =
    let h = c.loop.invariant.so_far in
    let b = counted_bytes g.R.ReadBytes.source c.read_frame-read.new.input in
    let bound : c.loop.counter + 1 < 2 ^ 64 = omega arith in
    let byte = ap (λ (p : BytesRead). p.bytes) c.value-start.ensures in
    let small = rw byte at c.with_fault.ensures.fits in
    cut_found h (λ known front e. byte ∙ position_after g.R.ReadBytes.source c.args.input.now c.loop.input known (h.known known) (h.values known) small front e) c.in-Err.fault b bound (read_as {b = b} (ap (decoder_answer frame_block) c.in-Err.is) c.read_frame-read.ensures.is_read) c.in-Err.ensures.tells_of_32_bits
    (sym c.is_io_error-is_last.ensures ∙ c.if-is_last.true) c.in_ok-walk-in-Err.ensures.ok.1

pub returns-in-Ok-None-clause-few : goal.returns-in-Ok-None-clause-few
returns-in-Ok-None-clause-few g c = (end_more c.at_end.ensures.ends_walk ∙ c.loop.invariant.more, end_few c.at_end.ensures.ends_walk c.loop.invariant.few)

pub returns-then-is_last-clause-few : goal.returns-then-is_last-clause-few
returns-then-is_last-clause-few g c = (same_more c.in_ok-walk-in-Err.ensures.ok.1 ∙ c.loop.invariant.more, fault_few c.in_ok-walk-in-Err.ensures.ok.1 c.loop.invariant.few)

pub returns-in-Ok-None-clause-notes : goal.returns-in-Ok-None-clause-notes
returns-in-Ok-None-clause-notes g c =
    let h = c.loop.invariant.so_far in
    let source = g.R.ReadBytes.source in
    let b = counted_bytes source c.read_frame-read.new.input in
    let bound : c.loop.counter + 1 < 2 ^ 64 = omega arith in
    let is = ap (decoder_answer frame_block) (c.in-Ok-None.is ∙ ap (λ (z : Option (DecodedFrame _)). Ok z) c.in-Ok-None.field-0-is) in
    let byte = ap (λ (p : BytesRead). p.bytes) c.value-start.ensures in
    let end = ap (λ (p : BytesRead). p.bytes) c.value-end.ensures in
    let from = rw byte at c.at_end.ensures.start_fits in
    let small = rw end at c.at_end.ensures.end_fits in
    eof_noted h _ _ b bound (read_as {b = b} is c.read_frame-read.ensures.is_read) (λ known front e. byte ∙ position_after source c.args.input.now c.loop.input known (h.known known) (h.values known) from front e) (λ known. end ∙ at_eof source c.args.input.now c.loop.input c.read_frame-read.new.input is c.read_frame-read.ensures.is_read known (h.known known) (h.values known) small) c.at_end.ensures.ends_walk c.at_end.ensures.notes

pub returns-then-is_last-clause-notes : goal.returns-then-is_last-clause-notes
returns-then-is_last-clause-notes g c =
    let h = c.loop.invariant.so_far in
    let b = counted_bytes g.R.ReadBytes.source c.read_frame-read.new.input in
    let bound : c.loop.counter + 1 < 2 ^ 64 = omega arith in
    let byte = ap (λ (p : BytesRead). p.bytes) c.value-start.ensures in
    let small = rw byte at c.with_fault.ensures.fits in
    cut_noted h (λ known front e. byte ∙ position_after g.R.ReadBytes.source c.args.input.now c.loop.input known (h.known known) (h.values known) small front e) c.in-Err.fault b bound (read_as {b = b} (ap (decoder_answer frame_block) c.in-Err.is) c.read_frame-read.ensures.is_read) c.in-Err.ensures.tells_of_32_bits
    (sym c.is_io_error-is_last.ensures ∙ c.if-is_last.true) c.in_ok-walk-in-Err.ensures.ok.1 c.in_ok-walk-in-Err.ensures.notes

pub returns-in-Ok-None-clause-tail : goal.returns-in-Ok-None-clause-tail
returns-in-Ok-None-clause-tail g c =
    let h = c.loop.invariant.so_far in
    let source = g.R.ReadBytes.source in
    let b = counted_bytes source c.read_frame-read.new.input in
    let bound : c.loop.counter + 1 < 2 ^ 64 = omega arith in
    let is = ap (decoder_answer frame_block) (c.in-Ok-None.is ∙ ap (λ (z : Option (DecodedFrame _)). Ok z) c.in-Ok-None.field-0-is) in
    let start = ap (λ (p : BytesRead). p.bytes) c.value-start.ensures in
    let end = ap (λ (p : BytesRead). p.bytes) c.value-end.ensures in
    let last = ap (λ (p : BytesRead). p.last) c.value-last.ensures in
    let small = rw end at c.at_end.ensures.end_fits in
    let read = read_as {b = b} is c.read_frame-read.ensures.is_read in
    eof_to_tail h _ b bound read (λ known. end ∙ at_eof source c.args.input.now c.loop.input c.read_frame-read.new.input is c.read_frame-read.ensures.is_read known (h.known known) (h.values known) small) c.at_end.ensures.ends_walk
    (eof_tail source c.args.input.now c.loop.input c.read_frame-read.new.input c.loop.walk _ c.loop.invariant.tail h.known _ _ is c.read_frame-read.ensures.is_read (read.eof refl) start end c.at_end.ensures.start_fits c.at_end.ensures.end_fits last c.at_end.ensures.ends_walk c.at_end.ensures.keeps)

pub returns-then-is_last-clause-tail : goal.returns-then-is_last-clause-tail
returns-then-is_last-clause-tail g c =
    let h = c.loop.invariant.so_far in
    let source = g.R.ReadBytes.source in
    let b = counted_bytes source c.read_frame-read.new.input in
    let bound : c.loop.counter + 1 < 2 ^ 64 = omega arith in
    let byte = ap (λ (p : BytesRead). p.bytes) c.value-start.ensures in
    let small = rw byte at c.with_fault.ensures.fits in
    let fault = c.in-Err.fault in
    let read = read_as {b = b} (ap (decoder_answer frame_block) c.in-Err.is) c.read_frame-read.ensures.is_read in
    let io = sym c.is_io_error-is_last.ensures ∙ c.if-is_last.true in
    let ok = c.in_ok-walk-in-Err.ensures.ok in
    cut_to_tail h (λ known front e. byte ∙ position_after source c.args.input.now c.loop.input known (h.known known) (h.values known) small front e) fault b bound read c.in-Err.ensures.tells_of_32_bits io ok.1
    (cut_tail source c.args.input.now c.loop.input c.read_frame-read.new.input c.loop.walk _ c.loop.invariant.tail h.known (info_view c.args.info) (Some (stream_with c.args.info)) _ byte c.with_fault.ensures.fits fault io (failed_from h fault b read io) ok.1 c.in_ok-walk-in-Err.ensures.keeps)
