use Rattle.std.proofs.Common.{◌≡◌, ◌<◌, ◌++◌, take, drop, length, rules, arith, sym}
use Rattle.std.specs.Prelude.{Ok, Err, vec_capacity}
use Rattle.std.proofs.lemmas.Result.{err_from_is_err_and}
use Rattle.std.proofs.lemmas.Grind.{common_steps}
use Rattle.claxon_input.specs.CrcUpdate.{update_crc16}
use Rattle.claxon_input.specs.RunningReader.{running_value}
use Rattle.claxon_input.specs.State.{bytes_in}
use Rattle.claxon_input.proofs.ConsecutiveCalls.{exit, gives_never_out_of_memory}
use Rattle.claxon_frame.specs.FrameReader.{block_view}
use Rattle.claxon_frame.specs.StartedFrame.{RestAnswer, rest_at, started_view}
use Rattle.claxon_frame.specs.Subframes.{sample_count}
use Rattle.claxon_frame.proofs.FrameCrcOverBorrow.{out_of_memory_through, rest_through}
use Rattle.claxon_frame.proofs.FrameSteps.{channel_count_is, footer_stops, memory_refused, rest_consumes, subframes_stop, too_small}
use Rattle.claxon_frame.proofs.frame.read_rest_exact.Goals as goal

pub returns-in_err-buffer-clause-gives : goal.returns-in_err-buffer-clause-gives
returns-in_err-buffer-clause-gives g c =
    let read = rest_at (started_view c.args.started) in
    let p = err_from_is_err_and c.from_residual.result c.from_residual.ensures.1 in
    let h = memory_refused block_view read _ p c.in_err-buffer.ensures.refused in
    let k = rest_through g.R.ReadBytes.source update_crc16 c.args.input.now _ _ c.resume-input.result c.resume-input.result c.resume-input.ensures.source block_view c.from_residual.result read h in
    search (rules, k.0, k.1)

pub returns-in_err-buffer-clause-too_small : goal.returns-in_err-buffer-clause-too_small
returns-in_err-buffer-clause-too_small g c =
    let started = started_view c.args.started in
    let read = rest_at started in
    let p = err_from_is_err_and c.from_residual.result c.from_residual.ensures.1 in
    let h = memory_refused block_view read _ p c.in_err-buffer.ensures.refused in
    let same = (rest_through g.R.ReadBytes.source update_crc16 c.args.input.now _ _ c.resume-input.result c.resume-input.result c.resume-input.ensures.source block_view c.from_residual.result read h).0 in
    let header = c.args.started.header in
    let few : vec_capacity c.args.buffer < sample_count header = search rules in
    let small = too_small started _ _ _ (sym (channel_count_is header.channel_assignment header.min_channels header.max_channels)) few in
    let r : RestAnswer = Err c.in_err-buffer.field-0.0 in
    let k = out_of_memory_through g.R.ReadBytes.source update_crc16 c.args.input.now _ _ c.resume-input.result c.resume-input.result c.resume-input.ensures.source started _ r (λ m. small) in
    rw (p.1, p.2) (search (rules, same, k))

pub returns-in_err-buffer-clause-max_capacity : goal.returns-in_err-buffer-clause-max_capacity
returns-in_err-buffer-clause-max_capacity g c = grind (arith, common_steps)

pub returns-in_err-decode_subframes-clause-gives : goal.returns-in_err-decode_subframes-clause-gives
returns-in_err-decode_subframes-clause-gives g c =
    let started = started_view c.args.started in
    let read = rest_at started in
    let p = err_from_is_err_and c.from_residual-in_err-decode_subframes.result c.from_residual-in_err-decode_subframes.ensures.1 in
    let r = c.from_residual-in_err-decode_subframes.result in
    let h = gives_never_out_of_memory block_view r read _ _ (exit block_view p (subframes_stop started c.in_err-decode_subframes.ensures.are_read)) in
    let k = rest_through g.R.ReadBytes.source update_crc16 c.args.input.now _ _ c.resume-input.result c.decode_subframes.new.input c.resume-input.ensures.source block_view r read h in
    search (rules, k.0, k.1)

pub returns-in_err-check_footer-clause-gives : goal.returns-in_err-check_footer-clause-gives
unfolding bytes_in
returns-in_err-check_footer-clause-gives g c =
    let started = started_view c.args.started in
    let read = rest_at started in
    let p = err_from_is_err_and c.from_residual-in_err-check_footer.result c.from_residual-in_err-check_footer.ensures.1 in
    let r = c.from_residual-in_err-check_footer.result in
    let same : running_value c.resume-input.result ≡ c.args.started.crc = search rules in
    let low : c.args.started.crc < 65536 = search rules in
    let h = gives_never_out_of_memory block_view r read _ _ (exit block_view p (footer_stops started _ _ _ _ _ same (rw same low) c.check_footer.ensures.fits c.in_ok-decode_subframes.ensures.are_read c.in_err-check_footer.ensures.gives)) in
    let k = rest_through g.R.ReadBytes.source update_crc16 c.args.input.now _ _ c.resume-input.result c.check_footer.new.input c.resume-input.ensures.source block_view r read h in
    search (rules, k.0, k.1)

pub returns-clause-gives : goal.returns-clause-gives
unfolding bytes_in
returns-clause-gives g c =
    let started = started_view c.args.started in
    let read = rest_at started in
    let same : running_value c.resume-input.result ≡ c.args.started.crc = search rules in
    let low : c.args.started.crc < 65536 = search rules in
    let whole = rest_consumes started _ _ _ _ _ same (rw same low) c.check_footer.ensures.fits c.in_ok-decode_subframes.ensures.are_read c.in_ok-check_footer.ensures.gives in
    let r : RestAnswer = Ok c.to_block.result in
    let vec = c.in_ok-buffer.buffer in
    let samples = c.decode_subframes.new.buffer in
    let filled : take vec.len (samples ++ drop (length samples) vec.items) ≡ samples = grind (arith, common_steps) in
    let k = rest_through g.R.ReadBytes.source update_crc16 c.args.input.now _ _ c.resume-input.result c.check_footer.new.input c.resume-input.ensures.source block_view r read (rw (c.to_block.ensures.value, filled) whole) in
    search (rules, k.0, k.1)
