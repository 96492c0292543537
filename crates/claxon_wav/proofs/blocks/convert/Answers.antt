use Rattle.std.proofs.Common.{Option, Some, ap, inr, subst, ℕ}
use Rattle.std.specs.Prelude.{Err, Result}
use Rattle.std.proofs.lemmas.Result.{err_from_is_err_and}
use Rattle.claxon.specs.BufferedReader.{buffered_source}
use Rattle.claxon.specs.Frame.{IsBitDepth, StreamFormat, known_bit_depth}
use Rattle.claxon.specs.FrameReader.{stream_with}
use Rattle.claxon.specs.Opening.{flac_bytes}
use Rattle.claxon.specs.State.{State, bytes_in}
use Rattle.claxon.specs.StreamInfos.{StreamInfo}
use Rattle.claxon_wav.specs.Convert.{PutOutOfMemoryForLargerBlock, PutsAndHashes, StopsPutting, flac_bit_depth}
use Rattle.claxon_wav.specs.Writer.{TriesToEnd}
use Rattle.claxon_wav.specs.declared.error.Error.{Error}
use Rattle.claxon_write.specs.WriteSamples.{flac_stream}
use Rattle.claxon_wav.proofs.Converting.{converted, end_complete, end_explained, end_has_memory, ended_after_all, not_eof, shown_as, stop_complete, stop_explained, stop_named}
use Rattle.claxon_wav.proofs.blocks.convert.Given.{Over}
use Rattle.claxon_wav.proofs.blocks.convert.Goals as goal

-- all blocks were written
all_put : (g : Over) (c : goal.In_ok-outcome g) → PutsAndHashes g.W.Write.contents (flac_stream c.args.flac.now) (flac_bit_depth c.args.flac.now) (flac_bytes g.R.Read.remaining c.args.flac.now) (bytes_in (buffered_source g.R.Read.remaining) c.put_blocks-outcome.new.input) c.args.wav.now c.put_blocks-outcome.new.wav c.args.md5.now c.put_blocks-outcome.new.md5
all_put g c =
    let source = buffered_source g.R.Read.remaining in
    let bit_depth = ap (λ (i : StreamInfo). i.bits_per_sample) c.streaminfo-info.ensures.value in
    let puts = shown_as source (λ (s : Option StreamFormat) (a : State _). PutsAndHashes g.W.Write.contents s c.streaminfo-info.result.bits_per_sample a (bytes_in source c.put_blocks-outcome.new.input) c.args.wav.now c.put_blocks-outcome.new.wav c.args.md5.now c.put_blocks-outcome.new.md5) c.streaminfo-info.ensures.value c.input.ensures.input c.in_ok-outcome.ensures.is_sound in
    subst (λ (n : ℕ). PutsAndHashes g.W.Write.contents (flac_stream c.args.flac.now) n (flac_bytes g.R.Read.remaining c.args.flac.now) (bytes_in source c.put_blocks-outcome.new.input) c.args.wav.now c.put_blocks-outcome.new.wav c.args.md5.now c.put_blocks-outcome.new.md5) bit_depth puts

-- or not all
stopped : (g : Over) (c : goal.After-from_residual g) → StopsPutting g.W.Write.contents (flac_stream c.args.flac.now) c.in_err-outcome.field-0.0 (flac_bytes g.R.Read.remaining c.args.flac.now) (bytes_in (buffered_source g.R.Read.remaining) c.put_blocks-outcome.new.input) c.args.wav.now c.put_blocks-outcome.new.wav
stopped g c =
    let source = buffered_source g.R.Read.remaining in
    shown_as source (λ (s : Option StreamFormat) (a : State _). StopsPutting g.W.Write.contents s c.in_err-outcome.field-0.0 a (bytes_in source c.put_blocks-outcome.new.input) c.args.wav.now c.put_blocks-outcome.new.wav) c.streaminfo-info.ensures.value c.input.ensures.input c.in_err-outcome.ensures.fault_is_sound

pub returns-clause-is_sound : goal.returns-clause-is_sound
returns-clause-is_sound g c = converted g.W.Seek.stream_position c.finish-finished.new.self c.finish-finished.result (all_put g c) c.finish-finished.ensures.is_sound c.finish-finished.ensures.flushes

pub returns-clause-fault_is_sound : goal.returns-clause-fault_is_sound
returns-clause-fault_is_sound g c = end_explained (flac_stream c.args.flac.now) (flac_bytes g.R.Read.remaining c.args.flac.now) (bytes_in (buffered_source g.R.Read.remaining) c.put_blocks-outcome.new.input) c.args.wav.now c.put_blocks-outcome.new.wav c.finish-finished.new.self c.finish-finished.result (all_put g c).put.puts.none_failed c.finish-finished.ensures.fault_is_sound

pub returns-clause-is_complete : goal.returns-clause-is_complete
returns-clause-is_complete g c can = end_complete (flac_bytes g.R.Read.remaining c.args.flac.now) (bytes_in (buffered_source g.R.Read.remaining) c.put_blocks-outcome.new.input) c.args.wav.now c.put_blocks-outcome.new.wav c.finish-finished.new.self c.finish-finished.result (all_put g c).put.puts.none_failed c.finish-finished.ensures.fault_is_sound

pub returns-clause-fault_is_complete : goal.returns-clause-fault_is_complete
returns-clause-fault_is_complete g c f can =
    let bounds = c.streaminfo-info.ensures.has_bounds in
    let bit_depth : IsBitDepth (known_bit_depth (flac_stream c.args.flac.now)) = subst (λ (i : StreamInfo). IsBitDepth (known_bit_depth (Some (stream_with i)))) c.streaminfo-info.ensures.value (bounds.some_bits, bounds.bits) in
    absurd (not_eof (flac_stream c.args.flac.now) bit_depth f (all_put g c).put can)

pub returns-in_err-outcome-clause-fault_is_sound : goal.returns-in_err-outcome-clause-fault_is_sound
returns-in_err-outcome-clause-fault_is_sound g c =
    let p = err_from_is_err_and c.from_residual.result c.from_residual.ensures.1 in
    rw (p.1, p.2) (stop_explained c.finish-finished.new.self c.in_err-outcome.field-0.0 (stopped g c) c.finish-finished.ensures.few_writes_failed)

pub returns-in_err-outcome-clause-is_complete : goal.returns-in_err-outcome-clause-is_complete
returns-in_err-outcome-clause-is_complete g c =
    let bounds = c.streaminfo-info.ensures.has_bounds in
    let bit_depth : IsBitDepth (known_bit_depth (flac_stream c.args.flac.now)) = subst (λ (i : StreamInfo). IsBitDepth (known_bit_depth (Some (stream_with i)))) c.streaminfo-info.ensures.value (bounds.some_bits, bounds.bits) in
    let p = err_from_is_err_and c.from_residual.result c.from_residual.ensures.1 in
    rw (p.1, p.2) (λ can. inr (stop_complete (flac_stream c.args.flac.now) bit_depth c.finish-finished.new.self c.finish-finished.ensures.few_writes_failed c.in_err-outcome.field-0.0 (stopped g c) can))

pub returns-in_err-outcome-clause-fault_is_complete : goal.returns-in_err-outcome-clause-fault_is_complete
returns-in_err-outcome-clause-fault_is_complete g c =
    let bounds = c.streaminfo-info.ensures.has_bounds in
    let bit_depth : IsBitDepth (known_bit_depth (flac_stream c.args.flac.now)) = subst (λ (i : StreamInfo). IsBitDepth (known_bit_depth (Some (stream_with i)))) c.streaminfo-info.ensures.value (bounds.some_bits, bounds.bits) in
    let p = err_from_is_err_and c.from_residual.result c.from_residual.ensures.1 in
    rw (p.1, p.2) (λ f can. stop_named (flac_stream c.args.flac.now) bit_depth c.finish-finished.new.self c.finish-finished.ensures.few_writes_failed f c.in_err-outcome.field-0.0 (stopped g c) can)

pub returns-clause-out_of_memory_for_larger_block : goal.returns-clause-out_of_memory_for_larger_block
returns-clause-out_of_memory_for_larger_block g c = λ m. absurd (end_has_memory c.put_blocks-outcome.new.wav c.finish-finished.new.self c.finish-finished.result c.finish-finished.ensures.fault_is_sound m)

pub returns-in_err-outcome-clause-out_of_memory_for_larger_block : goal.returns-in_err-outcome-clause-out_of_memory_for_larger_block
returns-in_err-outcome-clause-out_of_memory_for_larger_block g c =
    let source = buffered_source g.R.Read.remaining in
    let p = err_from_is_err_and c.from_residual.result c.from_residual.ensures.1 in
    let memory = shown_as source (λ (s : Option StreamFormat) (a : State _). PutOutOfMemoryForLargerBlock s (let r : Result (Unit {0}) Error = Err c.in_err-outcome.field-0.0 in r) a (bytes_in source c.put_blocks-outcome.new.input)) c.streaminfo-info.ensures.value c.input.ensures.input c.in_err-outcome.ensures.out_of_memory_for_larger_block in
    rw (p.1, p.2) memory

pub returns-clause-fault_finishes : goal.returns-clause-fault_finishes
returns-clause-fault_finishes g c = ended_after_all g.W.Write.contents (TriesToEnd g.W.Write.contents) (flac_stream c.args.flac.now) (flac_bytes g.R.Read.remaining c.args.flac.now) (bytes_in (buffered_source g.R.Read.remaining) c.put_blocks-outcome.new.input) c.args.wav.now c.put_blocks-outcome.new.wav c.finish-finished.new.self c.finish-finished.result (all_put g c).put c.finish-finished.ensures.tries_to_end

pub returns-in_err-outcome-clause-fault_finishes : goal.returns-in_err-outcome-clause-fault_finishes
returns-in_err-outcome-clause-fault_finishes g c =
    let p = err_from_is_err_and c.from_residual.result c.from_residual.ensures.1 in
    rw (p.1, p.2) (c.put_blocks-outcome.new.wav, c.finish-finished.ensures.tries_to_end, inr (stopped g c))
