use Rattle.std.proofs.Common.{◌≡◌, ℕ, length, Option, None, refl, rules, subst, sym, vec_capacity}
use Rattle.std.specs.Prelude.{IsTrue, Ok, Err, Some, Result, ◌↔◌}
use Rattle.claxon.specs.DecodedFrame.{DecodedAnswer, frame_answer}
use Rattle.claxon.specs.DecodedFrames.{DecodedFrame}
use Rattle.claxon.specs.RunningReader.{running_inner}
use Rattle.claxon.specs.Error.{IsFault}
use Rattle.claxon.specs.Fault.{BitDepthReserved, Fault}
use Rattle.claxon.specs.FrameReader.{BlockHasSamples, BlockKeepsCapacity, stream_with}
use Rattle.claxon.specs.SampleRuns.{lent}
use Rattle.claxon.specs.State.{RemainingIsKnown, bytes_in}
use Rattle.claxon.proofs.SamplesInTurn.{reads_as}
use Rattle.claxon_blocks.specs.FirstBytes.{AreFirst, update_first}
use Rattle.claxon_blocks.specs.Frames.{FourSay32Bits, decoder_answer, frame_block}
use Rattle.claxon_blocks.specs.declared.frames.FrameError.{FrameError}
use Rattle.claxon_blocks.specs.declared.frames.first_bytes.FirstBytes.{FirstBytes}
use Rattle.claxon_blocks.proofs.FirstBytes.{fault_keeps, tells}
use Rattle.claxon_blocks.proofs.ReadsBelow.{first_below, memory_below, reads_below, same_reference, sound_below, tells_below}
use Rattle.claxon_blocks.proofs.frames.read_frame.Goals as goal

-- the decoder's answer where none is an Err
same_answer : {A : Type 0} (found : Option (DecodedFrame A)) → (let r : DecodedAnswer A = Ok found in frame_answer r) ≡ decoder_answer frame_block (Ok found)
same_answer None = refl
same_answer (Some frame) = refl

pub returns-in-Ok-clause-is_read : goal.returns-in-Ok-clause-is_read
returns-in-Ok-clause-is_read g c =
    let read = c.read_from-found in
    let n = same_reference g.R.ReadBytes.source update_first _ c.new-input.result read.new.input c.new-input.ensures.inner read.ensures.reads_frame in
    let k = reads_as (same_answer c.in-Ok.frame) (reads_below g.R.ReadBytes.source update_first _ c.new-input.result read.new.input c.new-input.ensures.inner c.in-Ok.ensures.reads_frame) in
    search rules

pub returns-in-Ok-clause-has_header : goal.returns-in-Ok-clause-has_header
unfolding bytes_in
returns-in-Ok-clause-has_header g c =
    let read = c.read_from-found in
    let source = g.R.ReadBytes.source in
    let stream = Some (stream_with c.args.info) in
    let n = same_reference source update_first _ c.new-input.result read.new.input c.new-input.ensures.inner read.ensures.reads_frame in
    let k = sound_below source update_first _ c.new-input.result read.new.input c.new-input.ensures.inner stream (Ok c.in-Ok.frame) c.in-Ok.ensures.is_sound in
    search rules

pub returns-in-Ok-clause-has_samples : goal.returns-in-Ok-clause-has_samples
returns-in-Ok-clause-has_samples g c = subst BlockHasSamples (same_answer c.in-Ok.frame) c.in-Ok.ensures.has_samples

pub returns-in-Ok-clause-keeps_capacity : goal.returns-in-Ok-clause-keeps_capacity
returns-in-Ok-clause-keeps_capacity g c = subst (BlockKeepsCapacity (vec_capacity c.args.buffer)) (same_answer c.in-Ok.frame) c.in-Ok.ensures.keeps_capacity

pub returns-in-Err-clause-out_of_memory_after_header : goal.returns-in-Err-clause-out_of_memory_after_header
returns-in-Err-clause-out_of_memory_after_header g c =
    let read = c.read_from-found in
    let source = g.R.ReadBytes.source in
    let n = same_reference source update_first _ c.new-input.result read.new.input c.new-input.ensures.inner read.ensures.reads_frame in
    let k = memory_below source update_first _ c.new-input.result read.new.input c.new-input.ensures.inner (Some (stream_with c.args.info)) (vec_capacity c.args.buffer) (Err c.in-Err.error) c.in-Err.ensures.out_of_memory_after_header in
    search rules

pub returns-in-Err-clause-is_read : goal.returns-in-Err-clause-is_read
returns-in-Err-clause-is_read g c =
    let read = c.read_from-found in
    let n = same_reference g.R.ReadBytes.source update_first _ c.new-input.result read.new.input c.new-input.ensures.inner read.ensures.reads_frame in
    let k = reads_below g.R.ReadBytes.source update_first _ c.new-input.result read.new.input c.new-input.ensures.inner c.in-Err.ensures.reads_frame in
    search rules

pub returns-in-Err-clause-tells_of_32_bits : goal.returns-in-Err-clause-tells_of_32_bits
returns-in-Err-clause-tells_of_32_bits g c =
    let read = c.read_from-found in
    let error = c.in-Err.error in
    let is_32_bit = c.is_32_bit_fault-is_32_bit.result in
    let first = c.value-first.result in
    let known : length first.bytes ≡ 16 = search rules in
    let size = subst (λ (s : FirstBytes). length s.bytes ≡ 16) c.value-first.ensures known in
    let said = subst (λ (s : FirstBytes). IsTrue is_32_bit ↔ (IsFault BitDepthReserved error × FourSay32Bits s)) c.value-first.ensures c.is_32_bit_fault-is_32_bit.ensures.is_of_32_bits in
    let answer : Result (Option ℕ) FrameError = Err (record { error = error; is_32_bit = is_32_bit; first = first }) in
    tells_below g.R.ReadBytes.source update_first _ c.new-input.result c.new-input.ensures.inner answer
    (tells (lent g.R.ReadBytes.source) c.new-input.result read.new.input size error c.new-input.ensures.state c.in-Err.ensures.reads_frame is_32_bit said)

pub returns-in-Err-clause-keeps_first_bytes : goal.returns-in-Err-clause-keeps_first_bytes
returns-in-Err-clause-keeps_first_bytes g c = λ f is before.
    let read = c.read_from-found in
    let x = c.new-input.result in
    let y = read.new.input in
    let source = g.R.ReadBytes.source in
    let error = c.in-Err.error in
    let first = c.value-first.result in
    let n = same_reference source update_first _ x y c.new-input.ensures.inner read.ensures.reads_frame in
    let known : length first.bytes ≡ 16 = search rules in
    let size = subst (λ (s : FirstBytes). length s.bytes ≡ 16) c.value-first.ensures known in
    let keeps = fault_keeps (lent source) x y size error c.new-input.ensures.state c.in-Err.ensures.reads_frame in
    let below = first_below source update_first _ x y c.new-input.ensures.inner _ (λ f. IsFault f error) keeps in
    let k = subst (λ (s : FirstBytes). (f : Fault) → IsFault f error → RemainingIsKnown (bytes_in source c.args.input.now) → AreFirst s (bytes_in source c.args.input.now).remaining (bytes_in source (running_inner y).now).remaining) (sym c.value-first.ensures) below in
    let are : AreFirst first (bytes_in source c.args.input.now).remaining (bytes_in source (running_inner y).now).remaining = k f is before in
    search rules
