use Rattle.std.proofs.Common.{◌∙◌, Option, ap, arith, refl, subst, vec_capacity}
use Rattle.std.specs.Prelude.{Err, Ok, Result}
use Rattle.std.proofs.lemmas.Result.{err_from_is_err_and}
use Rattle.claxon.specs.Block.{BlockValue}
use Rattle.claxon.specs.Errors.{Error as Cause}
use Rattle.claxon.specs.FrameReader.{BlockHasSamples, BlockKeepsCapacity, FrameAnswer}
use Rattle.claxon.specs.State.{bytes_in}
use Rattle.claxon.proofs.SamplesInTurn.{reads_as}
use Rattle.claxon_blocks.specs.Frames.{TellsOf32Bits, answer_of}
use Rattle.claxon_blocks.specs.declared.frames.FrameError.{FrameError}
use Rattle.claxon_wav.proofs.BlockMemory.{memory_of, room_more, room_none, stops_at_header, stops_at_room}
use Rattle.claxon_wav.proofs.Converting.{block_takes, hashed_all, hashed_more, hashed_none, stops_at_block, stops_at_fault}
use Rattle.claxon_command_line.proofs.Showing.{shown_quietly, shown_total_same}
use Rattle.claxon_wav.proofs.blocks.put_blocks.Goals as goal

pub loop-block-init : goal.loop-block-init
loop-block-init g c = record { reference = refl; so_far = hashed_none c.args.info.bits_per_sample (bytes_in g.R.ReadBytes.source c.args.input.now) c.args.wav.now c.args.md5.now; memory = room_none (vec_capacity c.new-buffer.result) (bytes_in g.R.ReadBytes.source c.args.input.now) c.args.wav.now; errors = refl; quiet = λ none. (refl, refl); shown = refl }

pub loop-block-preserved : goal.loop-block-preserved
loop-block-preserved g c =
    let v = c.loop-block.invariant in
    let p = c.in_ok-put_block.ensures in
    let is = ap answer_of (c.in_ok-block.was ∙ ap (λ (z : Option BlockValue). Ok z) c.in-Some.is) in
    let kept = subst (λ (r : FrameAnswer). BlockKeepsCapacity (vec_capacity c.loop-block.buffer) r) is c.read_block.ensures.keeps_capacity in
    record {
      reference = p.same_output ∙ v.reference;
      so_far = hashed_more c.in-Some.block v.so_far (reads_as is c.read_block.ensures.is_read) p.is_sound p.fits p.same_header p.unflushed c.hash.ensures.hashes_too;
      memory = room_more c.in-Some.block v.memory (reads_as is c.read_block.ensures.is_read) (rw c.into_buffer-buffer.ensures.capacity kept) p.keeps_room p.takes_room;
      errors = c.show.ensures.same_errors ∙ v.errors;
      quiet = shown_quietly c.args.progress.now c.loop-block.progress c.show.new.self _ v.quiet v.shown c.show.ensures.shows_percentage c.show.ensures.writes_only_changes;
      shown = shown_total_same c.loop-block.progress c.show.new.self _ c.show.ensures.shows_percentage ∙ v.shown;
    }

pub loop-block-smaller : goal.loop-block-smaller
loop-block-smaller g c =
    let is = ap answer_of (c.in_ok-block.was ∙ ap (λ (z : Option BlockValue). Ok z) c.in-Some.is) in
    let some = subst (λ (r : FrameAnswer). BlockHasSamples r) is c.read_block.ensures.has_samples in
    let layout = c.loop-block.wav.layout in
    let takes = block_takes layout.valid_bits c.in-Some.block layout.some_bits some.0 some.1 in
    omega (arith, takes, c.in_ok-put_block.ensures.is_sound.written_is, c.put_block.new.self.written_fits)

pub returns-in_err-block-clause-fault_is_sound : goal.returns-in_err-block-clause-fault_is_sound
returns-in_err-block-clause-fault_is_sound g c =
    let v = c.loop-block.invariant in
    let cause = c.in_err-block.field-0.0 in
    let a = bytes_in g.R.ReadBytes.source c.loop-block.input in
    let reads = reads_as (ap answer_of c.in_err-block.was) c.read_block.ensures.is_read in
    let tells = subst (λ (r : Result (Option BlockValue) FrameError). TellsOf32Bits r a) c.in_err-block.was c.read_block.ensures.tells_of_32_bits in
    let p = err_from_is_err_and c.from_residual.result c.from_residual.ensures.1 in
    rw p.1 (stops_at_fault cause p.0 v.so_far.put reads tells p.2)

pub returns-in_err-put_block-clause-fault_is_sound : goal.returns-in_err-put_block-clause-fault_is_sound
returns-in_err-put_block-clause-fault_is_sound g c =
    let v = c.loop-block.invariant in
    let b = c.in_err-put_block.ensures in
    let is = ap answer_of (c.in_ok-block.was ∙ ap (λ (z : Option BlockValue). Ok z) c.in-Some.is) in
    let p = err_from_is_err_and c.from_residual-in_err-put_block.result c.from_residual-in_err-put_block.ensures.1 in
    rw (p.1, p.2) (stops_at_block c.in-Some.block v.so_far.put (reads_as is c.read_block.ensures.is_read) b.fault_is_sound b.fault_keeps.1)

pub returns-in_err-block-clause-out_of_memory_for_larger_block : goal.returns-in_err-block-clause-out_of_memory_for_larger_block
returns-in_err-block-clause-out_of_memory_for_larger_block g c =
    let p = err_from_is_err_and c.from_residual.result c.from_residual.ensures.1 in
    rw p.1 (λ m. stops_at_header c.loop-block.invariant.memory c.read_block.ensures.out_of_memory_after_header (ap answer_of c.in_err-block.was ∙ ap (λ (e : Cause). Err e) (memory_of c.in_err-block.field-0.0 p.0 p.2 m)))

pub returns-in_err-put_block-clause-out_of_memory_for_larger_block : goal.returns-in_err-put_block-clause-out_of_memory_for_larger_block
returns-in_err-put_block-clause-out_of_memory_for_larger_block g c =
    let is = ap answer_of (c.in_ok-block.was ∙ ap (λ (z : Option BlockValue). Ok z) c.in-Some.is) in
    let p = err_from_is_err_and c.from_residual-in_err-put_block.result c.from_residual-in_err-put_block.ensures.1 in
    rw (p.1, p.2) (λ m. stops_at_room c.in-Some.block c.loop-block.invariant.memory (reads_as is c.read_block.ensures.is_read) (c.in_err-put_block.ensures.has_memory m))

pub returns-clause-is_sound : goal.returns-clause-is_sound
returns-clause-is_sound g c =
    let is = ap answer_of (c.in_ok-block.was ∙ ap (λ (z : Option BlockValue). Ok z) c.in_default.is) in
    hashed_all c.loop-block.invariant.so_far (reads_as is c.read_block.ensures.is_read)
