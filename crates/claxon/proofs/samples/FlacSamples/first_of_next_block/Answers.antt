use Rattle.std.proofs.Common.{Ok, Err, Some, None, refl, sym, subst, ◌∙◌, rules, w32}
use Rattle.std.proofs.lemmas.Int.{to_z-of_z}
use Rattle.claxon_input.specs.State.{bytes_in}
use Rattle.claxon_frame.specs.FrameReader.{frame_input, ReadsFrame}
use Rattle.claxon.specs.FlacSamples.{samples_left, samples_stream, samples_bytes}
use Rattle.claxon_frame.specs.declared.frame.FrameReader.{FrameReader}
use Rattle.claxon.proofs.samples.FlacSamples.first_of_next_block.Goals as goal

pub returns-then-more-clause-next_block : goal.returns-then-more-clause-next_block
returns-then-more-clause-next_block g c =
    let mid = c.read_block.new.self in
    let read = rw c.if-more.true at c.in-Ok.ensures.is_read in
    let capacity = rw c.if-more.true at c.in-Ok.ensures.keeps_capacity in
    let same = to_z-of_z w32 c.give.result (record { sfits = c.give.type_inv }) in
    rw same (record {
      found = Ok (Some mid.block);
      reads =
          subst (λ (f : FrameReader g.row.R.Denot). ReadsFrame (samples_stream c.args.self.now) (Ok (Some mid.block)) (samples_bytes g.R.ReadBytes.source c.args.self.now) (bytes_in g.R.ReadBytes.source (frame_input f)))
          (sym c.give.ensures.stream) read;
      memory = λ out_of_memory. absurd cc;
      enough = λ out_of_memory. absurd cc;
      capacity = capacity;
      answer =
          (c.give.result, samples_left c.give.new.self, sym (c.in-Ok.ensures.left c.if-more.true) ∙ c.give.ensures.sample, record { is = refl; left_are = refl; goes_on = c.give.ensures.has_failed ∙ c.in-Ok.ensures.has_failed ∙ c.requires }, c.give.ensures.capacity);
    })

pub returns-else-more-clause-next_block : goal.returns-else-more-clause-next_block
returns-else-more-clause-next_block g c =
    record {
      found = Ok None;
      reads = rw c.if-more.false at c.in-Ok.ensures.is_read;
      answer = (refl, c.in-Ok.ensures.none_left c.if-more.false, search rules);
      memory = λ out_of_memory. absurd cc;
      enough = λ out_of_memory. absurd cc;
      capacity = rw c.if-more.false at c.in-Ok.ensures.keeps_capacity;
    }

pub returns-in-Err-clause-next_block : goal.returns-in-Err-clause-next_block
returns-in-Err-clause-next_block g c = record { found = Err c.in-Err.error; reads = c.in-Err.ensures.is_read; answer = (refl, refl); memory = c.in-Err.ensures.out_of_memory_for_larger_block; enough = c.in-Err.ensures.max_capacity_is_enough; capacity = tt }
