use Rattle.std.proofs.Common.{Ok, Some, ℤ, sym, ap, ◌∙◌, w32, arith}
use Rattle.std.proofs.lemmas.Int.{to_z-of_z}
use Rattle.claxon_input.specs.State.{bytes_in}
use Rattle.claxon_frame.specs.FrameReader.{frame_input, frame_stream}
use Rattle.claxon_frame.specs.declared.frame.FrameReader.{FrameReader}
use Rattle.claxon.proofs.SamplesInTurn.{none_left, first_same, none_some}
use Rattle.claxon.proofs.samples.FlacSamples.next_sample.Goals as goal

pub returns-then-self-duration : goal.returns-then-self-duration
returns-then-self-duration g c = record {
  next_sample =
      let same = to_z-of_z w32 c.give.result (record { sfits = c.give.type_inv }) in
      rw same (record {
        stream = ap (λ (f : FrameReader g.row.R.Denot). frame_stream f) c.give.ensures.stream;
        from_block = λ x left e.
            let both = first_same (sym c.give.ensures.sample ∙ e) in
            (record { is = ap (λ (z : ℤ). Some (Ok z)) both.0; left_are = both.1; goes_on = c.give.ensures.has_failed ∙ c.requires }, ap (λ (f : FrameReader g.row.R.Denot). bytes_in g.R.ReadBytes.source (frame_input f)) c.give.ensures.stream, c.give.ensures.capacity);
        from_next_block = λ e. absurd (none_some (sym e ∙ c.give.ensures.sample));
      });
}

pub returns : goal.returns
returns g c = record {
  next_sample =
      let s = c.args.self.now in
      record {
        stream = c.first_of_next_block.ensures.stream;
        from_block = λ x left e. absurd (none_some (sym (none_left s.block.channels s.sample s.channel (omega (arith, c.if-self-duration.false, c.duration.ensures.value))) ∙ e));
        from_next_block = λ e. c.first_of_next_block.ensures.next_block;
      };
}
