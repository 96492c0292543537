use Rattle.std.proofs.Common.{◌≡◌, ◌==◌, Bool, false, true, cond, [], arith, eq-eqb, inl, refl, subst, sym}
use Rattle.std.proofs.lemmas.Grind.{common_steps}
use Rattle.std.specs.Io.KnownBytes.{Appends}
use Rattle.std.proofs.KnownBytes.{Appends-nil}
use Rattle.std.proofs.lemmas.Bool.Decides.{nat_tests}
use Rattle.claxon_write.specs.CountingWriter.{CountsFlush, inner_contents}
use Rattle.claxon_write.specs.declared.counting_writer.CountingWriter.{CountingWriter}
use Rattle.claxon_write.proofs.Counts.{none_failed}
use Rattle.claxon_wav.specs.WaveFile.{pad}
use Rattle.claxon_wav.proofs.writer.WavWriter.finish_stream.Goals.{then-self+in_ok-pad, else-self}
use Rattle.claxon_wav.proofs.writer.WavWriter.finish_stream.Goals as goal

pub returns-clause-tries_to_end : goal.returns-clause-tries_to_end
returns-clause-tries_to_end g c =
    let contents = g.W.Write.contents in
    let old = c.args.self.now in
    let flushed = λ (z : CountingWriter g.row.W.Denot). CountsFlush z c.flush-flushed.new.self in
    elim c.if-self.branch [
      | then-self+in_ok-pad w ↦ (
          let output : c.if-self.self.output ≡ w.pad.new.self.output = rw w.self-is refl in
          let test : (old.written == old.announced) ≡ true = eq-eqb old.written old.announced w.if-self.true in
          inl (w.pad.new.self.output, subst (λ (b : Bool). Appends (inner_contents contents old.output) (inner_contents contents w.pad.new.self.output) (cond b (pad old.written) [])) (sym test) w.in_ok-pad.ensures.is_sound.0, w.in_ok-pad.ensures.is_sound.1, subst flushed output c.flush-flushed.ensures.counts_flush)
          )
      | else-self w ↦ (
          let output : c.if-self.self.output ≡ old.output = rw w.self-is refl in
          let test : (old.written == old.announced) ≡ false = let differ = w.if-self.false in grind (arith, nat_tests) in
          inl (old.output, subst (λ (b : Bool). Appends (inner_contents contents old.output) (inner_contents contents old.output) (cond b (pad old.written) [])) (sym test) (Appends-nil (inner_contents contents old.output)), none_failed old.output, subst flushed output c.flush-flushed.ensures.counts_flush)
          )
    ]

pub returns-clause-same_header : goal.returns-clause-same_header
returns-clause-same_header g c = grind (arith, common_steps)

pub returns-clause-flushes : goal.returns-clause-flushes
returns-clause-flushes g c = grind (arith, common_steps)
