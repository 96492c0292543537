use Rattle.std.specs.Prelude.{length}
use Rattle.claxon_wav.specs.Writer.{SameHeader, SameOutput}
use Rattle.claxon_rescue.proofs.Waited.{Flushed}
use Rattle.claxon_rescue.specs.Waiting.{waiting_frames}
use Rattle.claxon_rescue.proofs.parts.Rescue.put_waiting.Given as goal

abbrev pub invariant-loop-there : goal.invariant-loop-there
invariant-loop-there g l = record {
  so_far : Flushed g.W.Write.contents l.rules l.fn.self l.self l.fn.wav l.wav;
  reference : SameOutput l.fn.wav l.wav;
  header : SameHeader l.fn.wav l.wav;
}

abbrev pub decreases-loop-there : goal.decreases-loop-there
decreases-loop-there g l = length (waiting_frames l.self.waiting)
