use Rattle.std.proofs.Common.{◌≡◌}
use Rattle.claxon_command_line.specs.Progress.{SameErrors, StaysQuiet, shown_total}
use Rattle.claxon_wav.specs.Writer.{SameHeader, SameOutput}
use Rattle.claxon_rescue.proofs.RescuedParts.{SoFar}
use Rattle.claxon_rescue.proofs.parts.Rescue.put_parts.Given as goal

abbrev pub invariant-loop : goal.invariant-loop
invariant-loop g l = record {
  reference : SameOutput l.fn.wav l.wav;
  so_far : SoFar g.R.ReadBytes.source g.W.Write.contents l.rules l.start l.fn.parts l.parts l.fn.wav l.wav l.fn.self l.self l.end l.counter;
  header : SameHeader l.fn.wav l.wav;
  errors : SameErrors l.fn.progress l.progress;
  quiet : StaysQuiet l.fn.progress l.progress;
  shown : shown_total l.progress ≡ shown_total l.fn.progress;
}
