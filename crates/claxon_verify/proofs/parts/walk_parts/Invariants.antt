use Rattle.std.proofs.Common.{◌≡◌, ◌≤◌, ℕ, List, length}
use Rattle.claxon_command_line.specs.Progress.{StaysQuiet, shown_total}
use Rattle.claxon_recovery.specs.Parts.{parts_source}
use Rattle.claxon_recovery.specs.Window.{Reads}
use Rattle.claxon_verify.proofs.PartsTrailed.{TailSoFar}
use Rattle.claxon_verify.proofs.PartsWalked.{PartsSoFar}
use Rattle.claxon_verify.proofs.parts.walk_parts.Given as goal

abbrev pub invariant-loop : goal.invariant-loop
invariant-loop g l = record {
  so_far : PartsSoFar g.R.ReadBytes.source l.computes_md5 l.info l.fn.parts l.parts l.counter l.walk;
  reads : (more : List ℕ) × Reads (g.R.ReadBytes.source (parts_source l.fn.parts)) (g.R.ReadBytes.source (parts_source l.parts)) more;
  quiet : StaysQuiet l.fn.progress l.progress;
  total : shown_total l.progress ≡ shown_total l.fn.progress;
  more : l.walk.places.more ≡ l.more;
  few : length l.walk.places.places.more.items ≤ l.more;
  tail : TailSoFar g.R.ReadBytes.source l.fn.parts l.parts l.walk;
}
