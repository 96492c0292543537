use Rattle.std.proofs.Common.{◌≡◌, ◌≤◌, length, Some}
use Rattle.claxon.specs.FrameReader.{stream_with}
use Rattle.claxon.specs.MetadataBlock.{info_view}
use Rattle.claxon_command_line.specs.Progress.{StaysQuiet, shown_total}
use Rattle.claxon_heads.specs.BytesRead.{counted_bytes, position_of}
use Rattle.claxon_verify.proofs.FramesTrailed.{FramesTail}
use Rattle.claxon_verify.proofs.Walking.{WalkedSoFar}
use Rattle.claxon_verify.proofs.walk_frames.Given as goal

abbrev pub invariant-loop : goal.invariant-loop
invariant-loop g l = record {
  so_far : WalkedSoFar l.computes_md5 (Some (stream_with l.info)) (info_view l.info) (position_of l.fn.input) (counted_bytes g.R.ReadBytes.source l.fn.input) (counted_bytes g.R.ReadBytes.source l.input) l.counter l.walk;
  quiet : StaysQuiet l.fn.progress l.progress;
  total : shown_total l.progress ≡ shown_total l.fn.progress;
  more : l.walk.places.more ≡ l.more;
  few : length l.walk.places.places.more.items ≤ l.more;
  tail : FramesTail g.R.ReadBytes.source l.fn.input l.input l.walk;
}
