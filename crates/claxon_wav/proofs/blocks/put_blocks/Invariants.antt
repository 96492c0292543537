use Rattle.std.proofs.Common.{◌≡◌, ◌+◌, ◌-◌, Some, vec_capacity}
use Rattle.claxon.specs.FrameReader.{stream_with}
use Rattle.claxon.specs.State.{bytes_in}
use Rattle.claxon_wav.specs.DataSize.{max_data_size}
use Rattle.claxon_command_line.specs.Progress.{SameErrors, StaysQuiet, shown_total}
use Rattle.claxon_wav.specs.Writer.{SameOutput}
use Rattle.claxon_wav.proofs.BlockMemory.{RoomSoFar}
use Rattle.claxon_wav.proofs.Converting.{HashedSoFar}
use Rattle.claxon_wav.proofs.blocks.put_blocks.Given as goal

abbrev pub invariant-loop-block : goal.invariant-loop-block
invariant-loop-block g l = record {
  reference : SameOutput l.fn.wav l.wav;
  so_far : HashedSoFar g.W.Write.contents (Some (stream_with l.info)) l.info.bits_per_sample (bytes_in g.R.ReadBytes.source l.fn.input) (bytes_in g.R.ReadBytes.source l.input) l.fn.wav l.wav l.fn.md5 l.md5;
  memory : RoomSoFar (Some (stream_with l.info)) (vec_capacity l.buffer) (bytes_in g.R.ReadBytes.source l.fn.input) (bytes_in g.R.ReadBytes.source l.input) l.wav;
  errors : SameErrors l.fn.progress l.progress;
  quiet : StaysQuiet l.fn.progress l.progress;
  shown : shown_total l.progress ≡ shown_total l.fn.progress;
}

abbrev pub decreases-loop-block : goal.decreases-loop-block
decreases-loop-block g l = max_data_size + 1 - l.wav.written
