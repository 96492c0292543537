use Rattle.std.proofs.Common.{◌≡◌, ◌-◌, ◌^◌}
use Rattle.std.specs.Prelude.{vec_capacity}
use Rattle.claxon.specs.FrameReader.{frame_bytes, frame_stream}
use Rattle.claxon_write.specs.InnerWriter.{output_name}
use Rattle.claxon_write.specs.Written.{IsUnflushed}
use Rattle.claxon_write.proofs.Gathering.{GatheredSoFar}
use Rattle.claxon_write.proofs.stream.gather_blocks.Given as goal

abbrev pub invariant-loop-block : goal.invariant-loop-block
invariant-loop-block g l = record {
  reference : output_name l.output ≡ output_name l.initial.output;
  unflushed : IsUnflushed l.fn.output l.output;
  stream : frame_stream l.frames ≡ frame_stream l.fn.frames;
  loans : (frame_bytes g.R.ReadBytes.source l.frames).source.loans ≡ (frame_bytes g.R.ReadBytes.source l.fn.frames).source.loans;
  so_far : GatheredSoFar g.W.Write.contents (frame_stream l.fn.frames) l.count (vec_capacity l.buffer) (frame_bytes g.R.ReadBytes.source l.fn.frames) (frame_bytes g.R.ReadBytes.source l.frames) l.fn.output l.output;
}

abbrev pub decreases-loop-block : goal.decreases-loop-block
decreases-loop-block g l = 2 ^ 64 - l.count
