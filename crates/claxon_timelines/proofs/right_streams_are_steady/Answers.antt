use Rattle.std.proofs.Common.{◌≤◌}
use Rattle.std.specs.Prelude.{Some, length, ℕ}
use Rattle.claxon.specs.Streams.{stream_of}
use Rattle.claxon_stream_seek.specs.Timeline.{IsFrame, Placed}
use Rattle.claxon_timelines.specs.RightTimelines.{frames_placed}
use Rattle.claxon_timelines.proofs.PlacedFrames.{IsPlaceOf, as_many, place_of}
use Rattle.claxon_timelines.proofs.Sizes.{steady}
use Rattle.claxon_timelines.proofs.right_streams_are_steady.Goals as goal

pub returns : goal.returns
returns c = record {
  are_steady = λ computes_md5 s right info known one.
      let stream = Some (stream_of right.head.info) in
      let start = length right.front in
      let places : (i : ℕ) (x : Placed) → IsFrame (frames_placed right) i x → IsPlaceOf right.frames i x × (start ≤ x.at) = place_of stream right.rest start right.bytes right.frames right.frames_are in
      steady right.head.info info right.frames (frames_placed right) known right.in_order one (λ i x e. (places i x e).0)
      (as_many stream right.rest start right.bytes right.frames right.frames_are);
}
