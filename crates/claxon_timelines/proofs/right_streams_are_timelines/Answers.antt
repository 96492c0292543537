use Rattle.std.proofs.Common.{ℕ, ◌≤◌, arith}
use Rattle.std.specs.Prelude.{Some, length}
use Rattle.std.proofs.lemmas.List.Sums.{sum_by-take-le}
use Rattle.claxon.specs.Streams.{stream_of}
use Rattle.claxon_verify.specs.RightStream.{frame_duration}
use Rattle.claxon_timelines.proofs.Numbers.{numbers}
use Rattle.claxon_stream_seek.specs.Timeline.{IsFrame, Placed}
use Rattle.claxon_timelines.specs.RightTimelines.{frames_placed}
use Rattle.claxon_timelines.proofs.PlacedFrames.{IsPlaceOf, ascending, begins_as, place_of, together}
use Rattle.claxon_timelines.proofs.right_streams_are_timelines.Goals as goal

pub returns : goal.returns
returns c = record {
  are_timelines = λ computes_md5 s right few.
      let stream = Some (stream_of right.head.info) in
      let start = length right.front in
      let places : (i : ℕ) (x : Placed) → IsFrame (frames_placed right) i x → IsPlaceOf right.frames i x × (start ≤ x.at) = place_of stream right.rest start right.bytes right.frames right.frames_are in
      let begins = begins_as stream right.rest start right.bytes right.frames right.frames_are in (
        record {
          numbers = numbers right.head.info right.frames _ right.in_order (λ i x e. (places i x e).0) begins;
          samples = λ i x e. (places i x e).0.duration;
          bytes = λ i x e. (places i x e).0.bytes;
          ascend = ascending stream right.rest start right.bytes right.frames right.frames_are;
          total = λ i. omega (arith, begins i, sum_by-take-le frame_duration right.frames i, few);
        },
        together stream right.rest start right.bytes right.frames right.frames_are,
        begins,
      );
}
