use Rattle.std.proofs.Common.{Bor, List, ℕ}
use Rattle.claxon.specs.Heads.{stream_marker}
use Rattle.claxon.specs.read.Heads.{marker_at}
use Rattle.claxon.proofs.InMemory.{new_cursor_remains}
use Rattle.claxon_stream.proofs.HeadReading.{reads_as_given}
use Rattle.claxon_stream.proofs.head.part.marker_at_start.Goals as goal

pub returns : goal.returns
returns c =
    let remains = new_cursor_remains (λ (s : Bor (List ℕ)). s.now) c.new.result c.args.bytes c.new.ensures.position c.new.ensures.inner in
    reads_as_given (λ x. stream_marker) marker_at c.args.bytes.now c.new.result c.read_marker.new.input remains c.read_marker.result c.read_marker.ensures.gives
