use Rattle.std.proofs.Common.{ap}
use Rattle.claxon_seekable.specs.SeekableReader.{reader_position}
use Rattle.claxon_seekable.proofs.Clocks.{not_noted, noted}
use Rattle.claxon_seekable.proofs.reader.SeekableReader.next_event.Goals as goal
use Rattle.claxon_seekable.proofs.reader.SeekableReader.next_event.Goals.{in-Decoded, in_default}

pub returns-clause-is_noted : goal.returns-clause-is_noted
returns-clause-is_noted g c =
    let old = c.args.self.now in
    let new = c.match-event.self in
    elim c.match-event.branch [
      | in-Decoded w ↦
          let n = w.note.ensures in
          rw w.in-Decoded.is (noted old new w.in-Decoded.frame c.position-at.result w.position.result w.note.new.self c.position-at.ensures w.position.ensures (ap reader_position w.self-is) (ap (λ s. s.clock) w.self-is) (n.keeps_right, (n.keeps_order, n.knows_unit)))
      | in_default w ↦ not_noted old new c.in_ok-event.event w.in_default.not-Decoded (ap (λ s. s.clock) w.self-is)
    ]
