use Rattle.claxon_stream.proofs.FrameEnds.{known_by_try, updated_by_rest}
use Rattle.claxon_stream.proofs.ending.FrameEnd.note_open.Goals as goal

pub returns : goal.returns
returns c stream bytes start known none =
    let old = c.args.self.now in
    let front = c.args.bytes.now in
    known_by_try stream bytes front start old known c.if-bytes-self.false c.after.result (updated_by_rest old.crc c.after.result old.summed front c.after.ensures) none
