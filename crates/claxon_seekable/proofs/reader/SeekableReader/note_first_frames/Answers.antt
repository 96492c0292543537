use Rattle.std.proofs.Common.{refl}
use Rattle.claxon_seekable.proofs.Counts.{noted_there}
use Rattle.claxon_seekable.proofs.reader.SeekableReader.note_first_frames.Goals as goal

pub returns-clause-is_counted : goal.returns-clause-is_counted
returns-clause-is_counted g c =
    let there = record c.args.self.now { frames = c.go_to.new.self } in
    noted_there c.args.self.now there c.note_two_frames-noted.new.self _ _ _ refl c.go_to.ensures c.go_to-2.ensures c.note_two_frames-noted.result c.note_two_frames-noted.ensures.is_counted
