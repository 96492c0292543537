use Rattle.claxon_seekable.specs.SeekableReader.{KeepsStream, NothingFailed, SearchesStay}
use Rattle.claxon_seekable.proofs.reader.SeekableReader.note_two_frames.Given as goal

abbrev pub invariant-loop : goal.invariant-loop
invariant-loop g l = NothingFailed l.fn.self.frames l.self.frames × KeepsStream l.fn.self l.self × SearchesStay l.fn.self l.self
