use Rattle.claxon_stream_seek.proofs.Searched.{end_finds_held, end_of_stream}
use Rattle.claxon_stream_seek.proofs.search.ByteSearch.search.Goals as goal

pub returns-clause-is_of_stream : goal.returns-clause-is_of_stream
returns-clause-is_of_stream c = λ stream stands h.
    end_of_stream c.args.at c.args.bytes.now c.args.is_end c.args.known c.args.self.now c.loop-self.self _ _ c.loop-self.invariant c.loop-self-test.false c.at_end.result c.at_end.ensures stream stands h

pub returns-clause-finds_held : goal.returns-clause-finds_held
returns-clause-finds_held c =
    end_finds_held c.args.at c.args.bytes.now c.args.is_end c.args.known c.args.self.now c.loop-self.self _ _ c.loop-self.invariant c.loop-self-test.false c.at_end.result c.at_end.ensures
