use Rattle.claxon_stream_seek.proofs.Passing.{no_header}
use Rattle.claxon_stream_seek.proofs.search.ByteSearch.pass_byte.Goals as goal

pub returns-in-NoHeader-clause-is_at_byte : goal.returns-in-NoHeader-clause-is_at_byte
returns-in-NoHeader-clause-is_at_byte c =
    no_header c.args.at c.args.bytes.now c.args.is_end c.args.known c.args.self.now c.requires.inside c.skip_byte.new.self c.skip_byte.ensures c.in-NoHeader.ensures
