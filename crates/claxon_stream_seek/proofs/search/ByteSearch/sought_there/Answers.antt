use Rattle.std.proofs.Common.{drop, None, sym, subst, ◌∙◌}
use Rattle.std.proofs.lemmas.Bool.{iff_false}
use Rattle.claxon.specs.BlockInfos.{BlockInfo}
use Rattle.claxon_seek.proofs.Searches.{same_header}
use Rattle.claxon_stream_seek.specs.Sought.{HasSample}
use Rattle.claxon_stream.proofs.Searching.{header_there, no_header_at_end, no_header_there}
use Rattle.claxon_stream_seek.proofs.search.ByteSearch.sought_there.Goals as goal

pub returns-in-Wanted-2 : goal.returns-in-Wanted-2
returns-in-Wanted-2 c = λ stream stands info h.
    let s = c.args.self.now in
    let there = rw (c.in-Wanted.is, c.held_from.ensures) at c.header_there.ensures.is_there in
    let wanted = header_there c.args.known.now c.args.at c.args.bytes.now c.args.is_end stream stands s.position c.in-Wanted.info there in
    let same = same_header c.args.known.now None (drop s.position stream) info c.in-Wanted.info h.0 wanted in
    iff_false c.is_in.ensures c.if-is_in.false (subst (λ (i : BlockInfo). HasSample s.sought s.position i) same h.1)

pub returns-in-NotWanted : goal.returns-in-NotWanted
returns-in-NotWanted c = λ stream stands info h.
    let there = rw (c.in-NotWanted.is, c.held_from.ensures) at c.header_there.ensures.is_there in
    no_header_there c.args.known.now c.args.at c.args.bytes.now c.args.is_end stream stands c.args.self.now.position there info h.0

pub returns-in-CutHeader : goal.returns-in-CutHeader
returns-in-CutHeader c = λ stream stands info h.
    let there = rw (c.in-CutHeader.is, c.held_from.ensures) at c.header_there.ensures.is_there in
    no_header_at_end c.args.known.now c.args.at c.args.bytes.now c.args.is_end stream stands c.args.self.now.position there (sym c.ends_there.ensures ∙ c.if-ends_there.true) info h.0
