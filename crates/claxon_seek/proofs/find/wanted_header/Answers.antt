use Rattle.claxon_seek.specs.Find.{known_format}
use Rattle.claxon_seek.proofs.find.wanted_header.Goals as goal

pub returns-then-shows_no_header : goal.returns-then-shows_no_header
returns-then-shows_no_header c = record {
  at_start = λ more info wanted. c.shows_no_header.ensures.no_header c.if-shows_no_header.true more (known_format c.args.known.now) info wanted.header;
}
