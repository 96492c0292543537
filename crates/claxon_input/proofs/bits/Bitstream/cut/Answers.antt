use Rattle.std.proofs.Common.{rules, arith}
use Rattle.claxon_input.proofs.BitSteps.{top_lt, top_fits, cut_in_cache}
use Rattle.claxon_input.proofs.bits.Bitstream.cut.Goals as goal

pub overflow_cast-result-2 : goal.overflow_cast-result-2
overflow_cast-result-2 g c =
    let h = top_fits c.args.cache c.args.count c.args.bits c.requires.enough c.requires.asked c.requires.fits in search rules

pub returns-clause-value : goal.returns-clause-value
returns-clause-value g c = top_lt c.args.cache c.args.count c.args.bits c.requires.enough c.requires.fits

pub returns-clause-takes_number : goal.returns-clause-takes_number
returns-clause-takes_number g c = cut_in_cache (g.R.ReadBytes.source c.args.self.now.reader) c.args.cache c.args.count c.args.bits c.requires.enough (omega arith)
