use Rattle.std.proofs.Common.{rules}
use Rattle.claxon_subframe.specs.Pairs.{AllFit16}
use Rattle.claxon_subframe.proofs.Pairs.{read_from, pair_taps_value}
use Rattle.claxon_subframe.proofs.subframe.predictor.pairs.pair_taps_of.Goals as goal

pub returns-clause-are_pair_taps : goal.returns-clause-are_pair_taps
returns-clause-are_pair_taps c =
    let fits : AllFit16 (read_from c.args.padded.now 0 28) = search rules in
    pair_taps_value c.args.padded.now c.told-padded fits
