use Rattle.std.proofs.Common.{rules, arith, ◌<◌, length, pos}
use Rattle.std.proofs.lemmas.Option.{slice_get-get_or}
use Rattle.claxon_frame.proofs.frame.block.Block.sample.Goals as goal

pub returns : goal.returns
returns g c =
    let inside : c.args.sample < length c.channel.result.now = omega (arith, c.channel.ensures.len) in
    let e = slice_get-get_or c.channel.result.now c.args.sample (pos 0) inside in
    rw c.channel.ensures.samples (search (rules, e))
