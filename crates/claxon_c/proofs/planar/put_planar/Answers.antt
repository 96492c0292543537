use Rattle.std.proofs.Common.{◌≡◌, ◌*◌, ◌≤◌, length, ap, ◌∙◌, rules}
use Rattle.std.proofs.lemmas.List.{length-take-le}
use Rattle.claxon_c.proofs.PlanarSamples.{length-joined}
use Rattle.claxon_c.proofs.planar.put_planar.Goals as goal

pub copy_from_slice-requires : goal.copy_from_slice-requires
copy_from_slice-requires c =
    let channels = c.args.block.channels in
    let count = c.channels.result * c.duration.result in
    let all : length c.as_slice.result.now ≡ length channels * c.duration.result = ap length (search rules) ∙ length-joined c.duration.result channels c.duration.ensures.are_of_length in
    let fits : count ≤ length c.args.samples.now = search rules in
    length-take-le count c.args.samples.now fits ∙ search rules
