use Rattle.std.proofs.Common.{◌≡◌, ◌-◌, refl, ap, ◌∙◌}
use Rattle.claxon_stream.specs.FrameDecoder.{cost_of_faults}
use Rattle.claxon_stream.specs.FrameFinder.{finder_cost, finder_position}
use Rattle.claxon_stream.specs.Search.{after_bytes, after_work}
use Rattle.claxon_stream.proofs.Searching.{cost_is}
use Rattle.claxon_stream.proofs.finder.FrameFinder.go_on.Goals as goal

pub returns-clause-goes_on : goal.returns-clause-goes_on
returns-clause-goes_on c =
    let old = c.args.self.now in
    let between = c.move_to.new.self in
    let moved : finder_cost between ≡ after_bytes (c.args.position - finder_position old) (finder_cost old) =
    rw (c.counted_from-self.ensures.wasted, c.counted_from-self.ensures.counted, c.position.ensures) at c.move_to.ensures.cost in
    let faults = cost_of_faults c.args.decoder.now in
    record {
      goes = c.move_to.ensures.goes;
      cost = cost_is _ _ between.has_passed_over between.has_passed_over (rw c.take_cost_of_faults.ensures.cost at c.charge.ensures.wasted) refl ∙ ap (after_work faults) moved;
    }
