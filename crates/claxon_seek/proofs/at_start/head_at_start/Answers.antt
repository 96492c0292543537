use Rattle.std.proofs.Common.{Global, rules}
use Rattle.claxon.specs.ReadHead.{head_view}
use Rattle.claxon_seek.proofs.AtStart.{head_at_start}
use Rattle.claxon_seek.proofs.at_start.head_at_start.Goals as goal

pub returns : goal.returns
returns c =
    let e = c.read_head-head.ensures in
    record { at_start = head_at_start (head_view {A = Global}) c.args.bytes c.new-input.result c.read_head-head.new.input c.saturating_sub.result c.new-input.ensures.position c.new-input.ensures.inner (search rules) c.read_head-head.result e.has_bounds e.is_sound e.is_complete e.fault_is_sound e.fault_is_complete e.out_of_memory_after_header }
