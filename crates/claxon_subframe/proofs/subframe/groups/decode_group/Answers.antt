use Rattle.std.proofs.Common.{rules, arith, ◌<◌, length, w32, FitsSigned}
use Rattle.std.proofs.lemmas.Int.{to_z-of_z}
use Rattle.claxon_subframe.proofs.ValueGroups.{group_begins, group_next, group_read}
use Rattle.claxon_subframe.proofs.subframe.groups.decode_group.Goals as goal

pub loop-place-init : goal.loop-place-init
loop-place-init g c = group_begins (g.C.GroupCode.value_at c.args.code) c.in-Some.first c.args.group.now (omega arith)

pub loop-place-preserved : goal.loop-place-preserved
loop-place-preserved g c =
    let l = c.loop-place in
    let value = c.first_value-value.result.0 in
    let f : FitsSigned w32 value = search rules in
    let lt : l.place-index < length l.group = omega arith in
    rw (to_z-of_z w32 value f)
    (group_next (g.C.GroupCode.value_at c.args.code) c.in-Some.first l.group l.place-index l.used l.peeked value c.first_value-value.result.1 c.first_value-value.result.2 lt l.invariant c.first_value-value.ensures.few c.first_value-value.ensures.some c.first_value-value.ensures.is_first_value)

pub returns : goal.returns
returns g c = record {
  is_read =
      let l = c.loop-place in
      group_read (g.C.GroupCode.value_at c.args.code) c.in-Some.first l.group l.place-index l.used l.peeked c.args.buffered.now c.peek.new.self c.consume.new.self (omega arith) (omega arith) (omega arith) l.invariant c.in-Some.ensures.same c.in-Some.ensures.some c.consume.ensures;
}
