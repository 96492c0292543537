use Rattle.std.proofs.Common.{◌∙◌, ◌+◌, ◌-◌, ◌<◌, ap, arith, length, refl, rules, w32, FitsSigned}
use Rattle.std.proofs.lemmas.Int.{to_z-of_z}
use Rattle.std.proofs.lemmas.List.{length-set}
use Rattle.std.proofs.lemmas.Slice.{take-put_mid_below}
use Rattle.claxon_input.specs.BufferedBits.{bits_in_buffer}
use Rattle.claxon_subframe.proofs.BufferedFields.{fields_begin, fields_group, fields_next, fields_same, FieldsSoFar}
use Rattle.claxon_subframe.proofs.subframe.groups.decode_by_groups.Goals.{else-group-gt0-via-then-group-gt0+then-end-buffer+else-decode_group, else-group-gt0-via-then-group-gt0+else-end-buffer, else-group-gt0-via-else-group-gt0}
use Rattle.claxon_subframe.proofs.subframe.groups.decode_by_groups.Goals as goal

pub loop-values-init : goal.loop-values-init
loop-values-init g c = (omega arith, fields_begin (g.C.GroupCode.value_at c.args.code) c.args.buffer.now c.args.buffered.now)

pub loop-values-preserved-then-decode_group : goal.loop-values-preserved-then-decode_group
loop-values-preserved-then-decode_group g c =
    let group = fields_group c.args.group c.decode_group.new.group {a = c.args.buffered.now} {b = c.loop-values.buffered} {c = c.decode_group.new.buffered} c.if-end-buffer.true c.decode_group.auto.group c.loop-values.invariant.1 c.if-decode_group.ensures.is_read in
    (grind (arith, group.0), record { so_far = λ rest. let e = group.1.so_far rest in grind (arith, e) })

pub loop-values-preserved : goal.loop-values-preserved
loop-values-preserved g c =
    let l = c.loop-values in
    let f : FitsSigned w32 c.in-Some.value = search rules in
    let same : FieldsSoFar (g.C.GroupCode.value_at c.args.code) c.else-group-gt0.buffer l.values c.args.buffered.now c.else-group-gt0.buffered =
    elim c.else-group-gt0.branch [
      | else-group-gt0-via-then-group-gt0+then-end-buffer+else-decode_group w ↦
          rw (w.buffer-is, w.buffered-is) (fields_same (take-put_mid_below l.values (l.values + c.args.group - l.values) l.buffer w.decode_group.new.group l.values (omega arith) (omega arith)) w.if-decode_group.ensures.is_read l.invariant.1)
      | else-group-gt0-via-then-group-gt0+else-end-buffer w ↦ rw (w.buffer-is, w.buffered-is) l.invariant.1
      | else-group-gt0-via-else-group-gt0 w ↦ rw (w.buffer-is, w.buffered-is) l.invariant.1
    ] in
    let more : l.values < length c.else-group-gt0.buffer = omega (arith, c.else-group-gt0.auto.buffer) in
    rw (to_z-of_z w32 c.in-Some.value f) (omega (arith, length-set c.else-group-gt0.buffer l.values c.in-Some.value), fields_next c.in-Some.value more same c.in-Some.ensures.gives_buffered_or_none)

pub returns-in_default-clause-are_read : goal.returns-in_default-clause-are_read
returns-in_default-clause-are_read g c =
    let l = c.loop-values in
    let same : FieldsSoFar (g.C.GroupCode.value_at c.args.code) c.else-group-gt0.buffer l.values c.args.buffered.now c.decode_value.new.buffered =
    elim c.else-group-gt0.branch [
      | else-group-gt0-via-then-group-gt0+then-end-buffer+else-decode_group w ↦
          rw w.buffer-is (fields_same (take-put_mid_below l.values (l.values + c.args.group - l.values) l.buffer w.decode_group.new.group l.values (omega arith) (omega arith)) (c.in_default.ensures.gives_buffered_or_none ∙ ap bits_in_buffer w.buffered-is ∙ w.if-decode_group.ensures.is_read) l.invariant.1)
      | else-group-gt0-via-then-group-gt0+else-end-buffer w ↦ rw w.buffer-is (fields_same refl (c.in_default.ensures.gives_buffered_or_none ∙ ap bits_in_buffer w.buffered-is) l.invariant.1)
      | else-group-gt0-via-else-group-gt0 w ↦ rw w.buffer-is (fields_same refl (c.in_default.ensures.gives_buffered_or_none ∙ ap bits_in_buffer w.buffered-is) l.invariant.1)
    ] in same.so_far

pub returns-after-loop-values-clause-are_read : goal.returns-after-loop-values-clause-are_read
returns-after-loop-values-clause-are_read g c = c.loop-values.invariant.1.so_far
