use Rattle.std.proofs.Common.{arith, rules, subst}
use Rattle.claxon_c.specs.TagReader.{IsTagOf, tag_at}
use Rattle.claxon_c.proofs.TagCalls.{faulty_complete, faulty_in_order, faulty_named, faulty_no_more, faulty_sound, found_complete, found_in_order, found_named, found_no_more, found_sound, found_tag, none_complete, none_in_order, none_named, none_no_more}
use Rattle.claxon_c.proofs.tags.claxon_next_tag.Goals as goal

pub overflow_add-value_at : goal.overflow_add-value_at
overflow_add-value_at c =
    let t = found_tag c.args.at.now c.args.content.now _ _ c.in-Ok-Some.field-0-is c.in-Ok-Some.ensures.is_read in
    search (rules, t.inside)

pub overflow_add-value_at-in-Ok-Some : goal.overflow_add-value_at-in-Ok-Some
overflow_add-value_at-in-Ok-Some c =
    let t = found_tag c.args.at.now c.args.content.now _ _ c.in-Ok-Some.field-0-is c.in-Ok-Some.ensures.is_read in
    search (rules, t.inside)

pub overflow_sub-tag : goal.overflow_sub-tag
overflow_sub-tag c =
    let t = found_tag c.args.at.now c.args.content.now _ _ c.in-Ok-Some.field-0-is c.in-Ok-Some.ensures.is_read in
    search (rules, t.inside)

pub returns-in-Ok-Some-clause-is_sound : goal.returns-in-Ok-Some-clause-is_sound
returns-in-Ok-Some-clause-is_sound c =
    let t = found_tag c.args.at.now c.args.content.now _ _ c.in-Ok-Some.field-0-is c.in-Ok-Some.ensures.is_read in
    found_sound c.args.at.now c.args.content.now t _ _ (omega (arith, t.after, t.inside)) (omega (arith, t.from, t.inside)) (omega (arith, t.count)) (omega arith) (omega (arith, t.inside))

pub returns-in-Ok-Some-clause-is_complete : goal.returns-in-Ok-Some-clause-is_complete
returns-in-Ok-Some-clause-is_complete c =
    let t = found_tag c.args.at.now c.args.content.now _ _ c.in-Ok-Some.field-0-is c.in-Ok-Some.ensures.is_read in
    found_complete c.args.at.now c.args.content.now t _ _ (omega (arith, t.after, t.inside)) (omega (arith, t.from, t.inside)) (omega (arith, t.count)) (omega arith) (omega (arith, t.inside))

pub returns-in-Ok-Some-clause-are_in_order : goal.returns-in-Ok-Some-clause-are_in_order
returns-in-Ok-Some-clause-are_in_order c =
    let t = found_tag c.args.at.now c.args.content.now _ _ c.in-Ok-Some.field-0-is c.in-Ok-Some.ensures.is_read in
    found_in_order c.args.at.now c.args.content.now t _ _ (omega (arith, t.after, t.inside)) (omega (arith, t.from, t.inside)) (omega (arith, t.count)) (omega arith) (omega (arith, t.inside))

pub returns-in-Ok-Some-clause-no_more_iff_end : goal.returns-in-Ok-Some-clause-no_more_iff_end
returns-in-Ok-Some-clause-no_more_iff_end c =
    let t = found_tag c.args.at.now c.args.content.now _ _ c.in-Ok-Some.field-0-is c.in-Ok-Some.ensures.is_read in
    found_no_more c.args.at.now c.args.content.now t

pub returns-in-Ok-Some-clause-fault_is_complete : goal.returns-in-Ok-Some-clause-fault_is_complete
returns-in-Ok-Some-clause-fault_is_complete c =
    let t = found_tag c.args.at.now c.args.content.now _ _ c.in-Ok-Some.field-0-is c.in-Ok-Some.ensures.is_read in
    found_named c.args.at.now c.args.content.now t c.args.error.now c.args.error.now

pub returns-in-Ok-None-clause-is_complete : goal.returns-in-Ok-None-clause-is_complete
returns-in-Ok-None-clause-is_complete c =
    let (rest, read) = subst (IsTagOf c.args.content.now (tag_at c.args.at.now c.args.content.now)) c.in-Ok-None.field-0-is c.in-Ok-None.ensures.is_read in
    none_complete c.args.at.now c.args.content.now rest read c.args.at.now c.args.tag.now

pub returns-in-Ok-None-clause-are_in_order : goal.returns-in-Ok-None-clause-are_in_order
returns-in-Ok-None-clause-are_in_order c =
    let (rest, read) = subst (IsTagOf c.args.content.now (tag_at c.args.at.now c.args.content.now)) c.in-Ok-None.field-0-is c.in-Ok-None.ensures.is_read in
    none_in_order c.args.at.now c.args.content.now rest read c.args.at.now c.args.tag.now

pub returns-in-Ok-None-clause-no_more_iff_end : goal.returns-in-Ok-None-clause-no_more_iff_end
returns-in-Ok-None-clause-no_more_iff_end c =
    let (rest, read) = subst (IsTagOf c.args.content.now (tag_at c.args.at.now c.args.content.now)) c.in-Ok-None.field-0-is c.in-Ok-None.ensures.is_read in
    none_no_more c.args.at.now c.args.content.now rest read

pub returns-in-Ok-None-clause-fault_is_complete : goal.returns-in-Ok-None-clause-fault_is_complete
returns-in-Ok-None-clause-fault_is_complete c =
    let (rest, read) = subst (IsTagOf c.args.content.now (tag_at c.args.at.now c.args.content.now)) c.in-Ok-None.field-0-is c.in-Ok-None.ensures.is_read in
    none_named c.args.at.now c.args.content.now rest read c.args.error.now c.args.error.now

pub returns-in-Err-clause-is_complete : goal.returns-in-Err-clause-is_complete
returns-in-Err-clause-is_complete c = faulty_complete c.args.at.now c.args.content.now c.in-Err.fault c.in-Err.ensures.is_read c.report.result c.args.error.now c.report.new.output c.report.ensures.is_reported c.args.at.now c.args.tag.now

pub returns-in-Err-clause-are_in_order : goal.returns-in-Err-clause-are_in_order
returns-in-Err-clause-are_in_order c = faulty_in_order c.args.at.now c.args.content.now c.in-Err.fault c.in-Err.ensures.is_read c.report.result c.args.error.now c.report.new.output c.report.ensures.is_reported c.args.at.now c.args.tag.now

pub returns-in-Err-clause-no_more_iff_end : goal.returns-in-Err-clause-no_more_iff_end
returns-in-Err-clause-no_more_iff_end c = faulty_no_more c.args.at.now c.args.content.now c.in-Err.fault c.in-Err.ensures.is_read c.report.result c.args.error.now c.report.new.output c.report.ensures.is_reported

pub returns-in-Err-clause-fault_is_sound : goal.returns-in-Err-clause-fault_is_sound
returns-in-Err-clause-fault_is_sound c = faulty_sound c.args.at.now c.args.content.now c.in-Err.fault c.in-Err.ensures.is_read c.report.result c.args.error.now c.report.new.output c.report.ensures.is_reported

pub returns-in-Err-clause-fault_is_complete : goal.returns-in-Err-clause-fault_is_complete
returns-in-Err-clause-fault_is_complete c = faulty_named c.args.at.now c.args.content.now c.in-Err.fault c.in-Err.ensures.is_read c.report.result c.args.error.now c.report.new.output c.report.ensures.is_reported
