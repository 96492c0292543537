use Rattle.std.proofs.Common.{◌≡◌, ◌++◌, [], Option, ap, arith, refl, subst, ◌∙◌}
use Rattle.std.proofs.lemmas.Result.{err_from_is_err_and}
use Rattle.claxon.specs.MetadataBlock.{info_view}
use Rattle.claxon_command_line.proofs.Showing.{shown_quietly, shown_total_same}
use Rattle.claxon_recovery.proofs.Reading.{reads_both, reads_none}
use Rattle.claxon_recovery.specs.Parts.{IsFrameOf, IsPart, after_part, parts_known, parts_position, unread}
use Rattle.claxon_recovery.specs.declared.part.Part.{Part}
use Rattle.claxon_verify.proofs.Walking.{none_few}
use Rattle.claxon_verify.proofs.PartsStopped.{next_stops, part_exceeds}
use Rattle.claxon_verify.proofs.PartsWalked.{none_found, part_few, part_more, walked}
use Rattle.claxon_verify.proofs.PartsTrailed.{none_kept, tail_so_far, walked_to_tail}
use Rattle.claxon_verify.proofs.parts.walk_parts.Goals as goal

pub loop-init : goal.loop-init
loop-init g c = record {
  so_far = none_found g.R.ReadBytes.source c.args.computes_md5 c.args.info c.args.start c.args.more c.args.parts.now c.new.result c.requires.same_info c.requires.at_start c.new.ensures.begins_walk c.new.ensures.nothing_noted;
  reads = ([], reads_none _);
  quiet = λ none. (refl, refl);
  total = refl;
  more = c.new.ensures.begins_walk.more_is;
  few = none_few _ _ c.new.ensures.begins_walk.none;
  tail = none_kept g.R.ReadBytes.source c.args.parts.now c.new.result c.args.start c.requires.at_start c.ranges.start.fits c.new.ensures.begins_walk.scan_is c.new.ensures.none_kept;
}

pub loop-preserved : goal.loop-preserved
loop-preserved g c =
    let source = g.R.ReadBytes.source in
    let mid = c.loop.parts in
    let new = c.next_part.new.self in
    let is = c.in-Some.is in
    let there = c.in_ok-part.ensures.part_is_there in
    let adds = c.in_ok-walk.ensures.adds_part in
    let few = part_few (info_view c.args.info) c.loop.walk c.in_ok-walk.walk c.in-Some.part adds c.loop.invariant.more c.loop.invariant.few in
    record {
      so_far = part_more c.loop.invariant.so_far c.next_part.ensures.keeps_stream (λ k. (there.0.reads.known k).known) c.in-Some.part
          (λ k. subst (λ (z : Option Part). IsPart (parts_known mid) (parts_position mid) (unread source mid) (unread source new) z) is (there.0.is k))
          (λ k value t rest code joined short. subst (λ (z : Option Part). IsFrameOf value z × (unread source new ≡ rest)) is (c.in_ok-part.ensures.frame_is_found k value t rest code joined short))
          (there.1 ∙ ap (λ (z : Option Part). after_part (parts_position mid) z) is) adds;
      reads = (c.loop.invariant.reads.0 ++ there.0.more, reads_both c.loop.invariant.reads.1 there.0.reads);
      quiet = shown_quietly c.args.progress.now c.loop.progress c.show.new.self _ c.loop.invariant.quiet c.loop.invariant.total c.show.ensures.shows_percentage c.show.ensures.writes_only_changes;
      total = shown_total_same c.loop.progress c.show.new.self _ c.show.ensures.shows_percentage ∙ c.loop.invariant.total;
      more = few.0;
      few = few.1;
      tail = tail_so_far c.loop.invariant.tail c.loop.invariant.so_far.info_is c.loop.invariant.so_far.known c.in-Some.part (λ k. subst (λ (z : Option Part). IsPart (parts_known mid) (parts_position mid) (unread source mid) (unread source new) z) is (there.0.is k))
          (there.1 ∙ ap (λ (z : Option Part). after_part (parts_position mid) z) is) adds c.in_ok-walk.ensures.keeps;
    }

pub returns-in_default-clause-ok : goal.returns-in_default-clause-ok
returns-in_default-clause-ok g c =
    let source = g.R.ReadBytes.source in
    let mid = c.loop.parts in
    let new = c.next_part.new.self in
    let there = c.in_ok-part.ensures.part_is_there in
    let at = c.requires.at_start in
    let fits = c.ranges.start.fits in
    walked (omega (arith, at, fits)) c.loop.invariant.so_far (λ k. (subst (λ (z : Option Part). IsPart (parts_known mid) (parts_position mid) (unread source mid) (unread source new) z) c.in_default.is (there.0.is k)).0)

pub returns-in_err-part-clause-err : goal.returns-in_err-part-clause-err
returns-in_err-part-clause-err g c =
    let p = err_from_is_err_and c.from_residual.result c.from_residual.ensures.1 in
    rw (p.1, p.2) (next_stops c.loop.invariant.so_far c.loop.invariant.reads.1 c.next_part.new.self _ c.in_err-part.ensures.err_is_excused)

pub returns-in_err-walk-clause-err : goal.returns-in_err-walk-clause-err
returns-in_err-walk-clause-err g c =
    let source = g.R.ReadBytes.source in
    let mid = c.loop.parts in
    let new = c.next_part.new.self in
    let is = c.in-Some.is in
    let there = c.in_ok-part.ensures.part_is_there in
    let p = err_from_is_err_and c.from_residual-in_err-walk.result c.from_residual-in_err-walk.ensures.1 in
    rw (p.1, p.2) (part_exceeds c.loop.invariant.so_far new c.in-Some.part
    (λ k. subst (λ (z : Option Part). IsPart (parts_known mid) (parts_position mid) (unread source mid) (unread source new) z) is (there.0.is k))
    (λ k value t rest code joined short. subst (λ (z : Option Part). IsFrameOf value z × (unread source new ≡ rest)) is (c.in_ok-part.ensures.frame_is_found k value t rest code joined short))
    (there.1 ∙ ap (λ (z : Option Part). after_part (parts_position mid) z) is) _ c.in_err-walk.ensures.err)

pub returns-in_default-clause-tail : goal.returns-in_default-clause-tail
returns-in_default-clause-tail g c =
    let source = g.R.ReadBytes.source in
    let mid = c.loop.parts in
    let new = c.next_part.new.self in
    let there = c.in_ok-part.ensures.part_is_there in
    let at = c.requires.at_start in
    let fits = c.ranges.start.fits in
    walked_to_tail (omega (arith, at, fits)) c.loop.invariant.so_far (λ k. (subst (λ (z : Option Part). IsPart (parts_known mid) (parts_position mid) (unread source mid) (unread source new) z) c.in_default.is (there.0.is k)).0) c.loop.invariant.tail
