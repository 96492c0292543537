use Rattle.std.proofs.Common.{◌≡◌, ◌-◌, inl, inr, ℕ, true, false, length, refl, sym, ap, subst, ◌∙◌, arith}
use Rattle.std.specs.Prelude.{Result, Ok, vec_capacity}
use Rattle.std.proofs.lemmas.Result.{err_from_is_err_and}
use Rattle.claxon.specs.Errors.{Error}
use Rattle.claxon_seek.specs.Find.{EndsInHeader}
use Rattle.claxon_stream.specs.Event.{IsReadOn}
use Rattle.claxon_stream.specs.FrameDecoder.{decoder_position}
use Rattle.claxon_stream.specs.FrameFinder.{MovesTo, cost_at, finder_cost, finder_position, read_on}
use Rattle.claxon_stream.specs.Held.{ends_there, held_from}
use Rattle.claxon_stream.specs.declared.event.Event.{Event}
use Rattle.claxon_stream.specs.declared.event.Event.TheVariants.{Cut, Decoded, End, Faulty, ReadOn}
use Rattle.claxon_stream.specs.declared.event.FindEvent.{FindEvent}
use Rattle.claxon_stream.specs.declared.event.FindEvent.TheVariants.{ReadOn as Waits}
use Rattle.claxon_stream.specs.declared.event.NeededBytes.{NeededBytes}
use Rattle.claxon_stream.specs.declared.finder.FrameFinder.{FrameFinder}
use Rattle.claxon_stream.proofs.SearchAnswers.{keeps_notes, needs_more, none_at_end, not_found, reads_on, wastes_nothing}
use Rattle.claxon_stream.proofs.Searching.{cost_is, no_header, no_header_at_end, no_header_there, passed_over, passed_unread, search_begins, search_end, within}
use Rattle.claxon_stream.proofs.TriedFrames.{IsTried, found_there, goes_on, here, in_vain_there, needed_there, passed_there, refused_there, right_tried, stays, undecided_there, waste_stays, waste_there}
use Rattle.claxon_stream.proofs.finder.FrameFinder.find_next.Goals as goal
use Rattle.claxon_stream.proofs.finder.FrameFinder.find_next.Goals.{in-Faulty, in-Cut, in-End}

abbrev answer : Event → Result Event Error
answer event = Ok event

abbrev found : NeededBytes → Result FindEvent Error
found needed = Ok (Waits needed)

pub loop-position-init : goal.loop-position-init
loop-position-init c =
    rw c.position-from.ensures (search_begins c.args.known c.args.at c.args.bytes.now c.args.is_end c.args.self.now _ refl (rw c.counted_from-self.ensures.wasted refl) (c.counted_from-self.ensures.counted ∙ c.position-from.ensures))

pub loop-position-preserved-then-passes_unread : goal.loop-position-preserved-then-passes_unread
loop-position-preserved-then-passes_unread c =
    let at = c.loop-position.position in
    let before = rw (c.held_from.ensures, c.position-from.ensures) at c.loop-position-test.true in
    passed_unread c.args.known c.args.at c.args.bytes.now c.args.is_end c.args.self.now c.loop-position.self at c.loop-position.invariant before (c.passes_unread.ensures c.if-passes_unread.true)

pub loop-position-preserved-in-NotWanted : goal.loop-position-preserved-in-NotWanted
loop-position-preserved-in-NotWanted c =
    let at = c.loop-position.position in
    let before = rw (c.held_from.ensures, c.position-from.ensures) at c.loop-position-test.true in
    let there = rw (c.in-NotWanted.is, c.held_from-rest.ensures) at c.header_there.ensures.is_there in
    no_header c.args.known c.args.at c.args.bytes.now c.args.is_end c.args.self.now c.loop-position.self at c.loop-position.invariant before
    (λ stream stands. no_header_there c.args.known c.args.at c.args.bytes.now c.args.is_end stream stands at there)

pub loop-position-preserved-in-CutHeader : goal.loop-position-preserved-in-CutHeader
loop-position-preserved-in-CutHeader c =
    let at = c.loop-position.position in
    let before = rw (c.held_from.ensures, c.position-from.ensures) at c.loop-position-test.true in
    let there = rw (c.in-CutHeader.is, c.held_from-rest.ensures) at c.header_there.ensures.is_there in
    no_header c.args.known c.args.at c.args.bytes.now c.args.is_end c.args.self.now c.loop-position.self at c.loop-position.invariant before
    (λ stream stands. no_header_at_end c.args.known c.args.at c.args.bytes.now c.args.is_end stream stands at there (sym c.ends_there.ensures ∙ c.if-ends_there.true))

pub returns-in-CutHeader-2 : goal.returns-in-CutHeader-2
returns-in-CutHeader-2 c =
    let at = c.loop-position.position in
    let s = c.loop-position.invariant in
    let new = c.move_to.new.self in
    let there = rw (c.in-CutHeader-2.is, c.held_from-rest.ensures) at c.header_there.ensures.is_there in
    let k = c.args.known in
    let from = c.args.at in
    let bytes = c.args.bytes.now in
    let is_end = c.args.is_end in
    let m = c.move_to.ensures in
    rw (c.read_on.ensures, c.held_from-rest.ensures) (record {
      is_of_stream = reads_on c.requires.depth s m (length (held_from from at bytes));
      needs_more = needs_more c.requires.depth s m (length (held_from from at bytes)) refl (sym c.ends_there.ensures ∙ c.if-ends_there.false);
      keeps_notes = keeps_notes c.requires.depth s m;
      is_timely = λ stream stands right is. inr (inl (subst (λ (p : ℕ). EndsInHeader k (held_from from p bytes)) (sym m.goes.0) there.1));
      waste_is_in_vain = λ stream stands right. inl (wastes_nothing c.requires.depth s m stream stands right);
    })

pub loop-position-preserved-then-not-is_worth_a_try : goal.loop-position-preserved-then-not-is_worth_a_try
loop-position-preserved-then-not-is_worth_a_try c =
    let at = c.loop-position.position in
    let before = rw (c.held_from.ensures, c.position-from.ensures) at c.loop-position-test.true in
    let wanted = rw (c.in-Wanted.is, c.held_from-rest.ensures) at c.header_there.ensures.is_there in
    passed_over c.args.known c.args.at c.args.bytes.now c.args.is_end c.args.self.now c.loop-position.self at c.loop-position.invariant before c.in-Wanted.info wanted c.samples_of-samples.result c.samples_of-samples.ensures
    c.is_worth_a_try.result c.is_worth_a_try.new.self c.is_worth_a_try.ensures c.if-not-is_worth_a_try.true

pub returns-in_err-frame : goal.returns-in_err-frame
returns-in_err-frame c =
    let at = c.loop-position.position in
    let s = c.loop-position.invariant in
    let k = c.args.known in
    let from = c.args.at in
    let bytes = c.args.bytes.now in
    let is_end = c.args.is_end in
    let tried = c.is_worth_a_try.new.self in
    let t : IsTried k from bytes is_end c.args.self.now c.loop-position.self at c.in-Wanted.info c.samples_of-samples.result tried = record {
      depth = c.requires.depth;
      searching = s;
      before = rw (c.held_from.ensures, c.position-from.ensures) at c.loop-position-test.true;
      wanted = rw (c.in-Wanted.is, c.held_from-rest.ensures) at c.header_there.ensures.is_there;
      are = c.samples_of-samples.ensures;
      worth = rw c.if-not-is_worth_a_try.false at c.is_worth_a_try.ensures;
    } in
    let r = c.decode_next.result in
    let d = c.decode_next.new.self in
    let e = c.decode_next.ensures in
    let capacity = vec_capacity c.new.result in
    let error = c.in_err-frame.field-0.0 in
    let p = err_from_is_err_and c.from_residual.result c.from_residual.ensures.1 in
    rw (p.1, p.2) (record {
      is_of_stream = λ stream stands. refused_there t capacity r d error c.in_err-frame.was e.is_sound stream stands;
      needs_more = λ is. absurd is;
      keeps_notes = λ stream stands right. e.keeps_notes stream stands (right_tried t capacity r d stream stands right);
      is_timely = λ stream stands right is. absurd is;
      waste_is_in_vain = λ stream stands right. inl (waste_stays t capacity r d e.is_of_stream e.waste_is_in_vain (λ waits. subst IsReadOn c.in_err-frame.was waits) stream stands right);
    })

pub returns-in-Decoded : goal.returns-in-Decoded
returns-in-Decoded c =
    let at = c.loop-position.position in
    let s = c.loop-position.invariant in
    let k = c.args.known in
    let from = c.args.at in
    let bytes = c.args.bytes.now in
    let is_end = c.args.is_end in
    let tried = c.is_worth_a_try.new.self in
    let t : IsTried k from bytes is_end c.args.self.now c.loop-position.self at c.in-Wanted.info c.samples_of-samples.result tried = record {
      depth = c.requires.depth;
      searching = s;
      before = rw (c.held_from.ensures, c.position-from.ensures) at c.loop-position-test.true;
      wanted = rw (c.in-Wanted.is, c.held_from-rest.ensures) at c.header_there.ensures.is_there;
      are = c.samples_of-samples.ensures;
      worth = rw c.if-not-is_worth_a_try.false at c.is_worth_a_try.ensures;
    } in
    let r = c.decode_next.result in
    let d = c.decode_next.new.self in
    let e = c.decode_next.ensures in
    let capacity = vec_capacity c.new.result in
    let frame = c.in-Decoded.frame in
    let is : r ≡ Ok (Decoded frame) = c.in_ok-frame.was ∙ ap (λ (x : Event). answer x) c.in-Decoded.is in
    let new : FrameFinder = record { decoder = d; budget = c.make_good.new.self; has_passed_over = tried.has_passed_over } in
    let cost : finder_cost new ≡ cost_at tried (decoder_position d) = cost_is _ _ tried.has_passed_over tried.has_passed_over (rw c.position-after.ensures at c.make_good.ensures.wasted) refl in
    record {
      is_of_stream = λ stream stands. found_there t capacity r d stream stands e.is_of_stream frame is new refl cost;
      needs_more = λ is. absurd is;
      keeps_notes = λ stream stands right. e.keeps_notes stream stands (right_tried t capacity r d stream stands right);
      is_timely = λ stream stands right is. absurd is;
      waste_is_in_vain = λ stream stands right. inl (waste_stays t capacity r d e.is_of_stream e.waste_is_in_vain (λ waits. subst IsReadOn is waits) stream stands right);
    }

pub returns-in-ReadOn : goal.returns-in-ReadOn
returns-in-ReadOn c =
    let at = c.loop-position.position in
    let s = c.loop-position.invariant in
    let k = c.args.known in
    let from = c.args.at in
    let bytes = c.args.bytes.now in
    let is_end = c.args.is_end in
    let tried = c.is_worth_a_try.new.self in
    let t : IsTried k from bytes is_end c.args.self.now c.loop-position.self at c.in-Wanted.info c.samples_of-samples.result tried = record {
      depth = c.requires.depth;
      searching = s;
      before = rw (c.held_from.ensures, c.position-from.ensures) at c.loop-position-test.true;
      wanted = rw (c.in-Wanted.is, c.held_from-rest.ensures) at c.header_there.ensures.is_there;
      are = c.samples_of-samples.ensures;
      worth = rw c.if-not-is_worth_a_try.false at c.is_worth_a_try.ensures;
    } in
    let r = c.decode_next.result in
    let d = c.decode_next.new.self in
    let e = c.decode_next.ensures in
    let capacity = vec_capacity c.new.result in
    let needed = c.in-ReadOn.needed in
    let is : r ≡ Ok (ReadOn needed) = c.in_ok-frame.was ∙ ap (λ (x : Event). answer x) c.in-ReadOn.is in
    record {
      is_of_stream = λ stream stands. (
        at - finder_position c.args.self.now,
        stays t capacity r d needed is e.is_sound
            ∙ here t capacity r d stream stands,
        within k from bytes is_end c.args.self.now c.loop-position.self at s stream stands,
        passed_there t capacity r d stream stands,
      );
      needs_more = λ waits. (
        ap (λ (x : NeededBytes). found x) (needed_there t capacity r d needed is e.is_sound),
        goes_on t capacity r d needed is e.is_sound,
      );
      keeps_notes = λ stream stands right. e.keeps_notes stream stands (right_tried t capacity r d stream stands right);
      is_timely = λ stream stands right waits. undecided_there t capacity r d needed is e.is_sound e.frame_is_timely e.fault_is_timely stream stands right;
      waste_is_in_vain = λ stream stands right. elim (waste_there t capacity r d needed is e.is_sound e.waste_is_in_vain stream stands right) [
        | inl le ↦ inl le
        | inr q ↦ inr (tt, q.0, q.1, q.2)
      ];
    }

pub loop-position-preserved : goal.loop-position-preserved
loop-position-preserved c =
    let at = c.loop-position.position in
    let s = c.loop-position.invariant in
    let k = c.args.known in
    let from = c.args.at in
    let bytes = c.args.bytes.now in
    let is_end = c.args.is_end in
    let tried = c.is_worth_a_try.new.self in
    let t : IsTried k from bytes is_end c.args.self.now c.loop-position.self at c.in-Wanted.info c.samples_of-samples.result tried = record {
      depth = c.requires.depth;
      searching = s;
      before = rw (c.held_from.ensures, c.position-from.ensures) at c.loop-position-test.true;
      wanted = rw (c.in-Wanted.is, c.held_from-rest.ensures) at c.header_there.ensures.is_there;
      are = c.samples_of-samples.ensures;
      worth = rw c.if-not-is_worth_a_try.false at c.is_worth_a_try.ensures;
    } in
    let r = c.decode_next.result in
    let d = c.decode_next.new.self in
    let e = c.decode_next.ensures in
    let capacity = vec_capacity c.new.result in
    elim c.match-branch-2.branch [
      | in-Faulty w ↦ rw w.self-is (in_vain_there t capacity r d e.is_of_stream e.waste_is_in_vain (Faulty w.in-Faulty.field-0) tt (c.in_ok-frame.was ∙ ap (λ (x : Event). answer x) w.in-Faulty.is) w.note_in_vain.new.self w.note_in_vain.ensures)
      | in-Cut w ↦ rw w.self-is (in_vain_there t capacity r d e.is_of_stream e.waste_is_in_vain (Cut w.in-Cut.field-0) tt (c.in_ok-frame.was ∙ ap (λ (x : Event). answer x) w.in-Cut.is) w.note_in_vain-in-Cut.new.self w.note_in_vain-in-Cut.ensures)
      | in-End w ↦ rw w.self-is (in_vain_there t capacity r d e.is_of_stream e.waste_is_in_vain End tt (c.in_ok-frame.was ∙ ap (λ (x : Event). answer x) w.in-End.is) w.note_in_vain-in-End.new.self w.note_in_vain-in-End.ensures)
    ]

pub returns-then-ends_there-2 : goal.returns-then-ends_there-2
returns-then-ends_there-2 c =
    let at = c.loop-position.position in
    let s = c.loop-position.invariant in
    let k = c.args.known in
    let from = c.args.at in
    let bytes = c.args.bytes.now in
    let is_end = c.args.is_end in
    let new = c.move_to-2.new.self in
    let end : ℕ = search_end k from bytes is_end c.args.self.now in
    let last : at ≡ end = omega (arith, rw (c.held_from.ensures, c.position-from.ensures) at c.loop-position-test.false, s.inside) in
    let m : MovesTo at c.loop-position.self new = rw last (rw (c.held_from.ensures, c.position-from.ensures) at c.move_to-2.ensures) in
    let ends : ends_there from at is_end ≡ true = rw last (rw (c.held_from.ensures, c.position-from.ensures) at (sym c.ends_there-2.ensures ∙ c.if-ends_there-2.true)) in
    record {
      is_of_stream = not_found c.requires.depth s m last ends;
      needs_more = λ is. absurd is;
      keeps_notes = keeps_notes c.requires.depth s m;
      is_timely = λ stream stands right is. absurd is;
      waste_is_in_vain = λ stream stands right. inl (wastes_nothing c.requires.depth s m stream stands right);
    }

pub returns : goal.returns
returns c =
    let at = c.loop-position.position in
    let s = c.loop-position.invariant in
    let k = c.args.known in
    let from = c.args.at in
    let bytes = c.args.bytes.now in
    let is_end = c.args.is_end in
    let new = c.move_to-2.new.self in
    let end : ℕ = search_end k from bytes is_end c.args.self.now in
    let last : at ≡ end = omega (arith, rw (c.held_from.ensures, c.position-from.ensures) at c.loop-position-test.false, s.inside) in
    let m : MovesTo at c.loop-position.self new = rw last (rw (c.held_from.ensures, c.position-from.ensures) at c.move_to-2.ensures) in
    let ends : ends_there from at is_end ≡ false = rw last (rw (c.held_from.ensures, c.position-from.ensures) at (sym c.ends_there-2.ensures ∙ c.if-ends_there-2.false)) in
    let none : length (held_from from at bytes) ≡ 0 = rw last (none_at_end from (finder_position c.args.self.now) bytes is_end) in
    let asks : c.read_on-2.result ≡ read_on at 0 = rw last (rw (c.held_from.ensures, c.position-from.ensures) at c.read_on-2.ensures) in
    rw asks (record {
      is_of_stream = reads_on c.requires.depth s m 0;
      needs_more = needs_more c.requires.depth s m 0 (sym none) ends;
      keeps_notes = keeps_notes c.requires.depth s m;
      is_timely = λ stream stands right is. inl (omega (arith, ap (λ (p : ℕ). length (held_from from p bytes)) m.goes.0, none));
      waste_is_in_vain = λ stream stands right. inl (wastes_nothing c.requires.depth s m stream stands right);
    })
