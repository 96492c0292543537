use Rattle.std.proofs.Common.{inl, inr, ◌+◌, ℕ, max, true, List, length, drop, refl, subst, sym, arith}
use Rattle.std.specs.Option.{option_map}
use Rattle.std.specs.Prelude.{vec_capacity}
use Rattle.claxon.specs.FrameReader.{stream_with}
use Rattle.claxon_stream.specs.DecodedAtStart.{DecodedAtStart}
use Rattle.claxon_stream.specs.Event.{EventIs, IsOpen, IsReadOn, event_of, moved_by}
use Rattle.claxon_stream.specs.FrameEnd.{summed_bytes}
use Rattle.claxon_stream.specs.Held.{ends_there, held_from}
use Rattle.claxon_stream.specs.Noted.{EndIsAfter, IsWorkOf, IsWorkOfFault}
use Rattle.claxon_stream.proofs.Charges.{charged_by}
use Rattle.claxon_stream.proofs.Events.{cut_is_complete, end_is_complete, event_is, event_of_all, fault_is_complete, frame_is_complete, read_on_is_complete, read_on_is_open}
use Rattle.claxon_stream.proofs.HeldBytes.{held_stands}
use Rattle.claxon_stream.proofs.Notes.{known_depth, none_of, not_due, notes_after, starts_with_held, wasted_by, zero_before}
use Rattle.claxon_stream.proofs.Waiting as waiting
use Rattle.claxon_stream.proofs.frames.FrameDecoder.decode_next.Goals as goal

pub returns-in-Some : goal.returns-in-Some
returns-in-Some c =
    let needed = c.in-Some.needed in
    let known = c.args.known in
    let capacity = vec_capacity c.args.buffer in
    let w = rw c.in-Some.is at c.waits.ensures in
    record {
      is_sound = waiting.sound needed w known capacity;
      is_of_stream = waiting.of_stream needed w known capacity;
      frame_is_complete = waiting.frame_is_complete needed w known capacity;
      fault_is_complete = waiting.fault_is_complete needed w known capacity;
      end_is_complete = waiting.end_is_complete needed w known capacity;
      cut_is_complete = waiting.cut_is_complete needed w known capacity;
      read_on_is_complete = waiting.read_on_is_complete needed w known capacity;
      keeps_notes = w.keeps_notes known;
      frame_is_timely = waiting.frame_is_timely needed w known capacity;
      fault_is_timely = waiting.fault_is_timely needed w known capacity;
      waste_is_in_vain = waiting.waste_is_in_vain needed w known capacity;
      fault_is_charged = waiting.fault_is_charged needed w known capacity;
    }

pub returns : goal.returns
returns c =
    let at = c.args.at in
    let old = c.args.self.now in
    let position = old.position in
    let bytes = c.args.bytes.now in
    let rest = held_from at position bytes in
    let ends = ends_there at position c.args.is_end in
    let stream = option_map stream_with c.args.known in
    let capacity = vec_capacity c.args.buffer in
    let r = c.frame_at_start-found.result in
    let taken = c.frame_at_start-found.new.taken in
    let tried = c.waits.new.self in
    let w = rw (none_of c.waits.result c.in_default.not-Some) at c.waits.ensures in
    let held = length rest in
    let h : DecodedAtStart stream rest capacity r taken = rw (c.held_from-rest.ensures, w.position) at c.frame_at_start-found.ensures.at_start in
    let event = event_of r position held ends in
    let new = position + moved_by event taken held in
    let sound = event_is stream rest capacity position taken r ends h in
    let none : IsReadOn event → IsOpen stream rest = read_on_is_open stream rest capacity position taken r ends held h in
    let after : EndIsAfter event tried.end rest c.end_after-self.result = rw (c.event_of-event.ensures, c.held_from-rest.ensures, c.ends_there-ends.ensures, w.position) at c.end_after-self.ensures in
    let work : IsWorkOf event c.is_due-is_due.result rest c.work_in_vain.result = rw (c.event_of-event.ensures, c.held_from-rest.ensures, c.ends_there-ends.ensures, w.position) at c.work_in_vain.ensures in
    let fault : IsWorkOfFault stream rest event (moved_by event taken held) c.work_of_fault.result = rw (c.moved_by-moved.ensures, c.event_of-event.ensures, c.held_from-rest.ensures, c.ends_there-ends.ensures, w.position) at c.work_of_fault.ensures in
    rw (c.moved_by-moved.ensures, c.event_of-event.ensures, c.held_from-rest.ensures, c.ends_there-ends.ensures, w.position) (record {
      is_sound = sound;
      is_of_stream = λ s stands answer. let k = held_stands s at position bytes c.args.is_end stands in
          subst (λ (z : List ℕ). EventIs stream z true capacity position event new) (sym k.1) (event_of_all stream rest k.0 ends capacity position new k.2 event answer sound);
      frame_is_complete = λ block begins. elim (frame_is_complete stream rest capacity position taken r ends held h block begins) [ inl p ↦ inl p | inr m ↦ inr (inl m) ];
      fault_is_complete = λ f begins. elim (fault_is_complete stream rest capacity position taken r ends held h f begins) [ inl p ↦ inl p | inr m ↦ inr (inl m) ];
      end_is_complete = λ few e. end_is_complete stream rest capacity position taken r ends held h few e;
      cut_is_complete = λ two is e. cut_is_complete stream rest capacity position taken r ends held h two is e;
      read_on_is_complete = λ is e. read_on_is_complete stream rest capacity position taken r ends held h is e;
      keeps_notes = λ all stands right. let start = starts_with_held all at position bytes c.args.is_end stands in
          notes_after stream (known_depth c.args.known c.requires.depth) all rest ends capacity position new tried.end c.end_after-self.result event after sound none start (rw w.position at (w.keeps_notes c.args.known all stands right));
      frame_is_timely = λ all stands known is. inl (none is).no_code;
      fault_is_timely = λ all stands known is f t u bad there. absurd ((none is).no_fault f t u bad there);
      waste_is_in_vain = λ all stands right.
          elim (wasted_by event c.is_due-is_due.result rest c.work_in_vain.result work) [
            | inl nothing ↦ inl (omega (arith, nothing, w.wastes_nothing, c.charge.ensures.wasted))
            | inr k ↦ (let due = not_due rest ends tried c.is_due-is_due.result (rw (c.held_from-rest.ensures, c.ends_there-ends.ensures, w.position) at c.is_due-is_due.ensures) k.1 in inr (
              k.0,
              none k.0,
              zero_before (drop position all) (summed_bytes tried.end) (max held (summed_bytes old.end)) w.summed (w.tries refl due.0 (omega (arith, due.1, w.tried)) c.args.known all stands right),
              omega (arith, k.2, w.wastes_nothing, c.charge.ensures.wasted),
            ))
          ];
      fault_is_charged = λ all stands.
          let k = held_stands all at position bytes c.args.is_end stands in
          charged_by stream (known_depth c.args.known c.requires.depth) rest k.0 (drop position all) k.1 ends capacity position new (moved_by event taken held) old.faults _ c.work_of_fault.result k.2 refl (omega (arith, w.charges_nothing)) (omega arith) event sound fault;
    })
