use Rattle.std.proofs.Common.{◌≡◌, ◌*◌, ◌<◌, List, [], drop, ap, inl, inr, sym, subst, refl, rules, arith, ◌∙◌}
use Rattle.std.specs.Prelude.{Err}
use Rattle.std.proofs.lemmas.List.{drop_at}
use Rattle.std.specs.Option.{option_map}
use Rattle.claxon.specs.FrameReader.{frame_input, stream_with}
use Rattle.claxon.specs.Promises.{Remains}
use Rattle.claxon.specs.Errors.TheVariants.{OutOfMemory}
use Rattle.claxon.specs.StartedFrame.{RestAnswer, started_info, whole_answer}
use Rattle.claxon.proofs.FramesInMemory.{SliceFramePromises, slice_bytes, slice_remains, slice_never_fails, slice_rest_promises}
use Rattle.claxon_seek.proofs.AtStart.{fault_is_taken, rest_at_start}
use Rattle.claxon_seek.proofs.Searches.{known_depth, rest_is}
use Rattle.claxon_seek.proofs.at_start.rest_at_start.Goals as goal

pub returns : goal.returns
returns c =
    let e = rw c.frames_of-frames.ensures.stream at c.read_rest-block.ensures in
    let old = c.frames_of-frames.result in
    let new = c.read_rest-block.new.self in
    let stream = option_map stream_with c.args.known in
    let bytes = c.args.bytes.now in
    let started = c.args.header.started in
    let len = c.args.header.len in
    let there = c.requires.is_there in
    let header : List _ = there.0 in
    let rest : List _ = there.1 in
    let after : drop len bytes ≡ rest = ap (drop len) there.3 ∙ drop_at header rest len (sym there.4) in
    let remains = slice_remains old (frame_input old) _ refl c.frames_of-frames.ensures.position c.frames_of-frames.ensures.inner in
    let left : Remains (slice_bytes old) rest = subst (λ (s : List _). Remains (slice_bytes old) s) (rest_is bytes len ∙ after) remains in
    let r = c.read_rest-block.result in
    let code = there.2 in
    let promises = slice_rest_promises stream (known_depth c.args.known c.requires.depth) started header rest code (slice_bytes old) (slice_bytes new) left (slice_never_fails old new) _ r (e.is_sound header code) (e.is_complete header code) (e.fault_is_sound header code) (e.fault_is_complete header code) e.out_of_memory_keeps_bytes in
    let count = c.saturating_sub.result in
    record {
      at_start = rest_at_start stream bytes header rest (slice_bytes old) (frame_input new) count there.3 left (search rules) r (e.is_sound header code) promises;
      memory_is_counted = record {
        refused = λ m.
            let room = rw c.info-info.ensures.says at c.in-Some.ensures.is_counted.0 in
            absurd (omega (arith, room, (e.out_of_memory_keeps_bytes m).0));
        granted = λ _. c.in-Some.ensures.is_counted.1;
      };
      fault_is_taken = fault_is_taken stream bytes header rest (slice_bytes old) (frame_input new) count there.3 left (search rules) r (e.fault_is_sound header code);
    }

-- the memory was refused
pub returns-in_default-clause-at_start : goal.returns-in_default-clause-at_start
returns-in_default-clause-at_start c =
    let old = c.frames_of-frames.result in
    let stream = option_map stream_with c.args.known in
    let bytes = c.args.bytes.now in
    let started = c.args.header.started in
    let len = c.args.header.len in
    let there = c.requires.is_there in
    let header : List _ = there.0 in
    let rest : List _ = there.1 in
    let after : drop len bytes ≡ rest = ap (drop len) there.3 ∙ drop_at header rest len (sym there.4) in
    let remains = slice_remains old (frame_input old) _ refl c.frames_of-frames.ensures.position c.frames_of-frames.ensures.inner in
    let left : Remains (slice_bytes old) rest = subst (λ (s : List _). Remains (slice_bytes old) s) (rest_is bytes len ∙ after) remains in
    let info = rw c.info-info.ensures.says at c.info-info.ensures in
    let some : 0 < (started_info started).channels * (started_info started).duration = grind (arith, info.min_channels, info.min_duration) in
    let r : RestAnswer = Err OutOfMemory in
    let m = slice_rest_promises stream (known_depth c.args.known c.requires.depth) started header rest there.2 (slice_bytes old) (slice_bytes old) left (slice_never_fails old old) 0 r
    tt (λ block t others code remain. inr (inl refl)) (inl refl) (λ f t others bad remain. inr (inl refl)) (λ _. (some, λ known. (known, ([], refl, refl)))) in
    let n = subst (λ (s : List _). SliceFramePromises stream s (whole_answer r)) (sym there.3) m in
    record { sound = tt; complete = n.complete; eof = n.eof; fault = n.fault; named = n.named; memory = n.memory }
