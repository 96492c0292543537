use Rattle.std.proofs.Common.{◌≤◌, ◌∙◌, arith, ap, length, refl, subst}
use Rattle.std.proofs.lemmas.Result.{err_from_is_err_and}
use Rattle.claxon_rescue.specs.LookAhead.{look_ahead}
use Rattle.claxon_rescue.specs.Rescue.{AreOfStream}
use Rattle.claxon_rescue.specs.Waiting.{waiting_frames}
use Rattle.claxon_rescue.proofs.Placed.{same_file}
use Rattle.claxon_rescue.proofs.Waited.{all_flushed, first_of_stream, flush_stops, none_flushed, of_stream_after, one_flushed}
use Rattle.claxon_rescue.proofs.parts.Rescue.put_waiting.Goals as goal

pub loop-there-init : goal.loop-there-init
loop-there-init g c = record {
  so_far = none_flushed c.args.rules.now c.args.self.now c.args.wav.now;
  reference = refl;
  header = record { layout_is = refl; announced_is = refl };
}

pub put_frame-requires : goal.put_frame-requires
put_frame-requires g c =
    let info = c.args.rules.now.info in
    let h = c.loop-there.invariant.so_far in
    let all = of_stream_after info h.first (waiting_frames c.loop-there.self.waiting) (subst (AreOfStream info) h.were c.requires.of_stream) in
    record {
      has_bit_depth = c.requires.has_bit_depth;
      is_file_of = same_file info c.args.wav.now c.loop-there.wav c.loop-there.invariant.header c.requires.is_file_of;
      of_stream = first_of_stream info c.in-Some.there (waiting_frames c.take_first.new.self) (subst (AreOfStream info) c.in-Some.ensures.takes_first all);
    }

pub loop-there-preserved : goal.loop-there-preserved
loop-there-preserved g c =
    let v = c.loop-there.invariant in
    let were = c.in-Some.ensures.takes_first in
    let count = ap length were in
    let few : length (waiting_frames c.take_first.new.self) ≤ look_ahead = omega (arith, count, c.loop-there.self.waiting.few) in
    record {
      so_far = one_flushed c.args.rules.now c.args.self.now c.loop-there.self _ c.put_frame.new.self c.args.wav.now c.loop-there.wav c.put_frame.new.wav c.in-Some.there v.so_far refl refl refl were few c.in_ok-put_frame.ensures.is_sound c.put_frame.ensures.keeps_room;
      reference = c.put_frame.ensures.same_output ∙ v.reference;
      header = record { layout_is = c.put_frame.ensures.same_header.layout_is ∙ v.header.layout_is; announced_is = c.put_frame.ensures.same_header.announced_is ∙ v.header.announced_is };
    }

pub returns-in_err-put_frame-clause-fault_is_sound : goal.returns-in_err-put_frame-clause-fault_is_sound
returns-in_err-put_frame-clause-fault_is_sound g c =
    let p = err_from_is_err_and c.from_residual.result c.from_residual.ensures.1 in
    let were = c.in-Some.ensures.takes_first in
    let count = ap length were in
    let few : length (waiting_frames c.take_first.new.self) ≤ look_ahead = omega (arith, count, c.loop-there.self.waiting.few) in
    rw (p.1, p.2) (flush_stops c.args.rules.now c.args.self.now c.loop-there.self (waiting_frames c.take_first.new.self) c.args.wav.now c.loop-there.wav c.put_frame.new.wav c.in-Some.there c.in_err-put_frame.field-0.0 c.loop-there.invariant.so_far were few c.in_err-put_frame.ensures.fault_is_sound)

pub returns-in_err-put_frame-clause-keeps_room : goal.returns-in_err-put_frame-clause-keeps_room
returns-in_err-put_frame-clause-keeps_room g c = λ n has. c.put_frame.ensures.keeps_room n (c.loop-there.invariant.so_far.room n has)

pub returns-clause-keeps_room : goal.returns-clause-keeps_room
returns-clause-keeps_room g c = c.loop-there.invariant.so_far.room

pub returns-clause-is_sound : goal.returns-clause-is_sound
returns-clause-is_sound g c =
    let none = c.in_default.ensures.takes_first in
    all_flushed c.args.rules.now c.args.self.now c.loop-there.self _ c.args.wav.now c.loop-there.wav c.loop-there.invariant.so_far none.0 refl refl refl none.1
