use Rattle.std.proofs.Common.{◌≡◌, arith, ap, length, refl, subst}
use Rattle.claxon_rescue.specs.LookAhead.{look_ahead}
use Rattle.claxon_rescue.specs.Rescue.{AreOfStream}
use Rattle.claxon_rescue.specs.Waiting.{waiting_frames}
use Rattle.claxon_rescue.proofs.Waited.{first_of_stream, no_room_made, room_answer}
use Rattle.claxon_rescue.proofs.parts.Rescue.make_room.Goals as goal

pub returns-then-not-is_full-clause-is_sound : goal.returns-then-not-is_full-clause-is_sound
returns-then-not-is_full-clause-is_sound g c = no_room_made c.args.rules.now c.args.self.now c.args.wav.now (c.is_full.ensures.has_room c.if-not-is_full.true)

pub put_frame-requires-clause-of_stream : goal.put_frame-requires-clause-of_stream
put_frame-requires-clause-of_stream g c =
    let info = c.args.rules.now.info in
    first_of_stream info c.in-Some.there (waiting_frames c.take_first.new.self) (subst (AreOfStream info) c.in-Some.ensures.takes_first c.requires.of_stream)

pub returns-in-Some-clause-is_sound : goal.returns-in-Some-clause-is_sound
returns-in-Some-clause-is_sound g c =
    let were = c.in-Some.ensures.takes_first in
    let count = ap length were in
    let full = c.is_full.ensures.full c.if-not-is_full.false in
    let long : length (waiting_frames c.take_first.new.self) ≡ look_ahead = omega (arith, count, full) in
    room_answer g.W.Write.contents c.args.rules.now c.args.self.now _ c.put_frame.new.self c.args.wav.now c.put_frame.new.wav c.in-Some.there c.put_frame.result refl refl refl were long c.put_frame.ensures.is_sound
