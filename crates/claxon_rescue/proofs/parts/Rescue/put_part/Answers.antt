use Rattle.std.proofs.Common.{◌∙◌, refl, sym}
use Rattle.std.proofs.lemmas.Bool.{false≢true}
use Rattle.std.proofs.lemmas.Result.{err_from_is_err_and}
use Rattle.claxon_rescue.proofs.RescuedParts.{damage_part, frame_waits, other_frame}
use Rattle.claxon_rescue.proofs.parts.Rescue.put_part.Goals as goal

pub returns-in_default-clause-is_sound : goal.returns-in_default-clause-is_sound
returns-in_default-clause-is_sound g c = damage_part g.W.Write.contents c.args.rules.now c.args.self.now c.args.wav.now c.args.part c.in_default.not-Frame

pub returns-then-not-is_of_stream-clause-is_sound : goal.returns-then-not-is_of_stream-clause-is_sound
returns-then-not-is_of_stream-clause-is_sound g c = other_frame g.W.Write.contents c.args.rules.now c.args.self.now c.args.wav.now c.args.part c.in-Frame.there c.in-Frame.is (λ stream. false≢true (sym c.if-not-is_of_stream.true ∙ c.is_of_stream.ensures.1 stream))

pub returns-clause-is_sound : goal.returns-clause-is_sound
returns-clause-is_sound g c =
    frame_waits g.W.Write.contents c.args.rules.now c.args.self.now c.make_room.new.self _ c.args.wav.now c.make_room.new.wav c.args.part c.in-Frame.there c.in-Frame.is (c.is_of_stream.ensures.0 c.if-not-is_of_stream.false) c.in_ok-make_room.ensures.is_sound refl refl refl c.push.ensures.frames

pub returns-in_err-make_room-clause-fault_is_sound : goal.returns-in_err-make_room-clause-fault_is_sound
returns-in_err-make_room-clause-fault_is_sound g c =
    let p = err_from_is_err_and c.from_residual.result c.from_residual.ensures.1 in
    rw (p.1, p.2) c.in_err-make_room.ensures.fault_is_sound
