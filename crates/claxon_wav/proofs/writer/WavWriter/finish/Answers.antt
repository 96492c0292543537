use Rattle.std.proofs.Common.{inl, inr}
use Rattle.claxon_wav.proofs.Ending.{finishes, tries}
use Rattle.claxon_wav.proofs.writer.WavWriter.finish.Goals as goal

pub returns-clause-is_sound : goal.returns-clause-is_sound
returns-clause-is_sound g c = finishes g.W.Write.contents g.W.Seek.stream_position c.update_header-updated.result c.args.self.now c.pad-padded.new.self c.update_header-updated.new.self c.in_ok-padded.ensures.is_sound.0 c.pad-padded.ensures.same_header c.pad-padded.ensures.count c.update_header-updated.ensures.is_sound

pub returns-clause-tries_to_end : goal.returns-clause-tries_to_end
returns-clause-tries_to_end g c = tries g.W.Write.contents g.W.Seek.stream_position c.update_header-updated.result c.args.self.now c.pad-padded.new.self c.update_header-updated.new.self (inl c.in_ok-padded.ensures.is_sound) c.pad-padded.ensures.same_header c.pad-padded.ensures.count c.update_header-updated.ensures.is_sound c.update_header-updated.ensures.flushes c.update_header-updated.ensures.fault_is_sound

pub returns-in_err-padded-clause-tries_to_end : goal.returns-in_err-padded-clause-tries_to_end
returns-in_err-padded-clause-tries_to_end g c = tries g.W.Write.contents g.W.Seek.stream_position c.update_header-updated.result c.args.self.now c.pad-padded.new.self c.update_header-updated.new.self (inr c.in_err-padded.ensures.err.1) c.pad-padded.ensures.same_header c.pad-padded.ensures.count c.update_header-updated.ensures.is_sound c.update_header-updated.ensures.flushes c.update_header-updated.ensures.fault_is_sound
