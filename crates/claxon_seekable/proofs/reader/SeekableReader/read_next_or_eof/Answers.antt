use Rattle.std.proofs.lemmas.Result.{err_from_is_err_and}
use Rattle.claxon_seekable.proofs.Clocks.{frame_is_noted}
use Rattle.claxon_seekable.proofs.Nexts.{at_end, cut, decoded, failed, faulty}
use Rattle.claxon_seekable.proofs.reader.SeekableReader.read_next_or_eof.Goals as goal

pub returns-in-Decoded-clause-has_sample : goal.returns-in-Decoded-clause-has_sample
returns-in-Decoded-clause-has_sample g c =
    let p = decoded g.R.Read.remaining c.args.self.now c.next_event.new.self c.in-Decoded.frame (rw c.in-Decoded.is at c.in_ok-frame.ensures.is) in
    p.has_sample

pub returns-in-Decoded-clause-is_complete : goal.returns-in-Decoded-clause-is_complete
returns-in-Decoded-clause-is_complete g c =
    let p = decoded g.R.Read.remaining c.args.self.now c.next_event.new.self c.in-Decoded.frame (rw c.in-Decoded.is at c.in_ok-frame.ensures.is) in
    p.is_complete

pub returns-in-Decoded-clause-is_sound : goal.returns-in-Decoded-clause-is_sound
returns-in-Decoded-clause-is_sound g c =
    let p = decoded g.R.Read.remaining c.args.self.now c.next_event.new.self c.in-Decoded.frame (rw c.in-Decoded.is at c.in_ok-frame.ensures.is) in
    p.is_sound

pub returns-in-Decoded-clause-is_noted : goal.returns-in-Decoded-clause-is_noted
returns-in-Decoded-clause-is_noted g c =
    frame_is_noted c.args.self.now c.next_event.new.self g.R.Read.remaining c.in-Decoded.frame (rw c.in-Decoded.is at c.in_ok-frame.ensures.is) (rw c.in-Decoded.is at c.in_ok-frame.ensures.is_noted)

pub returns-in-End-clause-has_sample : goal.returns-in-End-clause-has_sample
returns-in-End-clause-has_sample g c =
    let p = at_end g.R.Read.remaining c.args.self.now c.next_event.new.self (rw c.in-End.is at c.in_ok-frame.ensures.is) in
    p.has_sample

pub returns-in-End-clause-is_complete : goal.returns-in-End-clause-is_complete
returns-in-End-clause-is_complete g c =
    let p = at_end g.R.Read.remaining c.args.self.now c.next_event.new.self (rw c.in-End.is at c.in_ok-frame.ensures.is) in
    p.is_complete

pub returns-in-Faulty-clause-has_sample : goal.returns-in-Faulty-clause-has_sample
returns-in-Faulty-clause-has_sample g c =
    let p = faulty g.R.Read.remaining c.args.self.now c.next_event.new.self c.in-Faulty.fault (rw c.in-Faulty.is at c.in_ok-frame.ensures.is) in
    p.has_sample

pub returns-in-Faulty-clause-is_complete : goal.returns-in-Faulty-clause-is_complete
returns-in-Faulty-clause-is_complete g c =
    let p = faulty g.R.Read.remaining c.args.self.now c.next_event.new.self c.in-Faulty.fault (rw c.in-Faulty.is at c.in_ok-frame.ensures.is) in
    p.is_complete

pub returns-in-Cut-clause-has_sample : goal.returns-in-Cut-clause-has_sample
returns-in-Cut-clause-has_sample g c =
    let p = cut g.R.Read.remaining c.args.self.now c.next_event.new.self _ c.unexpected_eof.result c.unexpected_eof.ensures (rw c.in-Cut.is at c.in_ok-frame.ensures.is) in
    p.has_sample

pub returns-in-Cut-clause-is_complete : goal.returns-in-Cut-clause-is_complete
returns-in-Cut-clause-is_complete g c =
    let p = cut g.R.Read.remaining c.args.self.now c.next_event.new.self _ c.unexpected_eof.result c.unexpected_eof.ensures (rw c.in-Cut.is at c.in_ok-frame.ensures.is) in
    p.is_complete

pub returns-in_err-frame-clause-has_sample : goal.returns-in_err-frame-clause-has_sample
returns-in_err-frame-clause-has_sample g c =
    let p = failed g.R.Read.remaining c.args.self.now c.next_event.new.self c.in_err-frame.field-0.0 c.in_err-frame.ensures.is in
    let e = err_from_is_err_and c.from_residual.result c.from_residual.ensures.1 in
    rw (e.1, e.2) p.has_sample

pub returns-in_err-frame-clause-is_complete : goal.returns-in_err-frame-clause-is_complete
returns-in_err-frame-clause-is_complete g c =
    let p = failed g.R.Read.remaining c.args.self.now c.next_event.new.self c.in_err-frame.field-0.0 c.in_err-frame.ensures.is in
    let e = err_from_is_err_and c.from_residual.result c.from_residual.ensures.1 in
    rw (e.1, e.2) p.is_complete
