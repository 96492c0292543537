use Rattle.std.proofs.Common.{◌∙◌, List, ℕ, [], ◌∷◌, ◌++◌, ap, drop, arith, sym, append-nil}
use Rattle.std.proofs.lemmas.List.{drop-append-le}
use Rattle.std.proofs.lemmas.Result.{err_from_is_err_and}
use Rattle.claxon_recovery.proofs.Reading.{eof_is_end, eof_reads, on_fail, takes_reads}
use Rattle.claxon_recovery.proofs.window.Window.read_more.Goals as goal

pub returns-in_err-take_buffered-in-Some-clause-err : goal.returns-in_err-take_buffered-in-Some-clause-err
returns-in_err-take_buffered-in-Some-clause-err g c =
    let room = c.make_room.ensures in
    let w = c.make_room.new.self in
    let byte = c.in-Some.byte ∷ [] in
    let items = rw c.in_ok-push-in-Some.was at c.push.ensures.items in
    let r = c.from_residual-in_err-take_buffered-in-Some in
    let p = err_from_is_err_and r.result r.ensures.1 in
    rw (p.1, p.2) (on_fail g.R.ReadBytes.source c.in_err-take_buffered-in-Some.field-0.0
    (record {
      more = byte;
      held = ap (drop w.taken) items ∙ drop-append-le w.taken w.bytes.items byte (omega (arith, w.ordered, w.bytes.ok.0)) ∙ ap (λ (l : List ℕ). l ++ byte) room.pending;
      reads = rw room.source at (takes_reads (rw c.in-Some.is at c.in_ok-byte.ensures.eof_is_sound));
    })
    c.in_err-take_buffered-in-Some.ensures.err)

pub returns-in-None-clause-ok : goal.returns-in-None-clause-ok
returns-in-None-clause-ok g c =
    let room = c.make_room.ensures in
    let eof = rw c.in-None.is at c.in_ok-byte.ensures.eof_is_sound in (
      record { more = []; held = room.pending ∙ sym (append-nil _); reads = rw room.source at (eof_reads eof) },
      λ known. eof_is_end eof (rw room.source known),
    )
