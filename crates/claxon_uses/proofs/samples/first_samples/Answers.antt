use Rattle.std.proofs.lemmas.Result.{err_from_is_err_and}
use Rattle.claxon.specs.FlacReader.{samples_input}
use Rattle.claxon.specs.FlacSamples.{samples_stream}
use Rattle.claxon_uses.proofs.FirstSamples.{first_samples_promises, not_opened}
use Rattle.claxon_uses.proofs.Opened.{opened}
use Rattle.claxon_uses.proofs.samples.first_samples.Goals as goal

pub returns-in_err-flac : goal.returns-in_err-flac
returns-in_err-flac g c =
    let p = err_from_is_err_and c.from_residual.result c.from_residual.ensures.1 in
    let e = c.in_err-flac.ensures in
    let k = not_opened {A = g.row.A.Denot} c.args.count g.R.Read.remaining c.args.reader c.in_err-flac.field-0.0 e.is_complete e.fault_is_sound e.fault_is_complete in
    rw (p.1, p.2) (record { are_sound = k.sound; are_complete = k.complete; fault_is_sound = k.fault; fault_is_complete = k.named })

pub returns : goal.returns
returns g c =
    let n = c.samples.ensures in
    let e = c.in_ok-flac.ensures in
    let flac = c.in_ok-flac.flac in
    let old = c.samples.result in
    let o = opened g.R.Read.remaining c.args.reader flac (samples_input old) (samples_stream old) e.is_sound e.is_complete e.fault_is_complete n.input n.stream in
    let k = first_samples_promises c.args.count g.R.Read.remaining c.args.reader flac old o n.none_left c.first_of.result c.first_of.ensures.ok c.first_of.ensures.err in
    record { are_sound = k.sound; are_complete = k.complete; fault_is_sound = k.fault; fault_is_complete = k.named }
