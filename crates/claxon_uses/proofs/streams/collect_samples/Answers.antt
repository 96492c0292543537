use Rattle.std.proofs.Common.{None, Some}
use Rattle.std.proofs.lemmas.Result.{err_from_is_err_and}
use Rattle.claxon.proofs.SampleRuns.{gave_all, gave_more, gave_none}
use Rattle.claxon.specs.FrameReader.{stream_with}
use Rattle.claxon_uses.proofs.Collecting.{collected, gave_as, stops}
use Rattle.claxon_uses.proofs.streams.collect_samples.Goals as goal

pub loop-all-init : goal.loop-all-init
loop-all-init g c = record { so_far = gave_as c.new-all.ensures.items (gave_none g.R.ReadBytes.source c.new-samples.result c.new-samples.ensures.goes_on) }

pub loop-all-preserved : goal.loop-all-preserved
loop-all-preserved g c =
    let k = c.in_ok-push_next.ensures.some c.if-branch.true in
    record { so_far = gave_as k.1 (gave_more g.R.ReadBytes.source c.loop-all.invariant.so_far k.0 c.push_next.new.samples k.2) }

pub returns-in_err-push_next-clause-err : goal.returns-in_err-push_next-clause-err
returns-in_err-push_next-clause-err g c =
    let n = c.new-samples.ensures in
    let p = err_from_is_err_and c.from_residual.result c.from_residual.ensures.1 in
    rw (p.1, p.2) (stops g.R.ReadBytes.source (Some (stream_with c.args.info)) c.args.input c.new-samples.result n.input n.stream n.none_left _ _ _ c.push_next.new.samples c.loop-all.invariant.so_far c.in_err-push_next.ensures.err)

pub returns-clause-ok : goal.returns-clause-ok
returns-clause-ok g c =
    let n = c.new-samples.ensures in
    let k = c.in_ok-push_next.ensures.none c.if-branch.false in
    let h = gave_as k.0 c.loop-all.invariant.so_far in
    collected g.R.ReadBytes.source (Some (stream_with c.args.info)) c.args.input c.new-samples.result n.input n.stream n.none_left None _ c.push_next.new.samples (gave_all g.R.ReadBytes.source h None c.push_next.new.samples k.1)
