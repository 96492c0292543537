use Rattle.std.proofs.Common.{◌≡◌, ◌∙◌, ap, get_or, pos, length, arith, rules}
use Rattle.claxon.specs.Interleave.{length-sample_bytes, sample_bytes}
use Rattle.claxon.proofs.Interleaving.{all_stored, stored_more}
use Rattle.claxon.proofs.interleave.U8SampleUnit.put_all.Goals as goal

pub loop-i-preserved : goal.loop-i-preserved
loop-i-preserved c =
    let samples = c.args.samples.now in
    let i = c.loop-i.i in
    let x = get_or samples i (pos 0) in
    let is : c.put.new.place ≡ sample_bytes x = c.put.ensures ∙ ap sample_bytes (search rules) in
    stored_more sample_bytes samples i 4 _ c.loop-i.buffer c.put.new.place c.loop-i-test.true (omega arith) (ap length is ∙ length-sample_bytes x) is c.loop-i.invariant

pub returns : goal.returns
returns c = all_stored sample_bytes c.args.samples.now c.loop-i.i 4 c.loop-i.buffer (omega arith) (omega arith) c.loop-i.invariant
