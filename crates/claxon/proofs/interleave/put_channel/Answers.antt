use Rattle.std.proofs.Common.{◌≡◌, ◌+◌, ◌*◌, ◌∙◌, ℕ, length, get_or, pos, ap, arith, rules}
use Rattle.claxon.proofs.Interleaving.{channel_none, channel_more, chunk_in_bounds, offset_fits, place_in_chunk}
use Rattle.claxon.proofs.interleave.put_channel.Goals as goal

pub loop-i-init : goal.loop-i-init
loop-i-init g c = channel_none g.U.SampleUnit.units (g.U.SampleUnit.SIZE * g.row.CHANNELS) (g.U.SampleUnit.SIZE * c.args.ch) c.args.samples.now c.args.buffer.now

pub offset_bounds-buffer-at : goal.offset_bounds-buffer-at
offset_bounds-buffer-at g c =
    let size = g.U.SampleUnit.SIZE in
    let width = size * g.row.CHANNELS in
    let here = chunk_in_bounds width c.loop-i.i (length c.args.samples.now) (length c.loop-i.buffer) c.loop-i-test.true (c.loop-i.auto.buffer ∙ c.requires.buffer) in
    let place = place_in_chunk size c.args.ch g.row.CHANNELS c.requires.here in
    offset_fits _ (length c.args.buffer.now) _ (grind (arith, here, place, c.SIZE.ensures, c.SIZE-in-loop-i.ensures, c.loop-i.auto.buffer)) c.well_formed.1.1.0.1

pub loop-i-preserved : goal.loop-i-preserved
loop-i-preserved g c =
    let s = c.args.samples.now in
    let i = c.loop-i.i in
    let size = g.U.SampleUnit.SIZE in
    let width = size * g.row.CHANNELS in
    let put : c.put.new.place ≡ g.U.SampleUnit.units (get_or s i (pos 0)) = c.put.ensures ∙ ap g.U.SampleUnit.units (search rules) in
    let here = chunk_in_bounds width i (length s) (length c.loop-i.buffer) c.loop-i-test.true (c.loop-i.auto.buffer ∙ c.requires.buffer) in
    let len = ap length put ∙ g.met.U.SampleUnit.size (get_or s i (pos 0)) in
    let n = c.SIZE-in-loop-i-2.ensures in
    let place = place_in_chunk size c.args.ch g.row.CHANNELS c.requires.here in
    let start = ap (λ (k : ℕ). i * (k * g.row.CHANNELS) + c.SIZE-in-loop-i.result * c.args.ch) c.SIZE.ensures ∙ ap (λ (k : ℕ). i * width + k * c.args.ch) c.SIZE-in-loop-i.ensures in
    channel_more g.U.SampleUnit.units width (size * c.args.ch) i s c.args.buffer.now c.loop-i.buffer c.put.new.place put (omega (arith, n, len)) (omega (arith, n, place)) here c.loop-i.invariant start

pub returns : goal.returns
returns g c = record { puts_channel = λ i lt. c.loop-i.invariant.put i (omega arith) }
