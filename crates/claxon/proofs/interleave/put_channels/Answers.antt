use Rattle.std.proofs.Common.{◌*◌, ◌-◌, ℕ, refl, sym, ap, ◌∙◌, arith}
use Rattle.std.specs.List.{between}
use Rattle.std.proofs.lemmas.List.Edits.{length-between}
use Rattle.claxon.proofs.Interleaving.{before_channels, channel_after, after_channels}
use Rattle.claxon.proofs.interleave.put_channels.Goals as goal

pub loop-ch-init : goal.loop-ch-init
loop-ch-init g c = before_channels g.U.SampleUnit.units c.args.block.now.channels g.U.SampleUnit.SIZE (g.U.SampleUnit.SIZE * g.row.CHANNELS) c.args.from (c.args.to - c.args.from) c.args.buffer.now

pub overflow_cast-ch : goal.overflow_cast-ch
overflow_cast-ch g c = omega (arith, c.loop-ch-test.true, c.requires.few)

pub loop-ch-preserved : goal.loop-ch-preserved
loop-ch-preserved g c =
    let from = c.args.from in
    let to = c.args.to in
    let channel = c.channel.result.now in
    channel_after g.U.SampleUnit.units g.U.SampleUnit.SIZE g.met.U.SampleUnit.size c.args.block.now.channels (g.U.SampleUnit.SIZE * g.row.CHANNELS) from to (to - from) c.loop-ch.ch channel (between from to channel) c.loop-ch.buffer c.put_channel.new.buffer c.channel.ensures.samples refl
    (omega (arith, c.requires.order)) (sym (length-between channel from to (omega (arith, c.requires.in_block, c.channel.ensures.len)))) c.loop-ch.invariant c.put_channel.ensures.puts_channel

pub returns : goal.returns
returns g c =
    let channels = c.args.block.now.channels in
    let n = c.args.to - c.args.from in
    let size = g.U.SampleUnit.SIZE in
    after_channels g.U.SampleUnit.units size g.met.U.SampleUnit.size channels (size * g.row.CHANNELS) n c.args.from c.loop-ch.ch c.loop-ch.buffer (c.loop-ch.auto.buffer ∙ c.requires.buffer) (ap (λ (k : ℕ). size * k) (sym c.requires.channels)) (omega (arith, c.loop-ch-test.false, c.requires.channels)) c.loop-ch.invariant
