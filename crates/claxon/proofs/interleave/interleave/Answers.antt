use Rattle.std.proofs.Common.{◌≡◌, ◌*◌, ◌-◌, ℕ, length, refl, sym, ap, ◌∙◌, arith}
use Rattle.std.specs.List.{between, flat_map}
use Rattle.std.proofs.lemmas.List.Edits.{length-between}
use Rattle.claxon.proofs.Interleaving.{before_channels, after_channels, mono_part, stereo_part}
use Rattle.claxon.proofs.interleave.interleave.Goals as goal

pub returns-in-0 : goal.returns-in-0
returns-in-0 g c =
    let channels = c.args.block.now.channels in
    let from = c.args.from in
    let n = c.args.to - from in
    let size = g.U.SampleUnit.SIZE in
    let none : length channels ≡ 0 = sym c.channels.ensures.value ∙ c.in-0.is in
    let units = g.U.SampleUnit.units in
    after_channels units size g.met.U.SampleUnit.size channels 0 n from 0 c.args.buffer.now c.requires.buffer (omega (arith, ap (λ (k : ℕ). size * k) none)) (omega (arith, none)) (before_channels units channels size 0 from n c.args.buffer.now)

pub returns-in-1 : goal.returns-in-1
returns-in-1 g c =
    let from = c.args.from in
    let to = c.args.to in
    let channel = c.channel.result.now in
    let s = between from to channel in
    let n = length-between channel from to (omega (arith, c.requires.in_block, c.channel.ensures.len)) in
    c.put_all.ensures ∙ ap (flat_map g.U.SampleUnit.units) (mono_part c.args.block.now.channels channel s from to (to - from) (sym c.channels.ensures.value ∙ c.in-1.is) c.channel.ensures.samples refl refl n)

pub returns-in-2 : goal.returns-in-2
returns-in-2 g c =
    let from = c.args.from in
    let to = c.args.to in
    let left = c.channel-in-2.result.now in
    let right = c.channel-in-2-2.result.now in
    let s = between from to left in
    let t = between from to right in
    let n = length-between left from to (omega (arith, c.requires.in_block, c.channel-in-2.ensures.len)) in
    c.put_stereo.ensures ∙ ap (flat_map g.U.SampleUnit.units) (stereo_part c.args.block.now.channels left right s t from to (to - from) (sym c.channels.ensures.value ∙ c.in-2.is) c.channel-in-2.ensures.samples c.channel-in-2-2.ensures.samples refl refl refl n)
