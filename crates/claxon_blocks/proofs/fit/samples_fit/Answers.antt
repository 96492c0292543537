use Rattle.std.proofs.Common.{ℤ, List, [], get_or, refl, sym, subst, arith}
use Rattle.std.specs.Prelude.{All, IsTrue, ◌↔◌}
use Rattle.std.proofs.lemmas.List.{take_all}
use Rattle.std.proofs.lemmas.List.Elements.{All-nil}
use Rattle.std.proofs.lemmas.Option.{get_or_from_slice_get, slice_get_within}
use Rattle.claxon.specs.Bits.{FitsIn}
use Rattle.claxon_blocks.proofs.SamplesFit.{all_more}
use Rattle.claxon_blocks.proofs.fit.samples_fit.Goals as goal

pub loop-channel-init : goal.loop-channel-init
loop-channel-init g c = (λ e. All-nil (All (FitsIn c.args.bit_depth)), λ h. refl)

pub loop-channel-preserved : goal.loop-channel-preserved
loop-channel-preserved g c =
    let xs = c.args.block.now.channels in
    let i = c.loop-channel.channel in
    let found = c.channel-samples.ensures.samples in
    let same = get_or_from_slice_get xs i c.channel-samples.result.now [] found in
    all_more (All (FitsIn c.args.bit_depth)) xs i [] (slice_get_within xs i c.channel-samples.result.now found) c.loop-channel.fit c.all_fit-fit.result c.loop-channel.invariant
    (subst (λ (z : List ℤ). IsTrue c.all_fit-fit.result ↔ All (FitsIn c.args.bit_depth) z) (sym same) c.all_fit-fit.ensures)

pub returns : goal.returns
returns g c = subst (λ (z : List (List ℤ)). IsTrue c.loop-channel.fit ↔ All (All (FitsIn c.args.bit_depth)) z) (take_all c.loop-channel.channel c.args.block.now.channels (omega (arith, c.channels-channels.ensures.value))) c.loop-channel.invariant
