use Rattle.std.proofs.Common.{◌≡◌, ◌+◌, length, arith, rules, w32}
use Rattle.std.specs.Prelude.{IfSome, Some, slice_get}
use Rattle.std.proofs.lemmas.Int.{to_z-of_z}
use Rattle.claxon.proofs.SamplesInTurn.{next_sample}
use Rattle.claxon.proofs.samples.FlacSamples.give.Goals as goal

pub returns-then-self-channels-clause-sample : goal.returns-then-self-channels-clause-sample
returns-then-self-channels-clause-sample g c =
    let s = c.args.self.now in
    let is : IfSome (slice_get s.block.channels s.channel) (λ samples. slice_get samples s.sample ≡ Some c.sample-sample.result) = search (rules, c.sample-sample.ensures) in
    let same = to_z-of_z w32 c.sample-sample.result (record { sfits = c.sample-sample.type_inv }) in
    rw same (next_sample s.block.channels s.sample s.channel _ c.sample-sample.result c.requires (s.in_place c.requires) (omega arith) is)

pub returns-else-self-channels-clause-sample : goal.returns-else-self-channels-clause-sample
returns-else-self-channels-clause-sample g c =
    let s = c.args.self.now in
    let small = s.in_place c.requires in
    let last : length s.block.channels ≡ s.channel + 1 = omega (arith, small, c.if-self-channels.false, c.channels-channels.ensures.value) in
    let is : IfSome (slice_get s.block.channels s.channel) (λ samples. slice_get samples s.sample ≡ Some c.sample-sample.result) = search (rules, c.sample-sample.ensures) in
    let same = to_z-of_z w32 c.sample-sample.result (record { sfits = c.sample-sample.type_inv }) in
    rw same (next_sample s.block.channels s.sample s.channel _ c.sample-sample.result c.requires small (omega (arith, last)) is)
