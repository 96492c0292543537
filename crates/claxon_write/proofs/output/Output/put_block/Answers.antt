use Rattle.std.proofs.Common.{◌≡◌, ◌+◌, ◌-◌, ◌++◌, List, ℕ, refl, sym, ap, ◌∙◌, arith}
use Rattle.std.proofs.lemmas.List.{append-nil}
use Rattle.std.proofs.lemmas.Result.{err_from_is_err_and}
use Rattle.std.proofs.lemmas.Grind.{common_steps}
use Rattle.claxon.specs.Interleave.{interleave_range}
use Rattle.claxon_write.specs.SampleBytes.{bytes_of_samples}
use Rattle.claxon_write.proofs.Puts.{puts_none, puts_both, puts_as, puts_pending, fails_after, fails_more, fails_as, bytes_all}
use Rattle.claxon_write.proofs.SampleBytes.{bytes_more, bytes_none}
use Rattle.claxon_write.proofs.output.Output.put_block.Goals as goal

pub loop-from-init : goal.loop-from-init
loop-from-init g c = record { inside = omega arith; reference = refl; unflushed = refl; puts = puts_as (sym (bytes_none c.args.block.now.channels)) (puts_none c.args.self.now) }

pub loop-from-preserved : goal.loop-from-preserved
loop-from-preserved g c =
    let channels = c.args.block.now.channels in
    let from = c.loop-from.from in
    let n = c.min-count.result in
    let first = bytes_of_samples (interleave_range channels 0 from) in
    let count : from + n - from ≡ n = omega arith in
    let added = rw count at c.add_samples.ensures.added in
    record {
      inside = omega (arith, c.min-count.ensures, c.loop-from.invariant.inside);
      reference = c.in_ok-reserve.ensures.same_writer ∙ c.loop-from.invariant.reference;
      unflushed = c.in_ok-reserve.ensures.is_unflushed ∙ c.loop-from.invariant.unflushed;
      puts = puts_as (bytes_more channels from n (from + n) refl) (puts_both (puts_as (append-nil first) (puts_both c.loop-from.invariant.puts c.in_ok-reserve.ensures.is_sound)) (puts_pending g.W.Write.contents c.reserve.new.self _ (bytes_of_samples (interleave_range channels from n)) refl added));
    }

pub returns-clause-is_sound : goal.returns-clause-is_sound
returns-clause-is_sound g c =
    puts_as (bytes_all c.args.block.now.channels c.loop-from.from (omega (arith, c.loop-from.invariant.inside, c.loop-from-test.false, c.duration-duration.ensures.value))) c.loop-from.invariant.puts

pub returns-in_err-reserve-clause-fault_is_sound : goal.returns-in_err-reserve-clause-fault_is_sound
returns-in_err-reserve-clause-fault_is_sound g c =
    let p = err_from_is_err_and c.from_residual.result c.from_residual.ensures.1 in
    let channels = c.args.block.now.channels in
    let from = c.loop-from.from in
    let d = c.duration-duration.result in
    let first = bytes_of_samples (interleave_range channels 0 from) in
    let all = ap (λ (z : List ℕ). z ++ bytes_of_samples (interleave_range channels from (d - from))) (append-nil first) ∙ bytes_more channels from (d - from) d (omega (arith, c.loop-from.invariant.inside)) ∙ bytes_all channels d c.duration-duration.ensures.value in
    rw (p.1, p.2) (fails_as all (fails_more (bytes_of_samples (interleave_range channels from (d - from))) (fails_after c.loop-from.invariant.puts c.in_err-reserve.ensures.fault_is_sound)))

pub reserve-requires : goal.reserve-requires
reserve-requires g c = grind (arith, common_steps)
