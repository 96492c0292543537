use Rattle.std.proofs.Common.{◌≡◌, ◌+◌, ◌∙◌, ℕ, ap, length, arith, pos}
use Rattle.std.proofs.lemmas.Grind.{common_steps}
use Rattle.std.proofs.lemmas.List.FromFn.{fill_by_all}
use Rattle.claxon_md5.specs.Planar.{interleaved_sample}
use Rattle.claxon_md5.proofs.Planar.{map_along}
use Rattle.claxon_md5.proofs.packing.interleave.Goals as goal

pub returns : goal.returns
returns g c =
    let f = interleaved_sample g.row.CHANNELS c.args.samples.now in
    let from = c.args.from in
    let n = length c.args.buffer.now in
    let shifted = λ (k : ℕ). f (from + k) in
    fill_by_all shifted c.loop-i.buffer n (pos 0) c.loop-i.auto.buffer (λ k lt. c.loop-i.invariant k (omega arith))
    ∙ map_along shifted f 0 from n (λ k lt. let z : 0 + k ≡ k = omega arith in ap (λ (j : ℕ). f (from + j)) z)

pub loop-i-preserved : goal.loop-i-preserved
loop-i-preserved g c = grind (arith, common_steps)
