use Rattle.std.proofs.Common.{rules, ◌≡◌, ◌∙◌, ◌++◌, ◌*◌, ◌+◌, ◌^◌, ◌%◌, ◌<◌, ℕ, ap, arith}
use Rattle.std.specs.Int.{to_le_bytes, w32, w64}
use mir.Val.{of_z}
use Rattle.claxon.specs.Interleave.{sample_bytes}
use Rattle.claxon.proofs.Interleaving.{pair_bytes, whole_place}
use Rattle.claxon.proofs.interleave.U8SampleUnit.put_pair.Goals as goal

pub returns : goal.returns
unfolding sample_bytes
returns c =
    let first = c.args.first in
    let second = c.args.second in
    let low : c.from-low.result ≡ of_z w32 first = search rules in
    let high : c.from-high.result ≡ of_z w32 second = search rules in
    let small : c.from-low.result < 2 ^ 32 = omega arith in
    let few : c.from-high.result < 2 ^ 32 = omega arith in
    let n : ℕ = c.from-high.result * 2 ^ 32 % 2 ^ 64 + c.from-low.result in
    let all : c.to_le_bytes.result ≡ to_le_bytes w64 n = c.to_le_bytes.ensures in
    whole_place c.args.place.now c.copy_from_slice.new.self _ 8 c.requires (c.copy_from_slice.ensures.after ∙ all ∙ pair_bytes c.from-low.result c.from-high.result n small few (omega arith) ∙ ap (λ (z : ℕ). to_le_bytes w32 z ++ to_le_bytes w32 c.from-high.result) low ∙ ap (λ (z : ℕ). to_le_bytes w32 (of_z w32 first) ++ to_le_bytes w32 z) high)
