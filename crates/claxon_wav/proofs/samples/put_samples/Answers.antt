use Rattle.std.proofs.Common.{◌≡◌, ◌≤◌, ◌*◌, ◌-◌, ◌∙◌, ℤ, refl, ap, take, get_or, pos, arith, rules, length, w32}
use Rattle.std.specs.Int.{to_le_bytes}
use mir.Val.{SFits}
use Rattle.std.proofs.lemmas.Int.{to_z-of_z}
use Rattle.claxon_wav.specs.Samples.{bytes_of_sample, shifted_sample}
use Rattle.claxon.proofs.Interleaving.{all_stored, chunk_in_bounds, stored_more}
use Rattle.claxon_wav.proofs.PackedSamples.{length-bytes_of_sample, taken}
use Rattle.claxon_wav.proofs.samples.put_samples.Goals as goal

pub loop-i-init : goal.loop-i-init
loop-i-init g c = let none : 0 * g.row.N ≡ 0 = omega arith in ap (λ k. take k c.args.buffer.now) none

pub loop-i-preserved : goal.loop-i-preserved
loop-i-preserved g c =
    let size = g.row.N in
    let samples = c.args.samples.now in
    let i = c.loop-i.i in
    let x = get_or samples i (pos 0) in
    let f : SFits w32 x = search rules in
    let small : size ≤ 4 = omega (arith, c.requires.size, c.requires.few_bits) in
    let bytes : c.copy_from_slice.new.self ≡ bytes_of_sample size c.args.valid_bits x =
    taken size c.args.valid_bits (8 * size - c.args.valid_bits) c.silence-silence.result x c.scale_up-four.result c.copy_from_slice.new.self c.copy_from_slice.ensures.after
    (c.scale_up-four.ensures ∙ ap (λ (z : ℤ). to_le_bytes w32 (shifted_sample (8 * size - c.args.valid_bits) c.silence-silence.result z)) (to_z-of_z w32 x f)) refl c.silence-silence.ensures.value in
    let len : length c.copy_from_slice.new.self ≡ size = ap length bytes ∙ length-bytes_of_sample size c.args.valid_bits x small in
    let here = chunk_in_bounds size i (length samples) (length c.loop-i.buffer) c.loop-i-test.true (c.loop-i.auto.buffer ∙ c.requires.buffer) in
    stored_more (bytes_of_sample size c.args.valid_bits) samples i size _ c.loop-i.buffer c.copy_from_slice.new.self c.loop-i-test.true (omega (arith, here)) len bytes c.loop-i.invariant

pub returns : goal.returns
returns g c = all_stored (bytes_of_sample g.row.N c.args.valid_bits) c.args.samples.now c.loop-i.i g.row.N c.loop-i.buffer (omega arith) (c.loop-i.auto.buffer ∙ c.requires.buffer) c.loop-i.invariant

pub overflow_mul-i : goal.overflow_mul-i
overflow_mul-i g c = let here = chunk_in_bounds g.row.N c.loop-i.i (length c.args.samples.now) (length c.loop-i.buffer) c.loop-i-test.true (c.loop-i.auto.buffer ∙ c.requires.buffer) in omega (arith, here)

pub overflow_mul-i-in-loop-i : goal.overflow_mul-i-in-loop-i
overflow_mul-i-in-loop-i g c = let here = chunk_in_bounds g.row.N c.loop-i.i (length c.args.samples.now) (length c.loop-i.buffer) c.loop-i-test.true (c.loop-i.auto.buffer ∙ c.requires.buffer) in omega (arith, here)

pub overflow_add-i : goal.overflow_add-i
overflow_add-i g c = let here = chunk_in_bounds g.row.N c.loop-i.i (length c.args.samples.now) (length c.loop-i.buffer) c.loop-i-test.true (c.loop-i.auto.buffer ∙ c.requires.buffer) in omega (arith, here)
