use Rattle.std.proofs.Common.{◌*◌, ◌∷◌, ◌∙◌, [], ℕ, length, refl, ap, arith, rules}
use Rattle.claxon.proofs.Interleaving.{all_ranges, chunk_in_bounds, no_range, stereo_more}
use Rattle.claxon.proofs.interleave.put_stereo.Goals as goal

pub loop-i-init : goal.loop-i-init
loop-i-init g c = no_range g.U.SampleUnit.units (c.args.left.now ∷ c.args.right.now ∷ []) (2 * g.U.SampleUnit.SIZE) c.args.buffer.now

pub loop-i-preserved : goal.loop-i-preserved
loop-i-preserved g c =
    let s = c.args.left.now in
    let t = c.args.right.now in
    let i = c.loop-i.i in
    let size = g.U.SampleUnit.SIZE in
    let here = chunk_in_bounds (2 * size) i (length s) (length c.loop-i.buffer) c.loop-i-test.true (c.loop-i.auto.buffer ∙ c.requires.buffer) in
    stereo_more g.U.SampleUnit.units size g.met.U.SampleUnit.size s t i (2 * size) _ c.loop-i.buffer c.put_pair.new.place refl (omega (arith, here)) c.put_pair.ensures (search rules) (search rules) (ap (λ (k : ℕ). i * (2 * k)) c.SIZE.ensures) c.loop-i.invariant

pub returns : goal.returns
returns g c = all_ranges g.U.SampleUnit.units (c.args.left.now ∷ c.args.right.now ∷ []) (2 * g.U.SampleUnit.SIZE) (length c.args.left.now) c.loop-i.i c.loop-i.buffer (c.loop-i.auto.buffer ∙ c.requires.buffer) (omega arith) c.loop-i.invariant
