use Rattle.std.proofs.Common.{sym, ◌∙◌, ap, ◌*◌, ◌<◌, ◌≡◌, length, arith}
use Rattle.claxon_frame.proofs.ChannelsInBuffer.{length-chunks, get-chunks, chunk_ends, duration-chunks, same_part, length-part}
use Rattle.claxon_frame.proofs.frame.block.Block.channel.Goals as goal

pub slice_bounds-result-end : goal.slice_bounds-result-end
slice_bounds-result-end g c =
    let n : length c.args.self.now.channels ≡ c.self.inside.channels = rw (← c.self.view_is) (length-chunks _ _ _) in
    let few : c.args.ch < c.self.inside.channels = omega (arith, c.requires) in
    let e = chunk_ends c.self.inside.channels c.self.inside.duration c.args.ch few in
    let w : length c.deref.result.now ≡ c.self.inside.channels * c.self.inside.duration = ap length c.deref.ensures.value ∙ c.self.invariant.0 in
    omega (arith, e, w)

pub returns-clause-samples : goal.returns-clause-samples
returns-clause-samples g c =
    let n : length c.args.self.now.channels ≡ c.self.inside.channels = rw (← c.self.view_is) (length-chunks _ _ _) in
    let few : c.args.ch < c.self.inside.channels = omega (arith, c.requires) in
    let e = get-chunks c.self.inside.channels c.self.inside.duration c.args.ch c.self.inside.buffer.items few in
    rw (← c.self.view_is, c.deref.ensures.value) (e ∙ same_part c.self.inside.buffer.items (omega arith) (omega arith))

pub returns-clause-len : goal.returns-clause-len
returns-clause-len g c =
    let n : length c.args.self.now.channels ≡ c.self.inside.channels = rw (← c.self.view_is) (length-chunks _ _ _) in
    let few : c.args.ch < c.self.inside.channels = omega (arith, c.requires) in
    let fits = chunk_ends c.self.inside.channels c.self.inside.duration c.args.ch few in
    let d = duration-chunks c.self.inside.channels c.self.inside.duration c.self.inside.buffer.items c.self.invariant.0 c.self.invariant.3 in
    let whole : length c.deref.result.now ≡ c.self.inside.channels * c.self.inside.duration = ap length c.deref.ensures.value ∙ c.self.invariant.0 in
    rw (← c.self.view_is) (length-part _ c.deref.result.now (omega arith) (omega (arith, fits, whole)) ∙ sym d)
