use Rattle.std.proofs.Common.{◌*◌, ◌++◌, ℕ, ℤ, List, length, drop, ap, ◌∙◌}
use Rattle.claxon.proofs.Interleaving.{all_interleaved}
use Rattle.claxon.specs.Streams.{interleave}
use Rattle.claxon_c.proofs.interleave.put_interleaved.Goals as goal

pub returns : goal.returns
returns c =
    let channels = c.args.block.now.channels in
    let samples = c.args.samples.now in
    record {
      are_put = ap (λ (z : List ℤ). z ++ drop (c.channels.result * c.duration-duration.result) samples) (c.interleave.ensures ∙ all_interleaved channels c.duration-duration.result c.duration-duration.ensures.value)
          ∙ ap (λ (k : ℕ). interleave channels ++ drop (k * c.duration-duration.result) samples) c.channels.ensures.value ∙ ap (λ (k : ℕ). interleave channels ++ drop (length channels * k) samples) c.duration-duration.ensures.value;
    }
