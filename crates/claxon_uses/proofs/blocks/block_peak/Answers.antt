use Rattle.std.proofs.Common.{◌∙◌, ap, max, sym, take, ℕ}
use Rattle.claxon_uses.specs.Peak.{peak_of}
use Rattle.claxon_uses.proofs.Peaks.{max_is, peak_more, peak_none}
use Rattle.claxon_uses.proofs.blocks.block_peak.Goals as goal

pub loop-ch-init : goal.loop-ch-init
loop-ch-init g c = sym peak_none

pub loop-ch-preserved : goal.loop-ch-preserved
loop-ch-preserved g c =
    let channels = c.args.block.now.channels in
    let ch = c.loop-ch.ch in
    c.max-peak.ensures ∙ max_is c.loop-ch.peak c.greatest.result ∙ ap (λ (k : ℕ). max k c.greatest.result) c.loop-ch.invariant
    ∙ ap (λ (k : ℕ). max (peak_of (take ch channels)) k) c.greatest.ensures ∙ sym (peak_more channels ch c.channel.result.now c.channel.ensures.samples)
