use Rattle.std.proofs.Common.{◌∙◌, sym, ap, take, ◌++◌}
use Rattle.claxon_format.specs.Bits.{Bits, bits, bits_of}
use Rattle.claxon_input.specs.State.{bits_in}
use Rattle.claxon_input.proofs.BufferedBitSteps.{is_buffer_of}
use Rattle.claxon_input.proofs.bits.Bitstream.buffered.Goals as goal

pub returns : goal.returns
unfolding bits_in
returns g c = record {
  is_buffer_of = λ t.
      let b = c.args.self.now in
      let h = is_buffer_of (bits b.count b.cache) (g.R.ReadBytes.source b.reader).remaining c.buffered.result.now c.buffered.ensures.is_front t in
      (h.0, h.1 ∙ ap (λ (s : Bits). s ++ h.0) (sym {b = bits b.count b.cache ++ bits_of (take 65536 c.buffered.result.now)} c.new.ensures));
}
