use Rattle.std.proofs.Common.{rules, arith, subst, ◌+◌, false, replicate}
use Rattle.claxon_input.specs.Bitstream.{left_in, TakesBits}
use Rattle.claxon_input.proofs.BitSteps.{bits_none, more_zeros, fetched}
use Rattle.claxon_input.proofs.bits.Bitstream.skip_buffered_zeros.Goals as goal

pub loop-cache-preserved : goal.loop-cache-preserved
loop-cache-preserved g c =
    let t = subst (λ n. TakesBits (left_in c.args.cache c.args.count (g.R.ReadBytes.source c.args.reader.now)) (left_in n c.loop-cache.count (g.R.ReadBytes.source c.loop-cache.reader)) (replicate c.loop-cache.zeros false)) c.loop-cache-test.true c.loop-cache.invariant.taken in
    record {
      few = omega arith;
      bound = omega arith;
      fits = search rules;
      taken = fetched (replicate (c.loop-cache.zeros + c.loop-cache.count) false) c.in-Some.byte (more_zeros (g.R.ReadBytes.source c.loop-cache.reader) c.loop-cache.zeros c.loop-cache.count t) c.in-Some.ensures.is_sound;
    }

pub loop-cache-init : goal.loop-cache-init
loop-cache-init g c = record {
  few = omega arith;
  bound = omega arith;
  fits = c.requires.fits;
  taken = bits_none (left_in c.args.cache c.args.count (g.R.ReadBytes.source c.args.reader.now));
}
