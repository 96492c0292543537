use Rattle.std.proofs.Common.{◌≡◌, ◌^◌, ◌∙◌, ap, arith}
use Rattle.std.proofs.lemmas.Grind.{common_steps}
use Rattle.claxon_format.specs.read.Bits.{twos_complement, signed_at}
use Rattle.claxon_format.proofs.Numbers.{mod_small}
use Rattle.claxon_subframe.proofs.subframe.read_sample.Goals as goal

pub returns : goal.returns
unfolding signed_at
returns g c = record {
  gives =
      let k : c.extend_sign_u32.result ≡ twos_complement c.args.bit_depth c.in_ok-sample.sample
      = c.extend_sign_u32.ensures.value ∙ ap (twos_complement c.args.bit_depth) (mod_small c.in_ok-sample.sample (2 ^ c.args.bit_depth) c.in_ok-sample.ensures.value) in
      grind (arith, common_steps);
}
