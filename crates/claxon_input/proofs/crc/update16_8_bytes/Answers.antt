use Rattle.std.proofs.Common.{rules, sym, ap, ◌∙◌, ◌+◌, ◌*◌, bit_xor, get_or}
use Rattle.std.proofs.lemmas.Nat.{and_mask}
use Rattle.claxon_input.specs.CrcUpdate.{update_crc16, after_zeros}
use Rattle.claxon_input.proofs.CrcUpdate.{update16_8_bytes_is, eight_of}
use Rattle.claxon_input.proofs.crc.update16_8_bytes.Goals as goal

pub returns : goal.returns
returns c =
    let bs = c.args.bytes.now in
    let i = c.args.at in
    let n = c.args.zeros in
    update16_8_bytes_is n c.args.state (get_or bs i 0) (get_or bs (i + 1) 0) (get_or bs (i + 2) 0) (get_or bs (i + 3) 0) (get_or bs (i + 4) 0) (get_or bs (i + 5) 0) (get_or bs (i + 6) 0) (get_or bs (i + 7) 0)
    c.entry16-7.result c.entry16-8.result c.entry16.result c.entry16-2.result c.entry16-3.result c.entry16-4.result c.entry16-5.result c.entry16-6.result
    (search rules) (search rules) (search rules) (search rules) (search rules) (search rules) (search rules) (search rules) (search rules)
    (record {
      at7 = c.entry16-7.ensures;
      at6 = c.entry16-8.ensures ∙ ap (λ z. after_zeros (n + 6 + 1) (bit_xor z (get_or bs (i + 1) 0) * 256)) (and_mask c.args.state 8);
      at5 = c.entry16.ensures;
      at4 = c.entry16-2.ensures;
      at3 = c.entry16-3.ensures;
      at2 = c.entry16-4.ensures;
      at1 = c.entry16-5.ensures;
      at0 = c.entry16-6.ensures;
    })
    ∙ ap (λ z. after_zeros n (update_crc16 c.args.state z)) (sym (eight_of i bs c.requires.within))
