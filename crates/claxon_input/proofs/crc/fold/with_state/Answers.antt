use Rattle.std.proofs.Common.{rules, ◌≡◌, length, arith}
use Rattle.std.proofs.lemmas.Nat.{and_mask}
use Rattle.claxon_input.proofs.CrcFolding.{state_xored}
use Rattle.claxon_input.proofs.crc.fold.with_state.Goals as goal

pub returns : goal.returns
returns c =
    let l : length c.args.bytes.now ≡ 128 = search rules in
    state_xored c.args.state _ _ c.args.bytes.now (search rules) (omega (arith, and_mask c.args.state 8)) (omega (arith, and_mask c.args.state 8)) (omega arith) (search rules) (search rules)
