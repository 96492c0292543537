use Rattle.std.proofs.Common.{◌≡◌, ◌%◌, arith}
use Rattle.std.specs.Prelude.{slice_index}
use Rattle.std.proofs.lemmas.Bool.Decides.{nat_tests}
use Rattle.claxon_seek.proofs.SyncCode.{invalid_rate}
use Rattle.claxon_seek.proofs.find.has_invalid_rate.Goals as goal

pub returns-then-bytes-ge3 : goal.returns-then-bytes-ge3
returns-then-bytes-ge3 c is more stream info begins =
    let third : slice_index c.args.bytes.now 2 % 16 ≡ 15 = grind (arith, nat_tests, is) in
    invalid_rate c.args.bytes.now more c.if-bytes-ge3.true third stream info begins
