use Rattle.std.proofs.Common.{◌≡◌, take, drop, map}
use Rattle.claxon_subframe.specs.RiceCodes.{decoded}
use Rattle.claxon_subframe.proofs.subframe.rice.decode_zigzag.Given as goal

abbrev pub invariant-loop-number : goal.invariant-loop-number
invariant-loop-number l = record {
  done : take l.number-index l.numbers ≡ map decoded (take l.number-index l.fn.numbers);
  rest : drop l.number-index l.numbers ≡ drop l.number-index l.fn.numbers;
}
