use Rattle.std.proofs.Common.{◌≡◌, take}
use Rattle.std.specs.Prelude.{All}
use Rattle.claxon_recovery.proofs.passed.are_zeros.Given as goal

-- The bytes so far are 0.
abbrev pub invariant-loop-byte : goal.invariant-loop-byte
invariant-loop-byte l = All (λ byte. byte ≡ 0) (take l.byte-index l.bytes)
