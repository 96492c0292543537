use Rattle.std.proofs.Common.{ℕ, List, ◌++◌, take}
use Rattle.claxon_verify.specs.Trailing.{AreBytes, IsOfTail}
use Rattle.claxon_verify.proofs.trailing.BytesAfter.with_bytes.Given as goal

-- The bytes so far are kept.
abbrev pub invariant-loop-byte : goal.invariant-loop-byte
invariant-loop-byte l = record {
  kept : (t : List ℕ) → IsOfTail t l.fn.self → IsOfTail (t ++ take l.byte-index l.first) l.after;
  bytes : AreBytes l.first;
}
