use Rattle.std.proofs.Common.{◌≡◌, ℕ, List, ◌++◌, drop, length}
use Rattle.claxon_blocks.specs.FirstBytes.{update_first}
use Rattle.claxon_blocks.proofs.frames.first_bytes.FirstBytesRunning.after.Given as goal

-- The bytes so far are in the state, which has places for 16.
abbrev pub invariant-loop-at : goal.invariant-loop-at
invariant-loop-at l =
    (length l.first.bytes ≡ 16) × ((more : List ℕ) → update_first l.first (drop l.at l.fn.bytes ++ more) ≡ update_first l.fn.self (l.fn.bytes ++ more))
