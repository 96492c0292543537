-- How many bytes are kept.
use Rattle.std.proofs.Common.{◌≤◌, Option, None, Some, arith, min}
use Rattle.std.proofs.Math.Nat.{le-max_right}
use Rattle.claxon.specs.StreamInfos.{StreamInfo}
use Rattle.claxon_recovery.specs.Kept.{most_kept, verbatim_bytes}

pub least_kept : (info : Option StreamInfo) → 524288 ≤ most_kept info
least_kept None = omega arith
least_kept (Some info) = le-max_right (min (verbatim_bytes info) 4194304) 524288
