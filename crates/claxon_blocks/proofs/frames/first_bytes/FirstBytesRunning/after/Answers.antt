use Rattle.std.proofs.Common.{◌∙◌, arith, drop, length-drop}
use Rattle.claxon_blocks.proofs.KeptBytes.{others_more}
use Rattle.claxon_blocks.proofs.frames.first_bytes.FirstBytesRunning.after.Goals as goal

pub returns-then-first-ge16 : goal.returns-then-first-ge16
returns-then-first-ge16 c more =
    let first = c.loop-at.first in
    others_more first.seen first.others _ first.bytes (drop c.loop-at.at c.args.bytes.now) more c.loop-at.invariant.0 c.if-first-ge16.true (omega (arith, length-drop c.loop-at.at c.args.bytes.now)) ∙ c.loop-at.invariant.1 more
