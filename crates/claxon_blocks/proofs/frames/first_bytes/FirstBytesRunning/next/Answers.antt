use Rattle.std.proofs.Common.{◌≡◌, [], ◌∷◌, arith, length, rules}
use Rattle.claxon_blocks.proofs.KeptBytes.{next_seen, others_more}
use Rattle.claxon_blocks.proofs.frames.first_bytes.FirstBytesRunning.next.Goals as goal

pub returns-then-self-ge16 : goal.returns-then-self-ge16
returns-then-self-ge16 c more =
    let first = c.args.self in
    let size : length first.bytes ≡ 16 = search rules in
    others_more first.seen first.others _ first.bytes (c.args.byte ∷ []) more size c.if-self-ge16.true (omega arith)

pub returns : goal.returns
returns c more =
    let first = c.args.self in
    let size : length first.bytes ≡ 16 = search rules in
    next_seen first.seen first.others c.args.byte _ _ first.bytes more size c.if-self-ge16.false (omega arith) (omega arith)
