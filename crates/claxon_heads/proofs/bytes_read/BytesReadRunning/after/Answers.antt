use Rattle.std.proofs.Common.{ℕ, ◌+◌, ◌*◌, ◌^◌, ap, ap₂, sym, ◌∙◌, arith, length-append}
use Rattle.claxon_heads.specs.BytesRead.{last_of}
use Rattle.claxon_heads.proofs.LastBytes.{last_append}
use Rattle.claxon_heads.proofs.bytes_read.BytesReadRunning.after.Goals as goal

pub returns : goal.returns
returns c more =
    let xs = c.args.bytes.now in
    let self = c.args.self in
    ap₂ (λ (n : ℕ) (last : ℕ). n + 2 ^ 64 * last) (omega (arith, length-append xs more)) (ap (λ (z : ℕ). last_of z more) c.last_or.ensures ∙ sym (last_append self.last xs more))
