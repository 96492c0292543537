use Rattle.std.proofs.Common.{◌∙◌, ap, append_assoc, sym}
use Rattle.claxon_blocks.specs.FirstBytes.{update_first}
use Rattle.claxon_recovery.specs.Passed.{no_bytes}
use Rattle.claxon_recovery.proofs.Zeros.{zeros_else, zeros_then}
use Rattle.claxon_recovery.proofs.passed.Passed.with.Goals as goal

pub returns-then-self : goal.returns-then-self
returns-then-self c = λ t unsearched h. record {
  first = λ more. c.after.ensures more ∙ h.first _ ∙ ap (update_first no_bytes) (sym (append_assoc t c.args.bytes.now more));
  zeros = zeros_then t c.args.bytes.now _ _ c.if-self.true h.zeros c.are_zeros.ensures;
  count = h.count;
}

pub returns-else-self : goal.returns-else-self
returns-else-self c = λ t unsearched h. record {
  first = λ more. c.after.ensures more ∙ h.first _ ∙ ap (update_first no_bytes) (sym (append_assoc t c.args.bytes.now more));
  zeros = zeros_else t c.args.bytes.now _ c.if-self.false h.zeros;
  count = h.count;
}
