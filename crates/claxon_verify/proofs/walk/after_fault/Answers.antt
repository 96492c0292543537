use Rattle.std.proofs.Common.{◌≡◌, true, false, sym, ◌∙◌}
use Rattle.claxon_verify.proofs.FaultBytes.{no_sync_kept, others_kept}
use Rattle.claxon_verify.proofs.walk.after_fault.Goals as goal

pub returns-then-is_no_sync_code : goal.returns-then-is_no_sync_code
returns-then-is_no_sync_code c = record {
  keeps = λ more n bytes of t tail.
      let two = c.with_two.ensures in
      no_sync_kept c.args.fault.now c.args.after c.with_two.result more n bytes t tail two.two two.fewer (c.is_no_sync_code.ensures.0 c.if-is_no_sync_code.true) of;
}

pub returns-else-is_no_sync_code : goal.returns-else-is_no_sync_code
returns-else-is_no_sync_code c = record {
  keeps = λ more n bytes of t tail.
      others_kept c.args.fault.now c.args.after c.with_frame.result more n bytes t tail c.with_frame.ensures
      (λ same. let e : true ≡ false = sym (c.is_no_sync_code.ensures.1 same) ∙ c.if-is_no_sync_code.false in absurd cc) of;
}
