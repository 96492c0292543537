-- Counts of a writer's failed calls and flushes, over several calls.
use Rattle.std.proofs.Common.{ℕ, ◌+◌, ◌%◌, ◌^◌, refl, ap, ◌∙◌}
use Rattle.claxon_write.specs.CountingWriter.{CountsFailedFlush, CountsFailedWrite, CountsFlush, CountsNoFailure, CountsNoFlush}
use Rattle.claxon_write.specs.declared.counting_writer.CountingWriter.{CountingWriter}

module _ {W : Type 0} where
  pub none_failed : (a : CountingWriter W) → CountsNoFailure a a
  none_failed a = record { writes = refl; flushes = refl; seeks = refl }

  pub none_failed_both : {a b c : CountingWriter W} → CountsNoFailure a b → CountsNoFailure b c → CountsNoFailure a c
  none_failed_both h k = record { writes = k.writes ∙ h.writes; flushes = k.flushes ∙ h.flushes; seeks = k.seeks ∙ h.seeks }

  pub write_failed_after : {a b c : CountingWriter W} → CountsNoFailure a b → CountsFailedWrite b c → CountsFailedWrite a c
  write_failed_after h k = record { writes = k.writes ∙ ap (λ (n : ℕ). (n + 1) % 2 ^ 64) h.writes; flushes = k.flushes ∙ h.flushes; seeks = k.seeks ∙ h.seeks }

  pub flush_failed_after : {a b c : CountingWriter W} → CountsNoFailure a b → CountsFailedFlush b c → CountsFailedFlush a c
  flush_failed_after h k = record { writes = k.writes ∙ h.writes; flushes = k.flushes ∙ ap (λ (n : ℕ). (n + 1) % 2 ^ 64) h.flushes; seeks = k.seeks ∙ h.seeks }

  pub flushed_after : {a b c : CountingWriter W} → CountsNoFlush a b → CountsFlush b c → CountsFlush a c
  flushed_after h k = record { once = k.once ∙ ap (λ (n : ℕ). (n + 1) % 2 ^ 64) h; last = k.last }
