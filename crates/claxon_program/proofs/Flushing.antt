-- Text that was put, and the flush after it failed.
use Rattle.std.proofs.Common.{◌≡◌, ◌⊎◌, inl, inr, ℕ, List, [], Option, subst, ◌∙◌, append-nil}
use Rattle.std.specs.Prelude.{IfErr, Result, Ok, Err}
use Rattle.std.specs.Io.KnownBytes.{Appends}
use Rattle.std.proofs.KnownBytes.{Appends-trans}
use Rattle.claxon.specs.Errors.{Error}
use Rattle.claxon.specs.Errors.TheVariants.{OutOfMemory}
use Rattle.claxon_write.specs.Output.{FlushFaultIsSound}
use Rattle.claxon_write.specs.Written.{FailsToPut, IsUnflushed, Puts, contents_with_pending, writer_contents}
use Rattle.claxon_write.specs.declared.output.Output.{Output}
use Rattle.claxon_write.proofs.Counts.{flush_failed_after, flushed_after}
use Rattle.claxon_write.proofs.Puts.{fails_after, fails_as}
use Rattle.claxon_program.specs.Facts.{FailsToFlushAfter}

-- bytes that were put, and then a flush
module _ {W : Type 0} {contents : W → Option (List ℕ)} {bytes : List ℕ} {a b : Output W} (c : Output W) (h : Puts contents bytes a b) (u : IsUnflushed a b) where
  pub put_not_flushed : (r : Result (Unit {0}) Error) → FlushFaultIsSound contents r b c → IfErr r (λ e. ((e ≡ OutOfMemory) × (c ≡ a)) ⊎ ((FailsToPut contents bytes e a c × IsUnflushed a c) ⊎ FailsToFlushAfter contents bytes e a c))
  put_not_flushed (Ok done) k = tt
  put_not_flushed (Err e) (inl k) = inr (inl (fails_as (append-nil bytes) (fails_after h k.0), k.1 ∙ u))
  put_not_flushed (Err e) (inr k) = inr (inr (record {
    is_io = k.is_io;
    failed = flush_failed_after h.nothing_failed k.failed;
    flushed = flushed_after u k.flushed;
    written = subst (λ (z : List ℕ). Appends (contents_with_pending contents a) (writer_contents contents c) z) (append-nil bytes) (Appends-trans (contents_with_pending contents a) (contents_with_pending contents b) (writer_contents contents c) bytes [] h.bytes_are k.written);
  }))
