use Rattle.std.proofs.Common.{ap, rules}
use Rattle.std.proofs.lemmas.Result.{err_from_is_err_and}
use Rattle.claxon_format.specs.read.Bytes.{big_at}
use Rattle.claxon_format.specs.read.Reading.{bind}
use Rattle.claxon_format.specs.read.Header.{blocking_at, sync_at}
use Rattle.claxon_input.proofs.FieldOrEof.{gives_big_or_eof, exit_or_eof, io_exit_or_eof, failure_or_any_in, after_first, some_ok, some_stops}
use Rattle.claxon_frame.proofs.frame.header.read_sync_or_eof.Goals as goal

pub returns-in_err-sync : goal.returns-in_err-sync
returns-in_err-sync g c = record { gives = io_exit_or_eof 2 _ (sync_at big_at) (err_from_is_err_and c.from_residual.result c.from_residual.ensures.1) (failure_or_any_in g.R.ReadBytes.source _ c.in_err-sync.ensures.failure) }

pub returns-in_err-blocking_strategy : goal.returns-in_err-blocking_strategy
unfolding sync_at
returns-in_err-blocking_strategy g c = record {
  gives =
      exit_or_eof 2 _ (sync_at big_at) (err_from_is_err_and c.from_residual-in_err-blocking_strategy.result c.from_residual-in_err-blocking_strategy.ensures.1)
      (some_stops 2 (sync_at big_at) (blocking_at c.in-Some.sync) (after_first 2 (big_at 2) (sync_at big_at) (blocking_at c.in-Some.sync) (λ s m e. ap (λ x. bind x blocking_at) e) (rw c.in-Some.is at (gives_big_or_eof g.R.ReadBytes.source _ _ 2 c.in_ok-sync.field-0 (search rules) c.in_ok-sync.ensures.eof_is_sound))) (c.in_err-blocking_strategy.ensures.gives _));
}

pub returns : goal.returns
unfolding sync_at
returns g c = record { gives = some_ok 2 (sync_at big_at) (blocking_at c.in-Some.sync) (after_first 2 (big_at 2) (sync_at big_at) (blocking_at c.in-Some.sync) (λ s m e. ap (λ x. bind x blocking_at) e) (rw c.in-Some.is at (gives_big_or_eof g.R.ReadBytes.source _ _ 2 c.in_ok-sync.field-0 (search rules) c.in_ok-sync.ensures.eof_is_sound))) (c.in_ok-blocking_strategy.ensures.gives _) }
