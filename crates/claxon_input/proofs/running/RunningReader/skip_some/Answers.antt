use Rattle.std.proofs.Common.{rules, arith, ap, ◌∙◌, ◌++◌, sym}
use Rattle.claxon_input.proofs.Sources.{takes_with_value, same_front_as, failure_or_eof_more, failure_or_eof_with_value, on_err}
use Rattle.claxon_input.proofs.running.RunningReader.skip_some.Goals as goal

pub returns-clause-are_skipped : goal.returns-clause-are_skipped
returns-clause-are_skipped g c =
    let old = g.R.ReadBytes.source c.args.self.now.inner in
    let new = g.R.ReadBytes.source c.skip.new.self in
    let (xs, l, t) = c.in_ok-skip.ensures.are_skipped in (
      xs,
      l,
      takes_with_value (g.S.Running.update c.args.self.now.state) (g.S.Running.update c.after-state.result) t
          (λ known ys. c.after-state.ensures ys
          ∙ ap (λ bytes. g.S.Running.update c.args.self.now.state (bytes ++ ys)) (sym (same_front_as old.remaining new.remaining c.buffered-bytes.result.now xs c.min-count.result (omega arith) c.buffered-bytes.ensures.is_front t.moved.front l (search rules) known))),
    )

pub returns-in_err-skip-clause-failure_or_eof : goal.returns-in_err-skip-clause-failure_or_eof
returns-in_err-skip-clause-failure_or_eof g c =
    on_err c.from_residual-in_err-skip.result
    (failure_or_eof_more c.min-count.result c.args.most (search rules) (failure_or_eof_with_value (g.S.Running.update c.args.self.now.state) c.in_err-skip.ensures.failure_or_eof))
