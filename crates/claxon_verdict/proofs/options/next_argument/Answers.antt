use Rattle.std.proofs.Common.{inl, rules}
use Rattle.claxon_verdict.proofs.CommandLines.{none_left}
use Rattle.claxon_verdict.proofs.options.next_argument.Goals as goal

pub returns-in_err-next-clause-gives : goal.returns-in_err-next-clause-gives
returns-in_err-next-clause-gives c =
    let is = c.in_err-next.ensures.is_sound in
    let old = none_left _ _ is.0 in
    let new = none_left c.next.new.self.has_options _ (inl is.1) in
    search rules
