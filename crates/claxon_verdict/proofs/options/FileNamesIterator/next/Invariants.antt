use Rattle.std.proofs.Common.{◌≡◌}
use Rattle.claxon_command_line.specs.Arguments.{words_left}
use Rattle.claxon_verdict.specs.Options.{arguments_left, operands_of}
use Rattle.claxon_verdict.proofs.options.FileNamesIterator.next.Given as goal

-- The same names are left as at first.
abbrev pub invariant-loop-argument : goal.invariant-loop-argument
invariant-loop-argument l =
    operands_of (arguments_left l.fn.self.arguments) ≡ operands_of (arguments_left l.self.arguments)

abbrev pub decreases-loop-argument : goal.decreases-loop-argument
decreases-loop-argument l = words_left l.self.arguments
