use Rattle.std.proofs.Common.{◌≡◌}
use Rattle.claxon_command_line.specs.Arguments.{operands_at, words_left, words_of}
use Rattle.claxon_command_line.proofs.arguments.OperandsIterator.next.Given as goal

-- The same operands are left as at first.
abbrev pub invariant-loop-argument : goal.invariant-loop-argument
invariant-loop-argument l =
    operands_at l.fn.self.arguments.has_options (words_of l.fn.self.arguments)
    ≡ operands_at l.self.arguments.has_options (words_of l.self.arguments)

abbrev pub decreases-loop-argument : goal.decreases-loop-argument
decreases-loop-argument l = words_left l.self.arguments
