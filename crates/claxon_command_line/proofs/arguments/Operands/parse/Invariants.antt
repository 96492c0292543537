use Rattle.std.proofs.Common.{◌≡◌, ◌+◌, ◌≤◌, length}
use Rattle.claxon_command_line.specs.Arguments.{
  first_option_at,
  first_option_of,
  operands_at,
  operands_of,
  words_left,
  words_of,
}
use Rattle.claxon_command_line.proofs.arguments.Operands.parse.Given as goal

abbrev pub invariant-loop-argument : goal.invariant-loop-argument
invariant-loop-argument l = record {
  first_option : first_option_of l.words
      ≡ first_option_at l.arguments.has_options (words_of l.arguments);
  operands : l.count + length (operands_at l.arguments.has_options (words_of l.arguments))
      ≡ length (operands_of l.words);
  bound : l.count + words_left l.arguments ≤ length l.words;
}

abbrev pub decreases-loop-argument : goal.decreases-loop-argument
decreases-loop-argument l = words_left l.arguments
