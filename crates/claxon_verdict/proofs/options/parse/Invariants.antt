use Rattle.std.proofs.Common.{◌+◌, ◌≤◌, length}
use Rattle.claxon_command_line.specs.Arguments.{words_left}
use Rattle.claxon_verdict.proofs.CommandLines.{GoesOn}
use Rattle.claxon_verdict.specs.Options.{arguments_left, arguments_of}
use Rattle.claxon_verdict.proofs.options.parse.Given as goal

abbrev pub invariant-loop-argument : goal.invariant-loop-argument
invariant-loop-argument l = record {
  goes_on : GoesOn (arguments_of l.words) (arguments_left l.arguments) l.list l.options l.count;
  bound : l.count + words_left l.arguments ≤ length l.words;
}

abbrev pub decreases-loop-argument : goal.decreases-loop-argument
decreases-loop-argument l = words_left l.arguments
