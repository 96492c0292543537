use Rattle.claxon_command_line.proofs.ListedNames.{NameSoFar}
use Rattle.claxon_command_line.proofs.names.read_name.Given as goal

-- What was read so far.
abbrev pub invariant-loop : goal.invariant-loop
invariant-loop g l = NameSoFar g.R.ReadBytes.source l.fn.input l.input l.name.items
