use Rattle.std.proofs.Common.{rules}
use Rattle.claxon_verdict.proofs.options.with_flag.Goals as goal
use Rattle.claxon_verdict.proofs.options.with_flag.Goals.{
  in-text,
  in-text-2,
  in-text-3,
  in-text-4,
  in-text-5,
  in-text-6,
  in-text-7,
  in-text-8,
}

pub returns : goal.returns
returns c = elim c.match-option.branch [
  | in-text w ↦ search rules
  | in-text-2 w ↦ search rules
  | in-text-3 w ↦ search rules
  | in-text-4 w ↦ search rules
  | in-text-5 w ↦ search rules
  | in-text-6 w ↦ search rules
  | in-text-7 w ↦ search rules
  | in-text-8 w ↦ search rules
]
