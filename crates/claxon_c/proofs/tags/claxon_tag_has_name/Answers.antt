use Rattle.std.proofs.Common.{rules, arith}
use Rattle.std.proofs.lemmas.Grind.{common_steps}
use Rattle.claxon_c.proofs.tags.claxon_tag_has_name.Goals as goal

pub returns-then-at-content : goal.returns-then-at-content
returns-then-at-content c = grind (arith, common_steps)

pub returns-then-eq_ignore_ascii_case : goal.returns-then-eq_ignore_ascii_case
returns-then-eq_ignore_ascii_case c = grind (arith, common_steps)

pub returns-else-eq_ignore_ascii_case : goal.returns-else-eq_ignore_ascii_case
returns-else-eq_ignore_ascii_case c = search rules
