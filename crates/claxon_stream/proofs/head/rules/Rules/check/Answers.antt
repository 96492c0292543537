use Rattle.std.proofs.Common.{◌∙◌, refl, sym}
use Rattle.claxon.specs.Fault.{fault_text}
use Rattle.claxon_stream.proofs.head.rules.Rules.check.Goals as goal

pub returns-then-misses_info : goal.returns-then-misses_info
unfolding fault_text
returns-then-misses_info g c = rw (sym c.misses_info.ensures ∙ c.if-misses_info.true) (refl, refl)

pub returns-then-has_second_info : goal.returns-then-has_second_info
unfolding fault_text
returns-then-has_second_info g c = rw (sym c.misses_info.ensures ∙ c.if-misses_info.false, sym c.has_second_info.ensures ∙ c.if-has_second_info.true) (refl, refl)

pub returns-then-has_second_comment : goal.returns-then-has_second_comment
unfolding fault_text
returns-then-has_second_comment g c =
    rw (sym c.misses_info.ensures ∙ c.if-misses_info.false, sym c.has_second_info.ensures ∙ c.if-has_second_info.false, sym c.has_second_comment.ensures ∙ c.if-has_second_comment.true) (refl, refl)
