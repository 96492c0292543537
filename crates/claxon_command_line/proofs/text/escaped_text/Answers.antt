use Rattle.std.proofs.Common.{ap, sym, ◌∙◌, map-id, append-nil}
use Rattle.std.proofs.lemmas.Grind.{flat_map-append}
use Rattle.std.proofs.lemmas.Iterator.{YieldsList-from_chars}
use Rattle.std.proofs.lemmas.Iterator.Consumers.{YieldsList-end}
use Rattle.std.specs.Prelude.{flat_map}
use Rattle.claxon_command_line.specs.Text.{escaped_char}
use Rattle.claxon_command_line.proofs.text.escaped_text.Goals as goal

pub loop-c-preserved : goal.loop-c-preserved
loop-c-preserved g c = rw (flat_map-append, append-nil, ← c.loop-c.invariant) c.in_ok-push_escaped.ensures.adds

pub returns : goal.returns
returns g c =
    let done = YieldsList-end (YieldsList-from_chars c.args.text.now c.utf8.text cc) c.loop-c.yielded _ c.loop-c.yielded_by _ _ c.in-None.is c.next.ensures.steps in
    record { is_text = c.loop-c.invariant ∙ ap (λ cs. flat_map escaped_char cs) (sym (map-id c.loop-c.yielded) ∙ done.0) }
